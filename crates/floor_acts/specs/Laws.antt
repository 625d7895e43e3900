-- An act that is printed is read back.
use Rattle.std.specs.Prelude.{◌≡◌, ◌++◌, ℕ, Bool, true, false, Option, Some, None, Ok, List, [], codes}
use Rattle.std.specs.Fmt.{decimal}
use Rattle.floor_config.specs.declared.floors.Floor.{Floor}
use Rattle.floor_config.specs.declared.users.User.{User}
use Rattle.floor_machine.specs.declared.act.Act.{Act}
use Rattle.floor_machine.specs.declared.act.Act.TheVariants.{Revoke, Close, AddUser, AddFloor, SetChair}
use Rattle.floor_acts.specs.Acts.{act_of}
use Rattle.floor_acts.specs.declared.act.ActLine.{ActLine}

abbrev pub printed_proxy : Bool → List ℕ
printed_proxy true = codes " proxy"
printed_proxy false = []

abbrev pub printed_port : Option ℕ → List ℕ
printed_port (Some port) = codes " port " ++ decimal port
printed_port None = []

abbrev pub printed_name : Option (List ℕ) → List ℕ
printed_name (Some name) = codes " name " ++ name
printed_name None = []

abbrev pub printed_user : User → List ℕ
printed_user user = decimal user.id ++ (printed_proxy user.proxy ++ (printed_port user.port ++ printed_name user.name))

abbrev pub printed_chair : Option ℕ → List ℕ
printed_chair (Some user) = codes " chair " ++ decimal user
printed_chair None = []

abbrev pub printed_floor : Floor → List ℕ
printed_floor floor = decimal floor.id ++ (codes " room " ++ (decimal floor.room ++ printed_chair floor.chair))

-- the user who is a floor's chair, where it gets one
abbrev pub printed_new_chair : Option ℕ → List ℕ
printed_new_chair (Some user) = codes " " ++ decimal user
printed_new_chair None = []

-- the line of an act upon a conference
abbrev pub printed_act : ℕ → Act → List ℕ
printed_act c Close = codes "close " ++ decimal c
printed_act c (Revoke request) = codes "revoke " ++ (decimal c ++ (codes " " ++ decimal request))
printed_act c (AddUser user) = codes "user " ++ (decimal c ++ (codes " " ++ printed_user user))
printed_act c (AddFloor floor) = codes "floor " ++ (decimal c ++ (codes " " ++ printed_floor floor))
printed_act c (SetChair floor chair) = codes "chair " ++ (decimal c ++ (codes " " ++ (decimal floor ++ printed_new_chair chair)))

abbrev pub printed : ActLine → List ℕ
printed line = printed_act line.conference line.act

-- the act of any line, printed as a line, is read as that act
abbrev pub ActsAreReadBack : Type 0
ActsAreReadBack = (text : List ℕ) (line : ActLine) → act_of text ≡ Ok (Some line) → act_of (printed line) ≡ Ok (Some line)
