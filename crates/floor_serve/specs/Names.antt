-- The names of refusals and faults.
use Rattle.std.specs.Prelude.{ℕ, List, codes}
use Rattle.floor_serve.specs.declared.fault.OpenRefusal.{OpenRefusal}
use Rattle.floor_serve.specs.declared.fault.DeskRefusal.{DeskRefusal}
use Rattle.floor_serve.specs.declared.fault.ReadFault.{ReadFault}
use Rattle.floor_serve.specs.declared.fault.FinishFault.{FinishFault}
use Rattle.floor_room.specs.Names as room

abbrev pub open_name : OpenRefusal → List ℕ
open_name OpenRefusal.Used = codes "Used"
open_name OpenRefusal.Memory = codes "Memory"

abbrev pub desk_name : DeskRefusal → List ℕ
desk_name DeskRefusal.NoConference = codes "NoConference"
desk_name DeskRefusal.Memory = codes "Memory"

-- the fault's own name, or that of the refusal that it is
abbrev pub read_name : ReadFault → List ℕ
read_name ReadFault.Read = codes "Read"
read_name ReadFault.TurnLimit = codes "TurnLimit"
read_name (ReadFault.Refused refusal) = room.name_of refusal
read_name ReadFault.Memory = codes "Memory"

abbrev pub finish_name : FinishFault → List ℕ
finish_name (FinishFault.Broken conference) = codes "Broken"
finish_name (FinishFault.Mismatch conference n) = codes "Mismatch"
