-- The text of each answer, without its tag.
use Rattle.std.specs.Prelude.{ℕ, Bool, true, false, Option, Some, None, List, [], ◌++◌, codes}
use Rattle.std.specs.Fmt.{decimal}
use Rattle.hex.specs.Hex.{encode_lower}
use Rattle.floor_config.specs.Names.{name_of}
use Rattle.floor_config.specs.declared.fault.ConfigFault.{ConfigFault}
use Rattle.floor_room.specs.Names.{phase_name}
use Rattle.floor_room.specs.declared.status.Status.{Status}
use Rattle.floor_control.specs.Names.{name_of_fault, name_of_refusal}
use Rattle.floor_control.specs.declared.answer.Done.{Done}
use Rattle.floor_control.specs.declared.answer.Done.TheVariants.{Closed, Revoked, UserAdded, FloorAdded, ChairSet, Left}
use Rattle.floor_control.specs.declared.answer.Notice.{Notice}
use Rattle.floor_control.specs.declared.answer.Notice.TheVariants.{Away, Back, Broken, Unkept}
use Rattle.floor_control.specs.declared.answer.Standing.{Standing}
use Rattle.floor_control.specs.declared.line.LineFault.{LineFault}
use Rattle.floor_control.specs.declared.refusal.ControlRefusal.{ControlRefusal}

-- a line that is none
abbrev pub unread : LineFault → List ℕ
unread fault = codes "error " ++ (name_of_fault fault ++ codes "\n")

-- a line that isn't done
abbrev pub refused : ControlRefusal → List ℕ
refused refusal = codes "error " ++ (name_of_refusal refusal ++ codes "\n")

-- a configuration that is refused, with the line of the fault
abbrev pub faulty_at : ConfigFault → ℕ → List ℕ
faulty_at fault line = codes "error " ++ (name_of fault ++ (codes " line " ++ (decimal line ++ codes "\n")))

-- what was done to a conference
abbrev pub did : ℕ → Done → List ℕ
did c Closed = codes "ok closed " ++ decimal c
did c (Revoked request) = codes "ok revoked " ++ (decimal c ++ (codes " " ++ decimal request))
did c (UserAdded id) = codes "ok user " ++ (decimal c ++ (codes " " ++ decimal id))
did c (FloorAdded id) = codes "ok floor " ++ (decimal c ++ (codes " " ++ decimal id))
did c (ChairSet floor) = codes "ok chair " ++ (decimal c ++ (codes " " ++ decimal floor))
did c (Left n) = codes "ok left " ++ (decimal c ++ (codes " " ++ decimal n))

-- its place in the journal, if that is told, and the end of the line
abbrev pub at_place : Option ℕ → List ℕ
at_place None = codes "\n"
at_place (Some place) = codes " at " ++ (decimal place ++ codes "\n")

abbrev pub done : ℕ → Done → Option ℕ → List ℕ
done c act place = did c act ++ at_place place

-- a mark where a file was to have the events and hasn't
abbrev pub unkept_mark : Bool → List ℕ
unkept_mark true = codes " unkept"
unkept_mark false = []

-- how a conference stands
abbrev pub status_words : ℕ → Status → List ℕ
status_words c s = codes "conference " ++ (decimal c ++ (codes " members " ++ (decimal s.members ++ (codes " ongoing "
    ++ (decimal s.ongoing ++ (codes " events " ++ (decimal s.events ++ (codes " " ++ phase_name s.phase))))))))

abbrev pub standing_line : Standing → List ℕ
standing_line s = status_words s.conference s.status ++ (unkept_mark s.is_unkept ++ codes "\n")

-- `forget`, `watch`, `unwatch` and `drain`
abbrev pub forgotten : ℕ → List ℕ
forgotten c = codes "ok forgotten " ++ (decimal c ++ codes "\n")

abbrev pub watching : ℕ → ℕ → List ℕ
watching c next = codes "ok watching " ++ (decimal c ++ (codes " " ++ (decimal next ++ codes "\n")))

abbrev pub unwatched : ℕ → List ℕ
unwatched c = codes "ok unwatched " ++ (decimal c ++ codes "\n")

abbrev pub draining : List ℕ
draining = codes "ok draining\n"

-- `word`, by the key
abbrev pub word_kept : ℕ → List ℕ → List ℕ
word_kept c key = codes "ok word " ++ (decimal c ++ (codes " " ++ (key ++ codes "\n")))

-- a word that is kept
abbrev pub word : List ℕ → List ℕ → List ℕ
word key value = codes "word " ++ (key ++ (codes " " ++ (encode_lower value ++ codes "\n")))

-- the end of an answer of so many lines
abbrev pub end_line : ℕ → List ℕ
end_line count = codes "end " ++ (decimal count ++ codes "\n")

-- the end of an answer of so many lines, with the next place of the journal
abbrev pub end_at : ℕ → ℕ → List ℕ
end_at count next = codes "end " ++ (decimal count ++ (codes " " ++ (decimal next ++ codes "\n")))

-- what is told of a conference to those who watch it, and is no event
abbrev pub notice_line : ℕ → Notice → List ℕ
notice_line c (Away n user) = codes "~ " ++ (decimal c ++ (codes " away " ++ (decimal n ++ (codes " user " ++ (decimal user ++ codes "\n")))))
notice_line c (Back n user) = codes "~ " ++ (decimal c ++ (codes " back " ++ (decimal n ++ (codes " user " ++ (decimal user ++ codes "\n")))))
notice_line c Broken = codes "~ " ++ (decimal c ++ codes " broken\n")
notice_line c Unkept = codes "~ " ++ (decimal c ++ codes " unkept\n")
