use Rattle.std.proofs.Common.{◌≡◌, ◌++◌, string_bytes, take, flat_map, Some}
use Rattle.floor_control.specs.People.{member_line}
use Rattle.floor_hub.specs.Hub.{room_at}
use Rattle.floor_poll.specs.Readers.{line_of}
use Rattle.floor_room.specs.Room.{Room}
use Rattle.floor_poll.proofs.worker.Worker.add_members.Given as goal

-- the lines of so many members stand behind the text
abbrev pub invariant-loop-one : goal.invariant-loop-one
invariant-loop-one g l =
    (r : Room) → room_at l.self.hub.hub l.conference ≡ Some r
    → string_bytes l.text ≡ string_bytes l.fn.text ++ flat_map (λ one. member_line (line_of l.self.hub l.self.now r.ledger one)) (take l.one-index l.live)
