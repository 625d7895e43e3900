use Rattle.std.proofs.Common.{refl}
use Rattle.floor_meetings.specs.Runs.{Join, MakeRoom, Refused}
use Rattle.floor_turn.proofs.Moving.{moves_one, moves_then}
use Rattle.floor_turn.proofs.Sparing.{free_one, free_same, free_then, room_made}
use Rattle.floor_turn.proofs.server.Server.join.Goals as goal

pub returns-in-Ok-clause-moves : goal.returns-in-Ok-clause-moves
returns-in-Ok-clause-moves c =
    moves_then c.args.self.now.meetings c.make_room-gone.new.self c.join-joined.new.self
    (moves_one (MakeRoom c.make_room-gone.result) c.args.self.now.meetings c.make_room-gone.new.self (c.make_room-gone.ensures.members, c.make_room-gone.ensures.quiet) (λ slot. refl))
    (moves_one (Join c.args.socket c.args.conference c.args.user) c.make_room-gone.new.self c.join-joined.new.self c.in-Ok.ensures.took (λ slot. refl))

pub returns-in-Err-clause-moves : goal.returns-in-Err-clause-moves
returns-in-Err-clause-moves c =
    moves_then c.args.self.now.meetings c.make_room-gone.new.self c.join-joined.new.self
    (moves_one (MakeRoom c.make_room-gone.result) c.args.self.now.meetings c.make_room-gone.new.self (c.make_room-gone.ensures.members, c.make_room-gone.ensures.quiet) (λ slot. refl))
    (moves_one (Refused c.args.conference c.args.user c.in-Err.refusal) c.make_room-gone.new.self c.join-joined.new.self (c.in-Err.ensures.slots, c.in-Err.ensures.left) (λ slot. refl))

pub returns-in_err-check-clause-spares : goal.returns-in_err-check-clause-spares
returns-in_err-check-clause-spares c = λ free. free_same c.args.self.now.connections.conferences c.args.self.now.meetings c.args.self.now.meetings refl

pub returns-in-Ok-clause-spares : goal.returns-in-Ok-clause-spares
returns-in-Ok-clause-spares c = λ free.
    free_then c.args.self.now.connections.conferences c.args.self.now.meetings c.make_room-gone.new.self c.join-joined.new.self
    (free_one c.args.self.now.connections.conferences (MakeRoom c.make_room-gone.result) c.args.self.now.meetings c.make_room-gone.new.self (c.make_room-gone.ensures.members, c.make_room-gone.ensures.quiet) (λ slot. refl)
    (room_made c.args.self.now.connections.conferences c.args.self.now.meetings c.args.conference c.args.user c.make_room-gone.result free c.make_room-gone.ensures.found))
    (free_one c.args.self.now.connections.conferences (Join c.args.socket c.args.conference c.args.user) c.make_room-gone.new.self c.join-joined.new.self c.in-Ok.ensures.took (λ slot. refl) free)

pub returns-in-Err-clause-spares : goal.returns-in-Err-clause-spares
returns-in-Err-clause-spares c = λ free.
    free_then c.args.self.now.connections.conferences c.args.self.now.meetings c.make_room-gone.new.self c.join-joined.new.self
    (free_one c.args.self.now.connections.conferences (MakeRoom c.make_room-gone.result) c.args.self.now.meetings c.make_room-gone.new.self (c.make_room-gone.ensures.members, c.make_room-gone.ensures.quiet) (λ slot. refl)
    (room_made c.args.self.now.connections.conferences c.args.self.now.meetings c.args.conference c.args.user c.make_room-gone.result free c.make_room-gone.ensures.found))
    (free_one c.args.self.now.connections.conferences (Refused c.args.conference c.args.user c.in-Err.refusal) c.make_room-gone.new.self c.join-joined.new.self (c.in-Err.ensures.slots, c.in-Err.ensures.left) (λ slot. refl) free)
