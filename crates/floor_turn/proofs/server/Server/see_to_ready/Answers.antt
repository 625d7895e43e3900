use Rattle.std.proofs.Common.{refl}
use Rattle.floor_meetings.specs.Runs.{Discard, Ready}
use Rattle.floor_turn.proofs.Moving.{moves_one, moves_then}
use Rattle.floor_turn.proofs.Sparing.{free_one, free_then}
use Rattle.floor_turn.proofs.server.Server.see_to_ready.Goals as goal

pub returns-in-Some-Member-clause-moves : goal.returns-in-Some-Member-clause-moves
returns-in-Some-Member-clause-moves c = moves_one Ready c.args.self.now.meetings c.ready.new.self (c.ready.ensures.members, c.ready.ensures.quiet) (λ slot. refl)

pub returns-in-None-clause-moves : goal.returns-in-None-clause-moves
returns-in-None-clause-moves c = moves_one Ready c.args.self.now.meetings c.ready.new.self (c.ready.ensures.members, c.ready.ensures.quiet) (λ slot. refl)

pub returns-in-Some-Away-clause-moves : goal.returns-in-Some-Away-clause-moves
returns-in-Some-Away-clause-moves c =
    moves_then c.args.self.now.meetings c.ready.new.self c.discard.new.self
    (moves_one Ready c.args.self.now.meetings c.ready.new.self (c.ready.ensures.members, c.ready.ensures.quiet) (λ slot. refl))
    (moves_one (Discard c.in-Some-Away.number) c.ready.new.self c.discard.new.self (c.discard.ensures.members, c.discard.ensures.took) (λ slot. refl))

pub returns-in-Some-Member-clause-spares : goal.returns-in-Some-Member-clause-spares
returns-in-Some-Member-clause-spares c = λ cs. free_one cs Ready c.args.self.now.meetings c.ready.new.self (c.ready.ensures.members, c.ready.ensures.quiet) (λ slot. refl) tt

pub returns-in-None-clause-spares : goal.returns-in-None-clause-spares
returns-in-None-clause-spares c = λ cs. free_one cs Ready c.args.self.now.meetings c.ready.new.self (c.ready.ensures.members, c.ready.ensures.quiet) (λ slot. refl) tt

pub returns-in-Some-Away-clause-spares : goal.returns-in-Some-Away-clause-spares
returns-in-Some-Away-clause-spares c = λ cs.
    free_then cs c.args.self.now.meetings c.ready.new.self c.discard.new.self
    (free_one cs Ready c.args.self.now.meetings c.ready.new.self (c.ready.ensures.members, c.ready.ensures.quiet) (λ slot. refl) tt)
    (free_one cs (Discard c.in-Some-Away.number) c.ready.new.self c.discard.new.self (c.discard.ensures.members, c.discard.ensures.took) (λ slot. refl) tt)
