use Rattle.std.proofs.Common.{◌≡◌, ◌≤◌, ◌*◌, ℕ, None, Some, refl, sym, ◌∙◌}
use Rattle.std.proofs.lemmas.Option.{none-some}
use Rattle.floor_loop.specs.Loop.{over_at}
use Rattle.floor_meetings.specs.Runs.{Ready}
use Rattle.floor_turn.proofs.Handing.{if_none, quiet_same}
use Rattle.floor_turn.proofs.Moving.{moves_one}
use Rattle.floor_turn.proofs.Wanted.{if_some, is_a_deadline, is_one, none_over, none_sooner}
use Rattle.floor_turn.proofs.server.Server.due.Goals as goal

pub returns-in-Some-clause-found : goal.returns-in-Some-clause-found
returns-in-Some-clause-found c =
    is_one c.args.self.now c.due-of_sockets.result c.earlier.result c.saturating_mul.result c.in-Some.millis c.in-Some.ensures.found.0 c.due-of_sockets.ensures.found c.in-Some.ensures.found.1 c.saturating_mul.ensures c.earlier.ensures.one

pub returns-in-Some-clause-sockets : goal.returns-in-Some-clause-sockets
returns-in-Some-clause-sockets c =
    none_sooner c.args.self.now.connections.sockets.deadlines c.due-of_sockets.result c.earlier.result c.due-of_sockets.ensures.first c.due-of_sockets.ensures.none c.earlier.ensures.before

pub returns-in-Some-clause-over : goal.returns-in-Some-clause-over
returns-in-Some-clause-over c = λ number until is.
    none_over c.earlier.result c.saturating_mul.result c.in-Some.millis until c.earlier.ensures.within c.saturating_mul.ensures (c.in-Some.ensures.first number until is)

pub returns-in-None-clause-found : goal.returns-in-None-clause-found
returns-in-None-clause-found c = is_a_deadline c.args.self.now c.due-of_sockets.result c.due-of_sockets.ensures.found

pub returns-in-None-clause-over : goal.returns-in-None-clause-over
returns-in-None-clause-over c =
    if_some c.due-of_sockets.result (λ (time : ℕ). (number until : ℕ) → over_at c.args.self.now.meetings.hub number ≡ Some until → time ≤ until * 1000)
    (λ time number until is. absurd (none-some until (sym (c.in-None.ensures.none number) ∙ is)))

pub returns-in-None-clause-nobody : goal.returns-in-None-clause-nobody
returns-in-None-clause-nobody c =
    if_none c.due-of_sockets.result ((number : ℕ) → over_at c.args.self.now.meetings.hub number ≡ None) c.in-None.ensures.none

pub returns-in-Some-clause-moves : goal.returns-in-Some-clause-moves
returns-in-Some-clause-moves c =
    moves_one Ready c.args.self.now.meetings c.next_due.new.self
    (c.next_due.ensures.members, quiet_same c.args.self.now.meetings.hub c.next_due.new.self.hub c.next_due.ensures.next) (λ slot. refl)

pub returns-in-None-clause-moves : goal.returns-in-None-clause-moves
returns-in-None-clause-moves c =
    moves_one Ready c.args.self.now.meetings c.next_due.new.self
    (c.next_due.ensures.members, quiet_same c.args.self.now.meetings.hub c.next_due.new.self.hub c.next_due.ensures.next) (λ slot. refl)
