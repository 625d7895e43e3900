use Rattle.std.proofs.Common.{◌≡◌, ◌∙◌, Bool, ap, sym, subst, refl}
use Rattle.std.specs.Prelude.{MatchOption, length, min}
use Rattle.floor_sockets.specs.Sockets.{Sockets, life_at}
use Rattle.floor_meetings.specs.Calls.{Takes}
use Rattle.floor_meetings.specs.Meetings.{lent_at, member_at}
use Rattle.floor_connections.specs.Asked.{writes}
use Rattle.floor_sockets.specs.Runs.{Took}
use Rattle.floor_connections.proofs.Steps.{steps_more, steps_then}
use Rattle.floor_turn.specs.Moves.{Moves, taken_at, taken_of}
use Rattle.floor_turn.proofs.Handing.{never}
use Rattle.floor_turn.proofs.Moving.{moves_taken, moves_untaken}
use Rattle.floor_turn.proofs.server.Server.took.Goals as goal

pub returns-then-not-is_writing-clause-took : goal.returns-then-not-is_writing-clause-took
returns-then-not-is_writing-clause-took c = λ asked.
    let old = c.args.self.now.meetings in
    let is : c.is_writing.result ≡ writes (life_at c.args.self.now.connections.sockets c.args.socket) = c.is_writing.ensures.value ∙ ap (λ (s : Sockets). writes (life_at s c.args.socket)) c.pass.ensures.sockets in
    never (MatchOption (member_at old c.args.socket) (old.hub ≡ old.hub) (λ m. Takes m.number (min c.args.count (length (lent_at old c.args.socket))) old.hub old.hub)) (sym c.if-not-is_writing.true ∙ is ∙ asked)

pub returns-then-not-is_writing-clause-moves : goal.returns-then-not-is_writing-clause-moves
returns-then-not-is_writing-clause-moves c =
    let m = c.args.self.now.meetings in
    let is : c.is_writing.result ≡ writes (life_at c.args.self.now.connections.sockets c.args.socket) = c.is_writing.ensures.value ∙ ap (λ (s : Sockets). writes (life_at s c.args.socket)) c.pass.ensures.sockets in
    subst (λ (b : Bool). Moves (taken_at c.args.socket (taken_of b c.args.count (lent_at m c.args.socket))) m m) (sym c.if-not-is_writing.true ∙ is) (moves_untaken c.args.socket m)

pub returns-clause-took : goal.returns-clause-took
returns-clause-took c = λ asked. c.took.ensures.took

pub returns-clause-not_asked : goal.returns-clause-not_asked
returns-clause-not_asked c = λ unasked.
    let is : c.is_writing.result ≡ writes (life_at c.args.self.now.connections.sockets c.args.socket) = c.is_writing.ensures.value ∙ ap (λ (s : Sockets). writes (life_at s c.args.socket)) c.pass.ensures.sockets in
    never (c.took.new.self ≡ c.args.self.now.meetings) (sym unasked ∙ sym is ∙ c.if-not-is_writing.false)

pub returns-clause-moves : goal.returns-clause-moves
returns-clause-moves c =
    let old = c.args.self.now.meetings in
    let is : c.is_writing.result ≡ writes (life_at c.args.self.now.connections.sockets c.args.socket) = c.is_writing.ensures.value ∙ ap (λ (s : Sockets). writes (life_at s c.args.socket)) c.pass.ensures.sockets in
    subst (λ (b : Bool). Moves (taken_at c.args.socket (taken_of b c.args.count (lent_at old c.args.socket))) old c.took.new.self) (sym c.if-not-is_writing.false ∙ is)
    (moves_taken c.args.socket c.args.count old c.took.new.self c.took.ensures.members c.took.ensures.took)

pub returns-clause-steps : goal.returns-clause-steps
returns-clause-steps c = steps_then c.args.self.now.connections.sockets c.took-2.new.self c.see_to.new.connections.sockets (steps_more (Took c.args.socket c.args.count (length c.lent-lent.result.now)) c.args.self.now.connections.sockets c.pass.new.self.sockets c.took-2.new.self (λ slot. refl) c.pass.ensures.steps c.took-2.ensures.took) c.see_to.ensures.steps
