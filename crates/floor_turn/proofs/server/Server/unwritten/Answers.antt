use Rattle.std.proofs.Common.{◌≡◌, ◌∙◌, ap, sym, subst, refl}
use Rattle.floor_sockets.specs.Sockets.{Sockets, life_at}
use Rattle.floor_connections.specs.Asked.{writes}
use Rattle.floor_connections.proofs.Steps.{steps_then}
use Rattle.floor_turn.specs.Over.{IsUnwritten}
use Rattle.floor_turn.proofs.Handing.{never}
use Rattle.floor_turn.proofs.Moving.{moves_same}
use Rattle.floor_turn.proofs.server.Server.unwritten.Goals as goal

pub returns-then-is_writing-clause-took : goal.returns-then-is_writing-clause-took
returns-then-is_writing-clause-took c = λ asked. subst (λ (s : Sockets). IsUnwritten c.args.socket s c.fail_to_write.new.connections.sockets) c.pass.ensures.sockets c.fail_to_write.ensures.took

pub returns-else-is_writing-clause-took : goal.returns-else-is_writing-clause-took
returns-else-is_writing-clause-took c = λ asked.
    let is : c.is_writing.result ≡ writes (life_at c.args.self.now.connections.sockets c.args.socket) = c.is_writing.ensures.value ∙ ap (λ (s : Sockets). writes (life_at s c.args.socket)) c.pass.ensures.sockets in
    never _ (sym c.if-is_writing.false ∙ is ∙ asked)

pub returns-then-is_writing-clause-not_asked : goal.returns-then-is_writing-clause-not_asked
returns-then-is_writing-clause-not_asked c = λ unasked.
    let is : c.is_writing.result ≡ writes (life_at c.args.self.now.connections.sockets c.args.socket) = c.is_writing.ensures.value ∙ ap (λ (s : Sockets). writes (life_at s c.args.socket)) c.pass.ensures.sockets in
    never _ (sym unasked ∙ sym is ∙ c.if-is_writing.true)

pub returns-then-is_writing-clause-steps : goal.returns-then-is_writing-clause-steps
returns-then-is_writing-clause-steps c = steps_then c.args.self.now.connections.sockets c.pass.new.self.sockets c.fail_to_write.new.connections.sockets c.pass.ensures.steps c.fail_to_write.ensures.steps

pub returns-then-is_writing-clause-moves : goal.returns-then-is_writing-clause-moves
returns-then-is_writing-clause-moves c = moves_same c.args.self.now.meetings c.args.self.now.meetings refl

pub returns-else-is_writing-clause-moves : goal.returns-else-is_writing-clause-moves
returns-else-is_writing-clause-moves c = moves_same c.args.self.now.meetings c.args.self.now.meetings refl
