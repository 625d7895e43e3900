use Rattle.floor_hub.specs.Calls.{FailsSame}
use Rattle.floor_hub.specs.declared.step.Step.TheVariants.{Piece}
use Rattle.floor_hub.specs.declared.step.Answer.TheVariants.{Done}
use Rattle.floor_hub.proofs.Advancing.{fails_same, further, whole_same}
use Rattle.floor_hub.proofs.running.piece.Goals as goal

pub returns : goal.returns
returns c = λ places. further c.args.hub.now c.piece.new.self (Piece c.args.number c.args.bytes.now) (λ v. Done)
    (λ w. FailsSame c.piece.new.self w (Piece c.args.number c.args.bytes.now)) c.piece.result c.done.result places (λ v. tt) c.done.ensures.value c.piece.ensures.next
    (λ w. fails_same c.piece.new.self w (Piece c.args.number c.args.bytes.now)) (λ want. whole_same c.args.hub.now c.piece.new.self c.piece.ensures.rooms c.piece.ensures.forgotten)
