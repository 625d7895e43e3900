use Rattle.std.proofs.Common.{refl}
use Rattle.std.specs.Prelude.{string_bytes}
use Rattle.floor_serve.proofs.Pieces.{begun-more}
use Rattle.floor_serve.proofs.desk.Desk.journal_text.Goals as goal

pub loop-done-preserved : goal.loop-done-preserved
loop-done-preserved g c = begun-more (string_bytes c.loop-done.text) (string_bytes c.add_piece.new.text) c.loop-done.done c.in_ok-added.added _ c.loop-done.invariant c.in_ok-added.ensures.value refl
