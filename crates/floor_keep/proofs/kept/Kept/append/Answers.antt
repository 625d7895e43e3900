use Rattle.std.proofs.Common.{ℕ, List, Option, sym, subst}
use Rattle.floor_kept.specs.Writing.{IsPart, turn_lines}
use Rattle.floor_keep.proofs.Parts.{on_err, whole_part}
use Rattle.floor_keep.proofs.kept.Kept.append.Goals as goal

pub returns-in-Turn-clause-left : goal.returns-in-Turn-clause-left
returns-in-Turn-clause-left g c =
    let lines = turn_lines c.args.self.now.writer.done c.args.journal.now c.args.self.now.notes.items in
    on_err c.sync.result _
    (subst (λ (now : Option (List ℕ)). IsPart (g.F.Write.contents c.args.self.now.file) now lines) (sym c.sync.ensures.file)
    (whole_part (g.F.Write.contents c.args.self.now.file) (g.F.Write.contents c.write.new.self.file) lines c.in_ok-write.ensures.took))
