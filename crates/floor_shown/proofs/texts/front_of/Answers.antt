use Rattle.std.proofs.Common.{◌∙◌, sym, ap, take}
use native.Mathlib.Numerals.{unary_clauses}
use Rattle.floor_message.specs.Text.{shortened}
use Rattle.floor_message.proofs.Cutting.{cut_is}
use Rattle.floor_shown.proofs.texts.front_of.Goals as goal

pub returns : goal.returns
unfolding shortened
returns c =
    let e = c.floor_char_boundary-end.ensures in
    record { value = (simp unary_clauses at c.range.ensures.value) ∙ ap (λ n. take n c.args.text.now) (sym (cut_is c.args.text.now c.args.most c.floor_char_boundary-end.result e.bound e.boundary e.nearest)) }
