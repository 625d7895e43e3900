use Rattle.std.proofs.Common.{eqb-true, length, lit<, refl, sym, ◌∙◌}
use Rattle.floor_words.proofs.Cutting.{cut_at, cut_whole, no_word}
use Rattle.floor_words.proofs.Some.{some_of}
use Rattle.floor_words.proofs.word.cut_word.Goals as goal

pub returns-then-is_empty : goal.returns-then-is_empty
returns-then-is_empty c =
    let start = c.from_first_word-text.result.now in
    no_word c.args.text.now start c.from_first_word-text.ensures (eqb-true (length start) 0 (sym c.is_empty.ensures ∙ c.if-is_empty.true))

pub returns-in-None : goal.returns-in-None
returns-in-None c =
    let start = c.from_first_word-text.result.now in
    cut_whole c.args.text.now start _ c.from_first_word-text.ensures
    (some_of (length start) _ c.is_empty.ensures c.if-is_empty.false)
    (c.in-None.ensures.byte (lit< tt) (λ w o h. h)) refl refl

pub returns-in-Some : goal.returns-in-Some
returns-in-Some c =
    let start = c.from_first_word-text.result.now in
    let h = c.in-Some.ensures.byte (lit< tt) (λ w o h. h) in
    cut_at c.args.text.now start _ c.from_first_word-text.ensures
    (some_of (length start) _ c.is_empty.ensures c.if-is_empty.false) h.2 h.0 h.1
