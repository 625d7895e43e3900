use Rattle.std.proofs.Common.{length, lit<, refl}
use Rattle.floor_words.proofs.Ends.{cut_first, cut_last}
use Rattle.floor_words.proofs.Some.{some_of}
use Rattle.floor_words.proofs.line.cut_line.Goals as goal

pub returns-in-None-clause-value : goal.returns-in-None-clause-value
returns-in-None-clause-value c =
    cut_last c.args.text.now _ (some_of (length c.args.text.now) _ c.is_empty.ensures c.if-is_empty.false)
    (c.in-None.ensures.byte (lit< tt) (λ w o h. h)) refl refl

pub returns-in-Some-clause-value : goal.returns-in-Some-clause-value
returns-in-Some-clause-value c =
    let h = c.in-Some.ensures.byte (lit< tt) (λ w o h. h) in
    cut_first c.args.text.now _ h.2 (rw h.0 at c.without_return.ensures) h.1
