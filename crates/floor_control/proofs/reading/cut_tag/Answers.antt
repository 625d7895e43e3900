use Rattle.std.proofs.Common.{◌+◌, length, take, drop, arith, lit<, sym, ◌∙◌, ap}
use Rattle.std.proofs.lemmas.List.{drop_all}
use Rattle.std.proofs.Math.Seq.{take-length}
use Rattle.floor_control.proofs.reading.cut_tag.Goals as goal

pub returns-in-None : goal.returns-in-None
returns-in-None c =
    let text = c.args.text.now in
    let none = c.in-None.ensures.byte (lit< tt) (λ w o h. h) in
    record {
      word = sym (ap (λ n. take n text) none ∙ take-length text);
      rest = sym (ap (λ n. drop (n + 1) text) none ∙ drop_all (length text + 1) text (omega arith));
    }

pub returns-in-Some : goal.returns-in-Some
returns-in-Some c =
    let h = c.in-Some.ensures.byte (lit< tt) (λ w o h. h) in
    record { word = h.0; rest = h.1 }
