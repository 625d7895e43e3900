use Rattle.std.proofs.Common.{◌∙◌, ℕ, List, ap, length, refl}
use Rattle.std.specs.Prelude.{◌==◌, filter, not}
use Rattle.std.specs.List.{list_any}
use Rattle.floor_hub.proofs.news.news_in.Goals as goal

pub returns : goal.returns
returns c = record {
  value = record {
    known = c.if-not-before.false;
    conference = refl;
    place = ap length c.journal.ensures.value;
    changed = c.in_ok-changed.ensures.value ∙ c.as_slice-2.ensures.value;
    now = c.cut_numbers.result.now;
    are_cut = c.cut_numbers.ensures.value;
    cut = c.in_ok-cut.ensures.value ∙ ap (λ (was : List ℕ). filter (λ k. not (list_any (λ j. j == k) was)) c.cut_numbers.result.now) c.as_slice.ensures.value;
  };
}
