use Rattle.std.proofs.Common.{◌≡◌, ◌∙◌, ap, arith, ℕ, ◌+◌, ◌-◌, ◌≤◌, List, length, take}
use Rattle.std.specs.Prelude.{Option, Some, None, MatchOption, unwrap_or}
use Rattle.std.specs.List.{slice_range}
use Rattle.std.specs.Str.{IsCharBoundary, IsUtf8}
use Rattle.std.proofs.lemmas.Str.{IsCharBoundary-start}
use denote.Ref.{Bor}
use Rattle.floor_socket.proofs.task.front_of.Goals as goal

-- what is found of a text where a character begins at its length
found_front : (text : Bor (List ℕ)) (found : Option (Bor (List ℕ))) (len : ℕ) → IsUtf8 text.now → IsCharBoundary text.now len
    → MatchOption found (0 ≤ len → IsCharBoundary text.now 0 → ¬ IsCharBoundary text.now len)
    (λ x. (x.now ≡ slice_range text.now 0 len) × (length x.now + 0 ≡ len) × (len ≤ length text.now))
    → (unwrap_or found text).now ≡ take len text.now
found_front text None len u h k = absurd (k (omega arith) (IsCharBoundary-start text.now u) h)
found_front text (Some x) len u h k =
    let all : len - 0 ≡ len = omega arith in
    k.0 ∙ ap (λ n. take n text.now) all

pub returns : goal.returns
returns c = record {
  value = λ h. ap (λ x. x.now) c.unwrap_or.ensures
      ∙ found_front c.args.text c.get.result c.args.len c.utf8.text h c.get.ensures.cases;
}
