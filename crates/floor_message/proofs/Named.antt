-- Attributes of those of a list of values that pass a test.
use Rattle.std.proofs.Common.{◌≡◌, ℕ, zero, suc, ◌+◌, ◌<◌, Bool, true, false, cond, List, [], ◌∷◌, ◌++◌, length, take, drop, map, get_or, Option, Some, None, refl, sym, ◌∙◌, ap, subst, append-nil, arith}
use Rattle.std.specs.Prelude.{All, filter}
use Rattle.std.proofs.lemmas.List.{map-append, take-append-drop}
use Rattle.std.proofs.lemmas.List.Elements.{All-get_or, All-tail, filter-append, filter_more}
use Rattle.floor_wire.specs.Spelling.{IsWritable}
use Rattle.floor_wire.specs.View.{attributes_of}
use Rattle.floor_wire.specs.declared.attribute.Attr.{Attr}
use Rattle.floor_message.specs.steps.Leaves.{Leaves}
use Rattle.floor_message.specs.steps.Writing.{with_attrs}
use Rattle.floor_message.proofs.Puts.{put_then}
use Rattle.floor_message.proofs.Rooms.{leaves_append, leaves_none, writable_back, writable_front}

module _ {A : Type 0} (f : A → Attr) (p : A → Bool) (xs : List A) (i : ℕ) (x d : A) (within : i < length xs) (at : x ≡ get_or xs i d) where
  -- the value passes, and its attribute is one more
  more_named : p x ≡ true → map f (filter p (take (i + 1) xs)) ≡ map f (filter p (take i xs)) ++ f x ∷ []
  more_named passes = rw (filter_more p xs i d within, ← at, passes, map-append) refl

  -- the value doesn't pass
  none_more : p x ≡ false → map f (filter p (take (i + 1) xs)) ≡ map f (filter p (take i xs))
  none_more fails = rw (filter_more p xs i d within, ← at, fails, append-nil) refl

  -- the attributes up to the value, and those behind it
  rest_named : p x ≡ true → map f (filter p xs) ≡ (map f (filter p (take i xs)) ++ f x ∷ []) ++ map f (filter p (drop (i + 1) xs))
  rest_named passes =
      ap (λ (ys : List A). map f (filter p ys)) (sym (take-append-drop (i + 1) xs))
      ∙ ap (λ (ys : List A). map f ys) (filter-append p (take (i + 1) xs) (drop (i + 1) xs))
      ∙ map-append f (filter p (take (i + 1) xs)) (filter p (drop (i + 1) xs))
      ∙ ap (λ (attrs : List Attr). attrs ++ map f (filter p (drop (i + 1) xs))) (more_named passes)

  -- what is left behind the attributes up to a value that passes
  pub named_leaves : (room left : ℕ) (r : Option ℕ) → p x ≡ true → Leaves (map f (filter p (take i xs))) room (Some left) → Leaves (f x ∷ []) left r →
      Leaves (map f (filter p (take (i + 1) xs))) room r
  named_leaves room left r passes before one =
      let P : List Attr → Type 0 = λ attrs. Leaves attrs room r in
      subst P (sym (more_named passes)) (leaves_append (map f (filter p (take i xs))) (f x ∷ []) room left r before one)

  -- and behind those up to one that doesn't
  pub skipped_leaves : (room left : ℕ) → p x ≡ false → Leaves (map f (filter p (take i xs))) room (Some left) → Leaves (map f (filter p (take (i + 1) xs))) room (Some left)
  skipped_leaves room left fails before =
      let P : List Attr → Type 0 = λ attrs. Leaves attrs room (Some left) in
      subst P (sym (none_more fails)) before

  -- the attribute of a value that passes doesn't fit
  pub named_stopped : (room left : ℕ) → p x ≡ true → Leaves (map f (filter p (take i xs))) room (Some left) → Leaves (f x ∷ []) left None → Leaves (map f (filter p xs)) room None
  named_stopped room left passes before one =
      let front : List Attr = map f (filter p (take i xs)) in
      let P : List Attr → Type 0 = λ attrs. Leaves attrs room None in
      subst P (sym (rest_named passes))
      (leaves_none (front ++ f x ∷ []) (map f (filter p (drop (i + 1) xs))) room (leaves_append front (f x ∷ []) room left None before one))

  -- the attribute of a value that passes can be written where all can
  pub writable_named : p x ≡ true → IsWritable (attributes_of (map f (filter p xs))) → IsWritable (attributes_of (f x ∷ []))
  writable_named passes all =
      let front : List Attr = map f (filter p (take i xs)) in
      let P : List Attr → Type 0 = λ attrs. IsWritable (attributes_of attrs) in
      writable_back front (f x ∷ []) (writable_front (front ++ f x ∷ []) (map f (filter p (drop (i + 1) xs))) (subst P (rest_named passes) all))

  -- the attribute of a value that passes is put behind the others
  pub put_named : (s t u : List ℕ) → p x ≡ true → t ≡ with_attrs s (map f (filter p (take i xs))) → u ≡ with_attrs t (f x ∷ []) → u ≡ with_attrs s (map f (filter p (take (i + 1) xs)))
  put_named s t u passes before one =
      put_then s t u (map f (filter p (take i xs))) (f x ∷ []) before one ∙ ap (λ attrs. with_attrs s attrs) (sym (more_named passes))

  -- of one that doesn't, none is
  pub put_skipped : (s t : List ℕ) → p x ≡ false → t ≡ with_attrs s (map f (filter p (take i xs))) → t ≡ with_attrs s (map f (filter p (take (i + 1) xs)))
  put_skipped s t fails before = before ∙ ap (λ attrs. with_attrs s attrs) (sym (none_more fails))

-- what holds of all values that pass a test holds of one that does
pub all_named : {A : Type 0} (P : A → Type 0) (p : A → Bool) (xs : List A) (i : ℕ) (x d : A) → i < length xs → x ≡ get_or xs i d → p x ≡ true → All P (filter p xs) → P x
all_named P p [] i x d within at passes all = absurd (omega arith)
all_named {A = A} P p (y ∷ ys) zero x d within at passes all = by (p y) (ap p (sym at) ∙ passes) all
  where
    by : (b : Bool) → b ≡ true → All P (cond b (y ∷ filter p ys) (filter p ys)) → P x
    by true e h = subst P (sym at) (All-get_or P (y ∷ filter p ys) 0 y (omega arith) h)
    by false e h = cc
all_named P p (y ∷ ys) (suc i) x d within at passes all = by (p y) all (all_named P p ys i x d (omega arith) at passes)
  where
    by : (b : Bool) → All P (cond b (y ∷ filter p ys) (filter p ys)) → (All P (filter p ys) → P x) → P x
    by true h rest = rest (All-tail P y (filter p ys) h)
    by false h rest = rest h
