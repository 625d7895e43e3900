-- The attributes that are computed are those that are spelled.
use Rattle.std.proofs.Common.{◌≡◌, ℕ, zero, suc, ◌+◌, ◌-◌, ◌*◌, ◌/◌, ◌%◌, ◌≤◌, Bool, true, false, List, [], ◌∷◌, ◌++◌, length, take, drop, get_or, refl, sym, ◌∙◌, ap, arith, Option, Some, None, length-drop, length-append, append_assoc}
use Rattle.std.specs.Prelude.{◌==◌, option_map}
use Rattle.std.specs.List.{slice_range}
use Rattle.std.proofs.lemmas.List.{append-nil}
use Rattle.floor_wire.specs.Attributes.{Content, num, pair, group, octets, Attributes, no_attributes, attribute}
use Rattle.floor_wire.specs.Spelling.{format_of, number_of, first_byte, Spells, SpellsContent, format_of_content}
use Rattle.floor_wire.specs.Fault.{padded, front_kind, front_len, front_fault}
use Rattle.floor_wire.specs.Spelled.{content_in, in_front, front_first, spelled_within}
use Rattle.floor_wire.proofs.OneReading.{starts_sound, starts, kind_of_first, padded_is}

pub must_of_first : (k : ℕ) (m : Bool) → (first_byte k m % 2 == 1) ≡ m
must_of_first k true = ap (λ n. n == 1) (let e : (2 * k + 1) % 2 ≡ 1 = omega arith in e)
must_of_first k false = ap (λ n. n == 1) (let e : (2 * k + 0) % 2 ≡ 0 = omega arith in e)

take_front : (xs ys : List ℕ) → take (length xs) (xs ++ ys) ≡ xs
take_front [] ys = refl
take_front (x ∷ xs) ys = ap (λ l. x ∷ l) (take_front xs ys)

drop_front : (xs ys : List ℕ) → drop (length xs) (xs ++ ys) ≡ ys
drop_front [] ys = refl
drop_front (x ∷ xs) ys = drop_front xs ys

-- the parts of the attribute at the front of a spelled text
pub record FrontParts (k : ℕ) (m : Bool) (c t s : List ℕ) : Type 0 where
  pub sound : front_fault s ≡ None
  pub kind : front_kind s ≡ k
  pub must : (get_or s 0 0 % 2 == 1) ≡ m
  pub contents : slice_range s 2 (front_len s) ≡ c
  pub after : drop (padded (front_len s)) s ≡ t

pub front_parts : (k : ℕ) (m : Bool) (c : Content) (rest : Attributes) (s : List ℕ) → (p : Spells (attribute k m c rest) s) → FrontParts k m p.1.contents p.1.after s
front_parts k m c rest s p =
    let f = p.1 in
    let len : front_len s ≡ 2 + length f.contents = ap (λ x. get_or x 1 0) f.whole in
    let end : padded (front_len s) ≡ 2 + length (f.contents ++ f.padding)
    = ap padded len ∙ padded_is (length f.contents) (length f.padding) f.short f.aligned ∙ omega (arith, length-append f.contents f.padding) in
    record {
      sound = ap front_fault (sym (append-nil s)) ∙ starts_sound k m c (s ++ []) (starts k m c rest s [] p);
      kind = ap (λ x. get_or x 0 0 / 2) f.whole ∙ kind_of_first k m;
      must = ap (λ x. get_or x 0 0 % 2 == 1) f.whole ∙ must_of_first k m;
      contents = ap (λ n. slice_range s 2 n) len ∙ ap (λ x. slice_range x 2 (2 + length f.contents)) f.whole
          ∙ ap (λ n. take n (f.contents ++ f.padding ++ f.after)) (let e : 2 + length f.contents - 2 ≡ length f.contents = omega arith in e)
          ∙ ap (λ x. take (length f.contents) x) (append_assoc f.contents f.padding f.after) ∙ take_front f.contents (f.padding ++ f.after);
      after = ap (λ n. drop n s) end ∙ ap (λ x. drop (2 + length (f.contents ++ f.padding)) x) f.whole
          ∙ ap (λ n. drop n (first_byte k m ∷ (2 + length f.contents) ∷ (f.contents ++ f.padding ++ f.after))) (let e : 2 + length (f.contents ++ f.padding) ≡ suc (suc (length (f.contents ++ f.padding))) = omega arith in e)
          ∙ drop_front (f.contents ++ f.padding) f.after;
    }

-- what is read at the front of a spelled text
front_read : (k : ℕ) (m : Bool) (c : Content) (rest : Attributes) (s : List ℕ) (others : List ℕ → Option Attributes) → (p : Spells (attribute k m c rest) s)
    → content_in (format_of k) p.1.contents others ≡ Some c → others p.1.after ≡ Some rest → front_first (front_fault s) s others ≡ Some (attribute k m c rest)
front_read k m c rest s others p inner later =
    let f = p.1 in
    let parts = front_parts k m c rest s p in
    ap (λ o. front_first o s others) parts.sound
    ∙ ap (λ x. in_front x (get_or s 0 0 % 2 == 1) (content_in (format_of x) (slice_range s 2 (front_len s)) others) (others (drop (padded (front_len s)) s))) parts.kind
    ∙ ap (λ x. in_front k x (content_in (format_of k) (slice_range s 2 (front_len s)) others) (others (drop (padded (front_len s)) s))) parts.must
    ∙ ap (λ x. in_front k m (content_in (format_of k) x others) (others (drop (padded (front_len s)) s))) parts.contents
    ∙ ap (λ x. in_front k m (content_in (format_of k) f.contents others) (others x)) parts.after
    ∙ ap (λ x. in_front k m x (others f.after)) inner
    ∙ ap (λ x. in_front k m (Some c) x) later

content_read : (c : Content) (s : List ℕ) (others : List ℕ → Option Attributes) → SpellsContent c s
    → ((i : Attributes) (t : List ℕ) → length t ≤ length s → Spells i t → others t ≡ Some i) → content_in (format_of_content c) s others ≡ Some c
content_read (num n) s others p h = ap (λ x. Some (num x)) (sym p.1)
content_read (pair a b) s others p h = rw p refl
content_read (group n i) s others p h =
    ap (λ o. option_map (group (number_of s)) o) (h i (drop 2 s) (omega (arith, length-drop 2 s)) p.2) ∙ ap (λ x. Some (group x i)) (sym p.1)
content_read (octets os) s others p h = ap (λ x. Some (octets x)) p

-- what is spelled is computed, in steps enough
pub spelled_found : (n : ℕ) (a : Attributes) (s : List ℕ) → length s ≤ n → Spells a s → spelled_within n s ≡ Some a
unfolding spelled_within
spelled_found n no_attributes s h p = rw p refl
spelled_found zero (attribute k m c rest) s h p = absurd (omega (arith, ap length p.1.whole))
spelled_found (suc n) (attribute k m c rest) [] h p = absurd (omega (arith, ap length p.1.whole))
spelled_found (suc n) (attribute k m c rest) (b ∷ s) h p =
    let f = p.1 in
    let size : length (b ∷ s) ≡ 2 + length f.contents + length f.padding + length f.after
    = ap length f.whole ∙ omega (arith, length-append (f.contents ++ f.padding) f.after, length-append f.contents f.padding) in
    front_read k m c rest (b ∷ s) (λ t. spelled_within n t) p
    (ap (λ x. content_in x f.contents (λ t. spelled_within n t)) p.0 ∙ content_read c f.contents (λ t. spelled_within n t) f.body (λ i t l q. spelled_found n i t (omega (arith, l, size, h)) q))
    (spelled_found n rest f.after (omega (arith, size, h)) f.others)
