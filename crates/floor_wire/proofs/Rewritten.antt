-- What bytes spell can be written, in as many bytes.
use Rattle.std.proofs.Common.{◌≡◌, ℕ, suc, ◌+◌, ◌-◌, ◌%◌, ◌^◌, ◌<◌, Bool, List, ◌∷◌, ◌++◌, length, take, drop, sym, ◌∙◌, ap, subst, arith, inl, inr, length-append, length-drop}
use Rattle.std.proofs.lemmas.List.{length-replicate, get_or_append_left, get_or-append-add, get_or_past, get_or-drop, take-append-drop}
use Rattle.std.proofs.lemmas.Bool.Decides.{leb_tells}
use Rattle.floor_wire.specs.Attributes.{Content, num, pair, group, octets, Attributes, no_attributes, attribute}
use Rattle.floor_wire.specs.Spelling.{first_byte, number_of, zeros_after, content_canon, canon, IsWritable, IsWritableContent, Spells, SpellsContent}
use Rattle.floor_wire.specs.Bytes.{IsBytes}

IsBytes-left : (xs ys : List ℕ) → IsBytes (xs ++ ys) → IsBytes xs
IsBytes-left xs ys h i = elim (leb_tells (length xs) i) [
  | inl w ↦ let past = get_or_past xs i 0 w.1 in omega (arith, past)
  | inr w ↦ let same = get_or_append_left xs ys 0 i w.1 in omega (arith, same, h i)
]

IsBytes-right : (xs ys : List ℕ) → IsBytes (xs ++ ys) → IsBytes ys
IsBytes-right xs ys h i = let same = get_or-append-add xs ys i 0 in omega (arith, same, h (length xs + i))

IsBytes-behind : (x y : ℕ) (xs : List ℕ) → IsBytes (x ∷ y ∷ xs) → IsBytes xs
IsBytes-behind x y xs h i = h (suc (suc i))

pub IsBytes-drop : (n : ℕ) (s : List ℕ) → IsBytes s → IsBytes (drop n s)
IsBytes-drop n s h i = rw (get_or-drop n s i 0) (h (n + i))

pub IsBytes-take : (n : ℕ) (s : List ℕ) → IsBytes s → IsBytes (take n s)
IsBytes-take n s h = IsBytes-left (take n s) (drop n s) (subst (λ (x : List ℕ). IsBytes x) (sym (take-append-drop n s)) h)

number_fits : (s : List ℕ) → IsBytes s → number_of s < 2 ^ 16
number_fits s h = let high = h 0 in let low = h 1 in omega (arith, high, low)

-- there is one padding to a multiple of 4 shorter than 4 bytes
zeros_len : (n p : ℕ) → p < 4 → (2 + n + p) % 4 ≡ 0 → p ≡ (4 - (2 + n) % 4) % 4
zeros_len n p h e = omega arith

attribute_len : (s contents padding after rest canonical : List ℕ) (k : ℕ) (m : Bool) → s ≡ first_byte k m ∷ (2 + length contents) ∷ (contents ++ padding ++ after)
    → length padding < 4 → (2 + length contents + length padding) % 4 ≡ 0 → length canonical ≡ length contents → length rest ≡ length after
    → 2 + length (canonical ++ zeros_after (length canonical)) + length rest ≡ length s
attribute_len s contents padding after rest canonical k m whole short aligned same later =
    let zeros : length (zeros_after (length canonical)) ≡ length padding
    = length-replicate {A = ℕ} ((4 - (2 + length canonical) % 4) % 4) 0 ∙ ap (λ n. (4 - (2 + n) % 4) % 4) same ∙ sym (zeros_len (length contents) (length padding) short aligned) in
    omega (
      arith,
      ap length whole,
      length-append (contents ++ padding) after,
      length-append contents padding,
      length-append canonical (zeros_after (length canonical)),
      zeros,
      same,
      later,
    )

mutual
  pub content_canon_len : (c : Content) (s : List ℕ) → SpellsContent c s → length (content_canon c) ≡ length s
  content_canon_len (num n) s p = sym p.0
  content_canon_len (pair a b) s p = sym (ap length p)
  content_canon_len (group n i) s p = omega (arith, canon_len i (drop 2 s) p.2, length-drop 2 s, p.0)
  content_canon_len (octets os) s p = sym (ap length p)

  -- what is written in place of a spelling is as long as it
  pub canon_len : (a : Attributes) (s : List ℕ) → Spells a s → length (canon a) ≡ length s
  canon_len no_attributes s p = sym (ap length p)
  canon_len (attribute k m c rest) s p =
      let canonical = content_canon c in
      omega (
        arith,
        length-append (canonical ++ zeros_after (length canonical)) (canon rest),
        attribute_len s p.1.contents p.1.padding p.1.after (canon rest) canonical k m p.1.whole p.1.short p.1.aligned
            (content_canon_len c p.1.contents p.1.body) (canon_len rest p.1.after p.1.others),
      )

mutual
  content_writable : (c : Content) (s : List ℕ) → IsBytes s → SpellsContent c s → IsWritableContent c
  content_writable (num n) s h p = omega (arith, p.1, number_fits s h)
  content_writable (pair a b) s h p = tt
  content_writable (group n i) s h p = (omega (arith, p.1, number_fits s h), spelled_writable i (drop 2 s) (IsBytes-drop 2 s h) p.2)
  content_writable (octets os) s h p = tt

  -- attributes that bytes spell can be written
  pub spelled_writable : (a : Attributes) (s : List ℕ) → IsBytes s → Spells a s → IsWritable a
  spelled_writable no_attributes s h p = tt
  spelled_writable (attribute k m c rest) s h p =
      let f = p.1 in
      let behind : IsBytes (f.contents ++ f.padding ++ f.after)
      = IsBytes-behind (first_byte k m) (2 + length f.contents) (f.contents ++ f.padding ++ f.after) (subst (λ (x : List ℕ). IsBytes x) f.whole h) in
      let front = IsBytes-left (f.contents ++ f.padding) f.after behind in (
        f.kind_fits,
        p.0,
        omega (arith, content_canon_len c f.contents f.body, f.length_fits),
        content_writable c f.contents (IsBytes-left f.contents f.padding front) f.body,
        spelled_writable rest f.after (IsBytes-right (f.contents ++ f.padding) f.after behind) f.others,
      )
