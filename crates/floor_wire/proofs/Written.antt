-- What is written spells the attributes, with M clear at known types.
use Rattle.std.proofs.Common.{◌≡◌, ℕ, ◌+◌, ◌-◌, ◌%◌, ◌^◌, ◌<◌, length, refl, sym, ◌∙◌, arith}
use Rattle.std.proofs.lemmas.List.{length-replicate}
use Rattle.std.proofs.lemmas.Nat.{from_be_bytes-to_be_bytes_2}
use Rattle.std.specs.Int.{w16, to_be_bytes}
use Rattle.floor_wire.specs.Attributes.{Content, num, pair, group, octets, Attributes, no_attributes, attribute}
use Rattle.floor_wire.specs.Spelling.{format_of_content, number_of, zeros_after, content_canon, canon, content_cleared, cleared, IsWritable, IsWritableContent, Spells, SpellsContent}

format_of_cleared : (c : Content) → format_of_content (content_cleared c) ≡ format_of_content c
format_of_cleared (num n) = refl
format_of_cleared (pair a b) = refl
format_of_cleared (group n i) = refl
format_of_cleared (octets os) = refl

number_back : (n : ℕ) → n < 2 ^ 16 → n ≡ number_of (to_be_bytes w16 n)
number_back n h = omega (arith, from_be_bytes-to_be_bytes_2 n h)

zeros_short : (n : ℕ) → length (zeros_after n) < 4
zeros_short n = omega (arith, length-replicate {A = ℕ} ((4 - (2 + n) % 4) % 4) 0)

aligned_by : (n p : ℕ) → p ≡ (4 - (2 + n) % 4) % 4 → (2 + n + p) % 4 ≡ 0
aligned_by n p e = omega arith

zeros_aligned : (n : ℕ) → (2 + n + length (zeros_after n)) % 4 ≡ 0
zeros_aligned n = aligned_by n (length (zeros_after n)) (length-replicate {A = ℕ} ((4 - (2 + n) % 4) % 4) 0)

mutual
  content_spelled : (c : Content) → IsWritableContent c → SpellsContent (content_cleared c) (content_canon c)
  content_spelled (num n) w = (refl, number_back n w)
  content_spelled (pair a b) w = refl
  content_spelled (group n i) w = (omega arith, number_back n w.0, canon_spelled i w.1)
  content_spelled (octets os) w = refl

  pub canon_spelled : (a : Attributes) → IsWritable a → Spells (cleared a) (canon a)
  canon_spelled no_attributes w = refl
  canon_spelled (attribute kind must c rest) w = (
    w.1 ∙ sym (format_of_cleared c),
    record {
      contents = content_canon c;
      padding = zeros_after (length (content_canon c));
      after = canon rest;
      whole = refl;
      kind_fits = w.0;
      length_fits = w.2;
      short = zeros_short (length (content_canon c));
      aligned = zeros_aligned (length (content_canon c));
      body = content_spelled c w.3;
      others = canon_spelled rest w.4;
    },
  )
