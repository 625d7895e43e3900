-- What is answered of some bytes, and of them with others behind.
use Rattle.std.proofs.Common.{◌≡◌, ℕ, zero, suc, ◌+◌, ◌*◌, ◌-◌, ◌<◌, ◌≤◌, ◌==◌, ◌&&◌, Bool, true, false, cond, List, [], ◌∷◌, ◌++◌, length, take, drop, Option, Some, None, Result, Ok, Err, refl, sym, ap, ◌∙◌, arith, inl, inr, subst}
use Rattle.std.specs.Prelude.{nat_lt, nat_le, ◌⊎◌, IfOk}
use Rattle.std.proofs.Math.ListN.{replicate}
use Rattle.std.proofs.lemmas.Bool.{leb-false, leb-true, le-ltb, lt-leb, ltb-false, ltb-true}
use Rattle.std.proofs.lemmas.List.{length-append, length-replicate, take-append-le, drop-append-le, length-drop}
use Rattle.floor_proxy.specs.declared.header.NamedBy.{NamedBy}
use Rattle.floor_proxy.specs.declared.header.ProxyRead.{ProxyRead}
use Rattle.floor_proxy.specs.declared.header.ProxyRead.TheVariants.{More, Local}
use Rattle.floor_proxy.specs.declared.name.Name.{Name}
use Rattle.floor_proxy.specs.declared.refusal.ProxyRefusal.{ProxyRefusal}
use Rattle.floor_proxy.specs.declared.refusal.ProxyRefusal.TheVariants.{BadHeader}
use Rattle.floor_proxy.specs.Header.{◌>>=◌, addresses_len, agrees, behind_command, behind_family, behind_high, behind_signature, proxy, signature, whole, who, with_len, IsWithin}
use Rattle.floor_proxy.specs.Laws.{AnswersStay, AnswersCome}

abbrev pub Answer : Type 0
Answer = Result ProxyRead ProxyRefusal

-- more are wanted, or the other answer is the same
abbrev Stays : Answer → Answer → Type 0
Stays answer other = (answer ≡ Ok More) ⊎ (other ≡ answer)

-- of two answers, by a test
stays-cond : (b : Bool) (x y u v : Answer) → Stays x u → Stays y v → Stays (cond b x y) (cond b u v)
stays-cond true x y u v p q = p
stays-cond false x y u v p q = q

pub none-behind : (n : ℕ) (xs : List ℕ) → length xs ≤ n → drop n xs ≡ []
none-behind zero [] h = refl
none-behind zero (x ∷ xs) h = absurd (omega (arith, h))
none-behind (suc n) [] h = refl
none-behind (suc n) (x ∷ xs) h = none-behind n xs (omega (arith, h))

-- the user and the length of a header that is whole
abbrev told : NamedBy → ℕ → ℕ → List ℕ → Answer
told by addresses len rest = who by (take (len - addresses) (drop addresses rest)) >>= with_len (16 + len)

stays-whole : (by : NamedBy) (addresses len : ℕ) (rest behind : List ℕ) → addresses ≤ len → Stays (whole by addresses len rest) (whole by addresses len (rest ++ behind))
stays-whole by addresses len rest behind some = by_test (nat_lt (length rest) len) refl where
  part : len ≤ length rest → take (len - addresses) (drop addresses (rest ++ behind)) ≡ take (len - addresses) (drop addresses rest)
  part h =
      ap (take (len - addresses)) (drop-append-le addresses rest behind (omega (arith, some, h)))
      ∙ take-append-le (len - addresses) (drop addresses rest) behind (omega (arith, some, h, length-drop addresses rest))

  enough : len ≤ length rest → nat_lt (length (rest ++ behind)) len ≡ false
  enough h = le-ltb (length (rest ++ behind)) len (omega (arith, h, length-append rest behind))

  by_test : (b : Bool) → nat_lt (length rest) len ≡ b → Stays (cond b (Ok More) (told by addresses len rest)) (whole by addresses len (rest ++ behind))
  by_test true e = inl refl
  by_test false e =
      let h = ltb-false (length rest) len e in
      inr (ap (λ (t : Bool). cond t (Ok More) (told by addresses len (rest ++ behind))) (enough h)
      ∙ ap (λ (p : List ℕ). who by p >>= with_len (16 + len)) (part h))

stays-high : (by : NamedBy) (addresses high : ℕ) (bytes behind : List ℕ) → Stays (behind_high by addresses high bytes) (behind_high by addresses high (bytes ++ behind))
stays-high by addresses high [] behind = by_test (nat_le (256 * high) 1008) refl where
  absent : (b : Bool) (bytes : List ℕ) → nat_le (256 * high) 1008 ≡ false → behind_high by addresses high bytes ≡ Err BadHeader
  absent b [] e = rw e refl
  absent b (low ∷ rest) e = rw (lt-leb (256 * high + low) 1008 (omega (arith, leb-false (256 * high) 1008 e))) (none (nat_le addresses (256 * high + low)))
    where
      none : (a : Bool) → cond (a && false) (whole by addresses (256 * high + low) rest) (Err BadHeader) ≡ Err BadHeader
      none true = refl
      none false = refl

  by_test : (b : Bool) → nat_le (256 * high) 1008 ≡ b → Stays (cond b (Ok More) (Err BadHeader)) (behind_high by addresses high behind)
  by_test true e = inl refl
  by_test false e = inr (absent false behind e)
stays-high by addresses high (low ∷ rest) behind = by_test (nat_le addresses (256 * high + low)) (nat_le (256 * high + low) 1008) refl where
  len : ℕ
  len = 256 * high + low

  by_test : (a b : Bool) → nat_le addresses len ≡ a
      → Stays (cond (a && b) (whole by addresses len rest) (Err BadHeader)) (cond (a && b) (whole by addresses len (rest ++ behind)) (Err BadHeader))
  by_test true true e = stays-whole by addresses len rest behind (leb-true addresses len e)
  by_test true false e = inr refl
  by_test false b e = inr refl

stays-family : (by : NamedBy) (addresses : Option ℕ) (bytes behind : List ℕ) → Stays (behind_family by addresses bytes) (behind_family by addresses (bytes ++ behind))
stays-family by None bytes behind = inr refl
stays-family by (Some addresses) [] behind = inl refl
stays-family by (Some addresses) (high ∷ rest) behind = stays-high by addresses high rest behind

stays-command : (by : NamedBy) (bytes behind : List ℕ) → Stays (behind_command by bytes) (behind_command by (bytes ++ behind))
stays-command by [] behind = inl refl
stays-command by (family ∷ rest) behind = stays-family by (addresses_len family) rest behind

stays-signature : (by : NamedBy) (bytes behind : List ℕ) → Stays (behind_signature by bytes) (behind_signature by (bytes ++ behind))
stays-signature by [] behind = inl refl
stays-signature by (command ∷ rest) behind =
    stays-cond (command == 0x20) _ _ _ _ (inr refl) (stays-cond (command == 0x21) _ _ _ _ (stays-command by rest behind) (inr refl))

-- bytes that are others than the wanted ones stay so
differs : (wanted bytes behind : List ℕ) → agrees wanted bytes ≡ false → agrees wanted (bytes ++ behind) ≡ false
differs [] bytes behind e = e
differs (w ∷ wanted) [] behind e = cc
differs (w ∷ wanted) (b ∷ bytes) behind e = by_test (w == b) e (differs wanted bytes behind) where
  by_test : (t : Bool) → (t && agrees wanted bytes) ≡ false → (agrees wanted bytes ≡ false → agrees wanted (bytes ++ behind) ≡ false)
      → (t && agrees wanted (bytes ++ behind)) ≡ false
  by_test true e others = others e
  by_test false e others = refl

-- once all of the wanted ones are there, what is behind makes no difference
agrees-whole : (wanted bytes behind : List ℕ) → length wanted ≤ length bytes → agrees wanted (bytes ++ behind) ≡ agrees wanted bytes
agrees-whole [] bytes behind h = refl
agrees-whole (w ∷ wanted) [] behind h = absurd (omega (arith, h))
agrees-whole (w ∷ wanted) (b ∷ bytes) behind h = ap (λ (t : Bool). (w == b) && t) (agrees-whole wanted bytes behind (omega (arith, h)))

stays : (by : NamedBy) (bytes behind : List ℕ) → Stays (proxy by bytes) (proxy by (bytes ++ behind))
unfolding proxy
stays by bytes behind = by_test (agrees signature bytes) (nat_lt (length bytes) 12) refl refl where
  by_test : (a short : Bool) → agrees signature bytes ≡ a → nat_lt (length bytes) 12 ≡ short
      → Stays (cond a (behind_signature by (drop 12 bytes)) (Err BadHeader)) (cond (agrees signature (bytes ++ behind)) (behind_signature by (drop 12 (bytes ++ behind))) (Err BadHeader))
  by_test false short e few = inr (rw (differs signature bytes behind e) refl)
  by_test true true e few = inl (ap (behind_signature by) (none-behind 12 bytes (omega (arith, ltb-true (length bytes) 12 few))))
  by_test true false e few =
      let all = ltb-false (length bytes) 12 few in
      rw (agrees-whole signature bytes behind all ∙ e, drop-append-le 12 bytes behind all) (stays-signature by (drop 12 bytes) behind)

pub answers_stay : AnswersStay
answers_stay by bytes behind other = chosen (stays by bytes behind) where
  chosen : Stays (proxy by bytes) (proxy by (bytes ++ behind)) → proxy by (bytes ++ behind) ≡ proxy by bytes
  chosen (inl more) = absurd (other more)
  chosen (inr same) = same

-- the steps of reading ---------------------------------------------------------------------------

pub other-signature : (by : NamedBy) (bytes : List ℕ) → agrees signature bytes ≡ false → proxy by bytes ≡ Err BadHeader
unfolding proxy
other-signature by bytes e = rw e refl

pub signature-front : (by : NamedBy) (bytes : List ℕ) → agrees signature bytes ≡ true → length bytes < 12 → proxy by bytes ≡ Ok More
unfolding proxy
signature-front by bytes e few = rw e (ap (behind_signature by) (none-behind 12 bytes (omega (arith, few))))

pub signature-whole : (by : NamedBy) (bytes rest : List ℕ) → agrees signature bytes ≡ true → rest ≡ drop 12 bytes → proxy by bytes ≡ behind_signature by rest
unfolding proxy
signature-whole by bytes rest e is = rw e (ap (behind_signature by) (sym is))

-- how much has come -----------------------------------------------------------------------------

abbrev Fits : ℕ → Answer → Type 0
Fits n answer = IfOk answer (IsWithin n)

fits-cond : (n : ℕ) (b : Bool) (x y : Answer) → (b ≡ true → Fits n x) → (b ≡ false → Fits n y) → Fits n (cond b x y)
fits-cond n true x y p q = p refl
fits-cond n false x y p q = q refl

fits-named : (n len : ℕ) (user : Result Name ProxyRefusal) → len ≤ 1008 → 16 + len ≤ n → Fits n (user >>= with_len (16 + len))
fits-named n len (Ok name) few there = (omega arith, omega (arith, few), there)
fits-named n len (Err refusal) few there = tt

fits-whole : (by : NamedBy) (addresses len n : ℕ) (rest : List ℕ) → len ≤ 1008 → 16 + length rest ≡ n → Fits n (whole by addresses len rest)
fits-whole by addresses len n rest few is =
    fits-cond n (nat_lt (length rest) len) (Ok More) (told by addresses len rest)
    (λ e. omega (arith, is, few, ltb-true (length rest) len e))
    (λ e. fits-named n len (who by (take (len - addresses) (drop addresses rest))) few (omega (arith, is, ltb-false (length rest) len e)))

fits-high : (by : NamedBy) (addresses high n : ℕ) (bytes : List ℕ) → 15 + length bytes ≡ n → Fits n (behind_high by addresses high bytes)
fits-high by addresses high n [] is = fits-cond n (nat_le (256 * high) 1008) (Ok More) (Err BadHeader) (λ e. omega (arith, is)) (λ e. tt)
fits-high by addresses high n (low ∷ rest) is = by_test (nat_le addresses len) (nat_le len 1008) refl where
  len : ℕ
  len = 256 * high + low

  by_test : (a b : Bool) → nat_le len 1008 ≡ b → Fits n (cond (a && b) (whole by addresses len rest) (Err BadHeader))
  by_test true true e = fits-whole by addresses len n rest (leb-true len 1008 e) (omega (arith, is))
  by_test true false e = tt
  by_test false b e = tt

fits-family : (by : NamedBy) (addresses : Option ℕ) (n : ℕ) (bytes : List ℕ) → 14 + length bytes ≡ n → Fits n (behind_family by addresses bytes)
fits-family by None n bytes is = tt
fits-family by (Some addresses) n [] is = omega (arith, is)
fits-family by (Some addresses) n (high ∷ rest) is = fits-high by addresses high n rest (omega (arith, is))

fits-command : (by : NamedBy) (n : ℕ) (bytes : List ℕ) → 13 + length bytes ≡ n → Fits n (behind_command by bytes)
fits-command by n [] is = omega (arith, is)
fits-command by n (family ∷ rest) is = fits-family by (addresses_len family) n rest (omega (arith, is))

fits-signature : (by : NamedBy) (n : ℕ) (bytes : List ℕ) → n ≤ 12 + length bytes → (0 < length bytes → n ≡ 12 + length bytes) → Fits n (behind_signature by bytes)
fits-signature by n [] most is = omega (arith, most)
fits-signature by n (command ∷ rest) most is =
    let same : n ≡ 13 + length rest = omega (arith, is (omega arith)) in
    fits-cond n (command == 0x20) (Ok Local) (cond (command == 0x21) (behind_command by rest) (Err BadHeader)) (λ e. omega (arith, same))
    (λ e. fits-cond n (command == 0x21) (behind_command by rest) (Err BadHeader) (λ f. fits-command by n rest (sym same)) (λ f. tt))

pub within : (by : NamedBy) (bytes : List ℕ) → Fits (length bytes) (proxy by bytes)
unfolding proxy
within by bytes =
    fits-cond (length bytes) (agrees signature bytes) (behind_signature by (drop 12 bytes)) (Err BadHeader)
    (λ e. fits-signature by (length bytes) (drop 12 bytes) (omega (arith, length-drop 12 bytes)) (λ some. omega (arith, some, length-drop 12 bytes))) (λ e. tt)

more-few : (n : ℕ) (answer : Answer) → Fits n answer → answer ≡ Ok More → n < 1024
more-few n answer h e = subst (Fits n) e h

pub answers_come : AnswersCome
answers_come by bytes more =
    let few = more-few (length bytes) (proxy by bytes) (within by bytes) more in
    let behind : List ℕ = replicate (1024 - length bytes) 0 in
    let full : length (bytes ++ behind) ≡ 1024 = omega (arith, few, length-append bytes behind, length-replicate {A = ℕ} (1024 - length bytes) 0) in
    (behind, (λ again. omega (arith, full, more-few (length (bytes ++ behind)) (proxy by (bytes ++ behind)) (within by (bytes ++ behind)) again)), omega (arith, full))
