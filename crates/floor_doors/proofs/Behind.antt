-- A header ends behind each of its fronts.
use Rattle.std.proofs.Common.{◌≡◌, ℕ, ◌+◌, ◌*◌, ◌-◌, ◌<◌, ◌≤◌, ◌==◌, ◌&&◌, Bool, true, false, cond, List, [], ◌∷◌, ◌++◌, length, take, drop, Option, Some, None, Result, Ok, Err, refl, sym, ◌∙◌, arith}
use Rattle.std.specs.Prelude.{nat_lt, nat_le, IfOk}
use Rattle.std.proofs.lemmas.Bool.{ltb-false, ltb-true}
use Rattle.std.proofs.lemmas.List.{drop-append-le, length-drop}
use Rattle.floor_proxy.specs.declared.header.NamedBy.{NamedBy}
use Rattle.floor_proxy.specs.declared.header.ProxyRead.{ProxyRead}
use Rattle.floor_proxy.specs.declared.header.ProxyRead.TheVariants.{More, Local, Named}
use Rattle.floor_proxy.specs.declared.refusal.ProxyRefusal.{ProxyRefusal}
use Rattle.floor_proxy.specs.declared.refusal.ProxyRefusal.TheVariants.{BadHeader}
use Rattle.floor_proxy.specs.Header.{IsWithin, ◌>>=◌, addresses_len, agrees, behind_command, behind_family, behind_high, behind_signature, proxy, signature, whole, who, with_len}
use Rattle.floor_proxy.proofs.Cuts.{other-signature, signature-whole}

abbrev pub Answer : Type 0
Answer = Result ProxyRead ProxyRefusal

-- so many bytes fit the answer
abbrev pub Fits : ℕ → Answer → Type 0
Fits n answer = IfOk answer (IsWithin n)

-- where more are wanted behind n bytes, and with others behind somebody is named by a header of 16 bytes or more, it has more than n
pub record Lacks (n : ℕ) (front all : Answer) : Type 0 where
  pub fewer : (conference user len : ℕ) → 16 ≤ len → front ≡ Ok More → all ≡ Ok (Named conference user len) → n < len

lacks-cond : (n : ℕ) (b : Bool) (x y u v : Answer) → Lacks n x u → Lacks n y v → Lacks n (cond b x y) (cond b u v)
lacks-cond n true x y u v p q = p
lacks-cond n false x y u v p q = q

lacks-other : (n : ℕ) (refusal : ProxyRefusal) (all : Answer) → Lacks n (Err refusal) all
lacks-other n refusal all = record { fewer = λ conference user len some front is. absurd cc }

-- who is named has the length that was read
named-len : {A : Type 0} (n : ℕ) (found : Result A ProxyRefusal) (next : A → Answer) → ((a : A) (conference user len : ℕ) → next a ≡ Ok (Named conference user len) → len ≡ n)
    → (conference user len : ℕ) → (found >>= next) ≡ Ok (Named conference user len) → len ≡ n
named-len n (Ok name) next same conference user len e = same name conference user len e
named-len n (Err refusal) next same conference user len e = absurd cc

never-more : {A : Type 0} (found : Result A ProxyRefusal) (next : A → Answer) → ((a : A) → next a ≡ Ok More → ⊥) → (found >>= next) ≡ Ok More → ⊥
never-more (Ok name) next never e = never name e
never-more (Err refusal) next never e = cc

lacks-whole : (by : NamedBy) (addresses len : ℕ) (rest more : List ℕ) → Lacks (16 + length rest) (whole by addresses len rest) (whole by addresses len more)
lacks-whole by addresses len rest more = record { fewer = λ conference user l some front is. by_tests (nat_lt (length rest) len) (nat_lt (length more) len) refl conference user l front is }
  where
    by_tests : (a b : Bool) → nat_lt (length rest) len ≡ a → (conference user l : ℕ)
        → cond a (Ok More) (who by (take (len - addresses) (drop addresses rest)) >>= with_len (16 + len)) ≡ Ok More
        → cond b (Ok More) (who by (take (len - addresses) (drop addresses more)) >>= with_len (16 + len)) ≡ Ok (Named conference user l)
        → 16 + length rest < l
    by_tests true true e conference user l front is = absurd cc
    by_tests true false e conference user l front is =
        let few = ltb-true (length rest) len e in
        let same = named-len (16 + len) (who by (take (len - addresses) (drop addresses more))) (with_len (16 + len)) (λ a c u k e. cc) conference user l is in
        omega (arith, few, same)
    by_tests false b e conference user l front is = absurd (never-more (who by (take (len - addresses) (drop addresses rest))) (with_len (16 + len)) (λ a e. cc) front)

-- a front of fewer than 16 bytes
lacks-short : (n : ℕ) (front all : Answer) → n < 16 → Lacks n front all
lacks-short n front all h = record { fewer = λ conference user len some e is. omega (arith, h, some) }

lacks-same : (n m : ℕ) (front all : Answer) → n ≡ m → Lacks m front all → Lacks n front all
lacks-same n m front all e l = record { fewer = λ conference user len some f is. let less = l.fewer conference user len some f is in omega (arith, e, less) }

lacks-high : (by : NamedBy) (addresses high : ℕ) (bytes behind : List ℕ) → Lacks (15 + length bytes) (behind_high by addresses high bytes) (behind_high by addresses high (bytes ++ behind))
lacks-high by addresses high [] behind = lacks-short 15 _ _ (omega arith)
lacks-high by addresses high (low ∷ rest) behind =
    lacks-same (15 + length (low ∷ rest)) (16 + length rest) _ _ (omega arith)
    (lacks-cond (16 + length rest) (nat_le addresses (256 * high + low) && nat_le (256 * high + low) 1008) _ _ _ _
    (lacks-whole by addresses (256 * high + low) rest (rest ++ behind)) (lacks-other (16 + length rest) BadHeader _))

lacks-family : (by : NamedBy) (addresses : Option ℕ) (bytes behind : List ℕ) → Lacks (14 + length bytes) (behind_family by addresses bytes) (behind_family by addresses (bytes ++ behind))
lacks-family by None bytes behind = lacks-other (14 + length bytes) BadHeader _
lacks-family by (Some addresses) [] behind = lacks-short 14 _ _ (omega arith)
lacks-family by (Some addresses) (high ∷ rest) behind = lacks-same (14 + length (high ∷ rest)) (15 + length rest) _ _ (omega arith) (lacks-high by addresses high rest behind)

lacks-command : (by : NamedBy) (bytes behind : List ℕ) → Lacks (13 + length bytes) (behind_command by bytes) (behind_command by (bytes ++ behind))
lacks-command by [] behind = lacks-short 13 _ _ (omega arith)
lacks-command by (family ∷ rest) behind = lacks-same (13 + length (family ∷ rest)) (14 + length rest) _ _ (omega arith) (lacks-family by (addresses_len family) rest behind)

lacks-local : (n : ℕ) (all : Answer) → Lacks n (Ok Local) all
lacks-local n all = record { fewer = λ conference user len some front is. absurd cc }

lacks-signature : (by : NamedBy) (bytes behind : List ℕ) → Lacks (12 + length bytes) (behind_signature by bytes) (behind_signature by (bytes ++ behind))
lacks-signature by [] behind = lacks-short 12 _ _ (omega arith)
lacks-signature by (command ∷ rest) behind =
    lacks-same (12 + length (command ∷ rest)) (13 + length rest) _ _ (omega arith)
    (lacks-cond (13 + length rest) (command == 0x20) _ _ _ _ (lacks-local (13 + length rest) _)
    (lacks-cond (13 + length rest) (command == 0x21) _ _ _ _ (lacks-command by rest behind) (lacks-other (13 + length rest) BadHeader _)))

-- a header of 16 bytes or more that names somebody has more bytes than a front of it behind which more are wanted
pub ends_behind : (by : NamedBy) (bytes behind : List ℕ) (conference user len : ℕ) → 16 ≤ len → proxy by bytes ≡ Ok More → proxy by (bytes ++ behind) ≡ Ok (Named conference user len) → length bytes < len
ends_behind by bytes behind conference user len some front is = by_test (nat_lt (length bytes) 12) (agrees signature bytes) (agrees signature (bytes ++ behind)) refl refl refl
  where
    by_test : (short a b : Bool) → nat_lt (length bytes) 12 ≡ short → agrees signature bytes ≡ a → agrees signature (bytes ++ behind) ≡ b → length bytes < len
    by_test true a b few e f = let h = ltb-true (length bytes) 12 few in omega (arith, h, some)
    by_test false false b few e f = absurd (let bad = other-signature by bytes e in cc)
    by_test false true false few e f = absurd (let bad = other-signature by (bytes ++ behind) f in cc)
    by_test false true true few e f =
        let h = ltb-false (length bytes) 12 few in
        let count = length-drop 12 bytes in
        let parted = drop-append-le 12 bytes behind h in
        let l = lacks-signature by (drop 12 bytes) behind in
        let first = sym (signature-whole by bytes (drop 12 bytes) e refl) ∙ front in
        let second = sym (signature-whole by (bytes ++ behind) (drop 12 bytes ++ behind) f (sym parted)) ∙ is in
        let less = l.fewer conference user len some first second in
        omega (arith, h, count, less)
