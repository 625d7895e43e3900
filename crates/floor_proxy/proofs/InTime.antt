-- While more bytes are wanted of fewer than 16, some are a header.
use Rattle.std.proofs.Common.{◌≡◌, ◌≢◌, ℕ, zero, suc, ◌+◌, ◌*◌, ◌-◌, ◌/◌, ◌%◌, ◌<◌, ◌≤◌, ◌==◌, ◌&&◌, Bool, true, false, cond, List, [], ◌∷◌, ◌++◌, length, drop, Option, Some, None, Ok, Err, refl, sym, ap, ◌∙◌, arith, subst, eqb-true, append_assoc}
use Rattle.std.specs.Prelude.{nat_lt, nat_le}
use Rattle.std.proofs.Math.ListN.{replicate}
use Rattle.std.proofs.lemmas.Bool.{leb-true, ltb-false, ltb-true}
use Rattle.std.proofs.lemmas.List.{length-append, length-replicate, length-drop}
use Rattle.floor_proxy.specs.declared.header.NamedBy.{NamedBy}
use Rattle.floor_proxy.specs.declared.header.NamedBy.TheVariants.{Certificate, UniqueId}
use Rattle.floor_proxy.specs.declared.header.ProxyRead.TheVariants.{More, Local}
use Rattle.floor_proxy.specs.declared.refusal.ProxyRefusal.{ProxyRefusal}
use Rattle.floor_proxy.specs.declared.refusal.ProxyRefusal.TheVariants.{BadHeader, NoCertificate, NoName}
use Rattle.floor_proxy.specs.Tlv.{Tlv}
use Rattle.floor_proxy.specs.Header.{◌>>=◌, addresses_len, agrees, behind_command, behind_family, behind_signature, proxy, signature, with_len}
use Rattle.floor_proxy.specs.Laws.{FaultsAreToldAtOnce, Header, IsHeader, header_bytes, length_of, tlvs_bytes, user_of}
use Rattle.floor_proxy.proofs.Cuts.{Answer}
use Rattle.floor_proxy.proofs.Rereading.{headers_are_read}

-- the answer is neither that more are wanted nor a bad header
abbrev Told : Answer → Type 0
Told answer = (answer ≢ Ok More) × (answer ≢ Err BadHeader)

-- some bytes behind these are told
abbrev CanBeTold : NamedBy → List ℕ → Type 0
CanBeTold by bytes = (behind : List ℕ) × Told (proxy by (bytes ++ behind))

local-told : Told (Ok Local)
local-told = (λ e. cc, λ e. cc)

-- a header without a user
abbrev nobody : NamedBy → ProxyRefusal
nobody Certificate = NoCertificate
nobody UniqueId = NoName

nobody-told : (by : NamedBy) (answer : Answer) → answer ≡ Err (nobody by) → Told answer
nobody-told Certificate answer is = (λ e. cc, λ e. cc)
nobody-told UniqueId answer is = (λ e. cc, λ e. cc)

-- the wanted bytes, where those that have come agree
agrees-rest : (wanted bytes : List ℕ) → agrees wanted bytes ≡ true → length bytes ≤ length wanted → bytes ++ drop (length bytes) wanted ≡ wanted
agrees-rest [] [] e h = refl
agrees-rest [] (b ∷ bytes) e h = absurd (omega (arith, h))
agrees-rest (w ∷ wanted) [] e h = refl
agrees-rest (w ∷ wanted) (b ∷ bytes) e h = by (w == b) refl e (λ others. agrees-rest wanted bytes others (omega (arith, h))) where
  by : (t : Bool) → (w == b) ≡ t → (t && agrees wanted bytes) ≡ true → (agrees wanted bytes ≡ true → bytes ++ drop (length bytes) wanted ≡ wanted)
      → b ∷ (bytes ++ drop (length bytes) wanted) ≡ w ∷ wanted
  by true same all others = ap (λ (x : ℕ). x ∷ (bytes ++ drop (length bytes) wanted)) (sym (eqb-true w b same)) ∙ ap (λ l. w ∷ l) (others all)
  by false same all others = cc

-- the bytes behind the wanted ones, where all of these have come
agrees-all : (wanted bytes : List ℕ) → agrees wanted bytes ≡ true → length wanted ≤ length bytes → bytes ≡ wanted ++ drop (length wanted) bytes
agrees-all [] bytes e h = refl
agrees-all (w ∷ wanted) [] e h = absurd (omega (arith, h))
agrees-all (w ∷ wanted) (b ∷ bytes) e h = by (w == b) refl e (λ others. agrees-all wanted bytes others (omega (arith, h))) where
  by : (t : Bool) → (w == b) ≡ t → (t && agrees wanted bytes) ≡ true → (agrees wanted bytes ≡ true → bytes ≡ wanted ++ drop (length wanted) bytes)
      → b ∷ bytes ≡ w ∷ (wanted ++ drop (length wanted) bytes)
  by true same all others = ap (λ (x : ℕ). x ∷ bytes) (sym (eqb-true w b same)) ∙ ap (λ l. w ∷ l) (others all)
  by false same all others = cc

-- a header of nobody ------------------------------------------------------------------------------

-- one TLV of the type NOOP, which says nothing, of so many bytes in all, or none
abbrev filling : ℕ → List Tlv
filling zero = []
filling (suc n) = record { kind = 4; value = replicate (n - 2) 0 } ∷ []

filling-size : (n : ℕ) → 2 ≤ n → length (tlvs_bytes (filling (suc n))) ≡ suc n
filling-size n h = omega (arith, h, length-append {A = ℕ} (replicate (n - 2) 0) [], length-replicate {A = ℕ} (n - 2) 0)

filling-nobody : (by : NamedBy) (n len : ℕ) → (user_of by (filling n) >>= with_len len) ≡ Err (nobody by)
filling-nobody Certificate zero len = refl
filling-nobody Certificate (suc n) len = refl
filling-nobody UniqueId zero len = refl
filling-nobody UniqueId (suc n) len = refl

told-high : (by : NamedBy) (family addresses high n : ℕ) → addresses_len family ≡ Some addresses → (addresses + n) / 256 ≡ high → addresses + n ≤ 1008
    → length (tlvs_bytes (filling n)) ≡ n → CanBeTold by (signature ++ 0x21 ∷ family ∷ high ∷ [])
told-high by family addresses high n known is few size =
    let zeros : List ℕ = replicate addresses 0 in
    let header : Header = record { family = family; addresses = zeros; tlvs = filling n } in
    let zeros_len : length zeros ≡ addresses = length-replicate {A = ℕ} addresses 0 in
    let len : length_of header ≡ addresses + n = omega (arith, zeros_len, size) in
    let fits : IsHeader header = record { family = known ∙ ap Some (sym zeros_len); few = omega (arith, len, few) } in
    let first : high ≡ length_of header / 256 = sym is ∙ ap (λ (k : ℕ). k / 256) (sym len) in
    let behind : List ℕ = length_of header % 256 ∷ ((zeros ++ tlvs_bytes (filling n)) ++ []) in
    let read : proxy by (header_bytes header ++ []) ≡ Err (nobody by) = headers_are_read by header [] fits ∙ filling-nobody by n (16 + length_of header) in
    (behind, nobody-told by (proxy by ((signature ++ 0x21 ∷ family ∷ high ∷ []) ++ behind)) (ap (λ (q : ℕ). proxy by (signature ++ 0x21 ∷ family ∷ q ∷ behind)) first ∙ read))

known-few : (family addresses : ℕ) → addresses_len family ≡ Some addresses → addresses ≤ 216
known-few family addresses = by (family / 16 == 0) (family / 16 == 1) (family / 16 == 2) (family / 16 == 3) where
  by : (a b c d : Bool) → cond a (Some 0) (cond b (Some 12) (cond c (Some 36) (cond d (Some 216) None))) ≡ Some addresses → addresses ≤ 216
  by true b c d e = let is : 0 ≡ addresses = cc in omega (arith, is)
  by false true c d e = let is : 12 ≡ addresses = cc in omega (arith, is)
  by false false true d e = let is : 36 ≡ addresses = cc in omega (arith, is)
  by false false false true e = let is : 216 ≡ addresses = cc in omega (arith, is)
  by false false false false e = absurd (let no : ⊥ = cc in no)

high-told : (by : NamedBy) (family addresses high : ℕ) → addresses_len family ≡ Some addresses → 256 * high ≤ 1008 → CanBeTold by (signature ++ 0x21 ∷ family ∷ high ∷ [])
high-told by family addresses zero known few =
    let short = known-few family addresses known in
    told-high by family addresses 0 0 known (omega (arith, short)) (omega (arith, short)) refl
high-told by family addresses (suc h) known few =
    let short = known-few family addresses known in
    let n : ℕ = 256 * suc h - addresses - 1 in
    let all : addresses + suc n ≡ 256 * suc h = omega (arith, short) in
    told-high by family addresses (suc h) (suc n) known (ap (λ (k : ℕ). k / 256) all ∙ omega arith) (omega (arith, all, few)) (filling-size n (omega (arith, short)))

-- by what has come -------------------------------------------------------------------------------

family-told : (by : NamedBy) (family addresses : ℕ) (rest : List ℕ) → addresses_len family ≡ Some addresses → behind_family by (Some addresses) rest ≡ Ok More
    → length rest ≤ 1 → CanBeTold by (signature ++ 0x21 ∷ family ∷ rest)
family-told by family addresses [] known more few = let found = high-told by family addresses 0 known (omega arith) in (0 ∷ found.0, found.1)
family-told by family addresses (high ∷ []) known more few = by_test (nat_le (256 * high) 1008) refl more where
  by_test : (b : Bool) → nat_le (256 * high) 1008 ≡ b → cond b (Ok More) (Err BadHeader) ≡ Ok More → CanBeTold by (signature ++ 0x21 ∷ family ∷ high ∷ [])
  by_test true e more = high-told by family addresses high known (leb-true (256 * high) 1008 e)
  by_test false e more = absurd (let no : ⊥ = cc in no)
family-told by family addresses (high ∷ low ∷ rest) known more few = absurd (omega (arith, few))

command-told : (by : NamedBy) (rest : List ℕ) → behind_command by rest ≡ Ok More → length rest ≤ 2 → CanBeTold by (signature ++ 0x21 ∷ rest)
command-told by [] more few = let found = high-told by 0 0 0 refl (omega arith) in (0 ∷ 0 ∷ found.0, found.1)
command-told by (family ∷ rest) more few = by_len (addresses_len family) refl more where
  by_len : (len : Option ℕ) → addresses_len family ≡ len → behind_family by len rest ≡ Ok More → CanBeTold by (signature ++ 0x21 ∷ family ∷ rest)
  by_len None known more = absurd (let no : ⊥ = cc in no)
  by_len (Some addresses) known more = family-told by family addresses rest known more (omega (arith, few))

signature-told : (by : NamedBy) (rest : List ℕ) → behind_signature by rest ≡ Ok More → 0 < length rest → length rest ≤ 3 → CanBeTold by (signature ++ rest)
signature-told by [] more some few = absurd (omega (arith, some))
signature-told by (command ∷ rest) more some few = by_test (command == 0x20) (command == 0x21) refl more where
  by_test : (a b : Bool) → (command == 0x21) ≡ b → cond a (Ok Local) (cond b (behind_command by rest) (Err BadHeader)) ≡ Ok More → CanBeTold by (signature ++ command ∷ rest)
  by_test true b e more = absurd (let no : ⊥ = cc in no)
  by_test false false e more = absurd (let no : ⊥ = cc in no)
  by_test false true e more =
      subst (λ (c : ℕ). CanBeTold by (signature ++ c ∷ rest)) (sym (eqb-true command 0x21 e)) (command-told by rest more (omega (arith, few)))

local-is : (by : NamedBy) → proxy by (signature ++ 0x20 ∷ []) ≡ Ok Local
unfolding proxy
local-is by = refl

pub faults_are_told_at_once : FaultsAreToldAtOnce
unfolding proxy
faults_are_told_at_once by bytes more few = let found : CanBeTold by bytes = by_test (agrees signature bytes) (nat_lt (length bytes) 13) refl refl more in (found.0, found.1.0, found.1.1) where
  by_test : (a short : Bool) → agrees signature bytes ≡ a → nat_lt (length bytes) 13 ≡ short → cond a (behind_signature by (drop 12 bytes)) (Err BadHeader) ≡ Ok More → CanBeTold by bytes
  by_test false short e s more = absurd (let no : ⊥ = cc in no)
  by_test true true e s more =
      let behind : List ℕ = drop (length bytes) signature ++ 0x20 ∷ [] in
      let all : bytes ++ behind ≡ signature ++ 0x20 ∷ [] =
      sym (append_assoc bytes (drop (length bytes) signature) (0x20 ∷ [])) ∙ ap (λ (l : List ℕ). l ++ 0x20 ∷ []) (agrees-rest signature bytes e (omega (arith, ltb-true (length bytes) 13 s))) in
      (behind, subst Told (sym (ap (proxy by) all ∙ local-is by)) local-told)
  by_test true false e s more =
      let all = ltb-false (length bytes) 13 s in
      let whole : bytes ≡ signature ++ drop 12 bytes = agrees-all signature bytes e (omega (arith, all)) in
      subst (CanBeTold by) (sym whole)
      (signature-told by (drop 12 bytes) more (omega (arith, all, length-drop 12 bytes)) (omega (arith, few, length-drop 12 bytes)))
