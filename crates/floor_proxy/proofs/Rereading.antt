-- What is written is read back.
use Rattle.std.proofs.Common.{◌≡◌, ℕ, ◌+◌, ◌*◌, ◌-◌, ◌/◌, ◌%◌, ◌&&◌, Bool, true, false, cond, List, [], ◌∷◌, ◌++◌, length, take, drop, Option, Some, Ok, Err, refl, ap, ◌∙◌, arith, append_assoc}
use Rattle.std.specs.Prelude.{nat_lt, nat_le}
use Rattle.std.proofs.lemmas.Bool.{le-leb, le-ltb}
use Rattle.std.proofs.lemmas.List.{length-append}
use Rattle.std.proofs.Math.Seq.{take-append_seam, drop-append_seam}
use Rattle.floor_proxy.specs.declared.header.NamedBy.{NamedBy}
use Rattle.floor_proxy.specs.declared.header.NamedBy.TheVariants.{Certificate, UniqueId}
use Rattle.floor_proxy.specs.declared.header.ProxyRead.TheVariants.{More}
use Rattle.floor_proxy.specs.declared.refusal.ProxyRefusal.TheVariants.{BadHeader}
use Rattle.floor_proxy.specs.Tlv.{Tlv, in_front, tlvs_behind, tlvs, value_in}
use Rattle.floor_proxy.specs.Header.{◌>>=◌, behind_family, proxy, whole, who, with_len, of_session, named}
use Rattle.floor_proxy.specs.Laws.{Header, HeadersAreRead, IsHeader, ValuesAreReadBack, length_of, tlv_bytes, tlvs_bytes, user_of}
use Rattle.floor_proxy.proofs.Parts.{passed}

-- a number of two digits to the base of 256
parts : (n : ℕ) → 256 * (n / 256) + n % 256 ≡ n
parts n = omega arith

-- a TLV and what is behind it
tlv_first : (t : Tlv) (behind : List ℕ) → tlvs (tlv_bytes t ++ behind) ≡ in_front t (tlvs behind)
unfolding tlvs_behind
tlv_first t behind =
    let n : ℕ = length t.value in
    ap (λ (k : ℕ). in_front (record { kind = t.kind; value = take k (t.value ++ behind) }) (tlvs_behind k (t.value ++ behind))) (parts n)
    ∙ ap (λ (v : List ℕ). in_front (record { kind = t.kind; value = v }) (tlvs_behind n (t.value ++ behind))) (take-append_seam t.value behind)
    ∙ ap (in_front t) (passed n (t.value ++ behind) (omega (arith, length-append t.value behind)) ∙ ap (tlvs_behind 0) (drop-append_seam t.value behind))

pub values_are_read_back : ValuesAreReadBack
unfolding tlvs_behind
values_are_read_back [] = refl
values_are_read_back (t ∷ ts) = tlv_first t (tlvs_bytes ts) ∙ ap (in_front t) (values_are_read_back ts)

user-same : (by : NamedBy) (found : List Tlv) → who by (tlvs_bytes found) ≡ user_of by found
user-same Certificate found = ap (λ (o : Option (List Tlv)). value_in 0x20 o >>= of_session) (values_are_read_back found)
user-same UniqueId found = ap (λ (o : Option (List Tlv)). value_in 0x05 o >>= named) (values_are_read_back found)

-- the bytes behind the length, of a header that is whole
whole-read : (by : NamedBy) (addresses bytes behind : List ℕ) (len : ℕ) → len ≡ length addresses + length bytes
    → whole by (length addresses) len ((addresses ++ bytes) ++ behind) ≡ (who by bytes >>= with_len (16 + len))
whole-read by addresses bytes behind len is =
    let size : length ((addresses ++ bytes) ++ behind) ≡ len + length behind = omega (arith, is, length-append (addresses ++ bytes) behind, length-append addresses bytes) in
    let there : nat_lt (length ((addresses ++ bytes) ++ behind)) len ≡ false = le-ltb (length ((addresses ++ bytes) ++ behind)) len (omega (arith, size)) in
    let rest : drop (length addresses) ((addresses ++ bytes) ++ behind) ≡ bytes ++ behind =
    ap (drop (length addresses)) (append_assoc addresses bytes behind) ∙ drop-append_seam addresses (bytes ++ behind) in
    let count : len - length addresses ≡ length bytes = omega (arith, is) in
    let part : take (len - length addresses) (drop (length addresses) ((addresses ++ bytes) ++ behind)) ≡ bytes =
    ap (λ (n : ℕ). take n (drop (length addresses) ((addresses ++ bytes) ++ behind))) count ∙ ap (take (length bytes)) rest ∙ take-append_seam bytes behind in
    ap (λ (t : Bool). cond t (Ok More) (who by (take (len - length addresses) (drop (length addresses) ((addresses ++ bytes) ++ behind))) >>= with_len (16 + len))) there
    ∙ ap (λ (p : List ℕ). who by p >>= with_len (16 + len)) part

-- the bytes behind the family
family-read : (by : NamedBy) (header : Header) (behind : List ℕ) → IsHeader header
    → behind_family by (Some (length header.addresses)) (length_of header / 256 ∷ length_of header % 256 ∷ (header.addresses ++ tlvs_bytes header.tlvs) ++ behind)
    ≡ (who by (tlvs_bytes header.tlvs) >>= with_len (16 + length_of header))
family-read by header behind is =
    let len : ℕ = length_of header in
    let some : nat_le (length header.addresses) len ≡ true = le-leb (length header.addresses) len (omega arith) in
    let few : nat_le len 1008 ≡ true = le-leb len 1008 is.few in
    let rest : List ℕ = (header.addresses ++ tlvs_bytes header.tlvs) ++ behind in
    ap (λ (n : ℕ). cond (nat_le (length header.addresses) n && nat_le n 1008) (whole by (length header.addresses) n rest) (Err BadHeader)) (parts len)
    ∙ ap (λ (t : Bool). cond (t && nat_le len 1008) (whole by (length header.addresses) len rest) (Err BadHeader)) some
    ∙ ap (λ (t : Bool). cond t (whole by (length header.addresses) len rest) (Err BadHeader)) few
    ∙ whole-read by header.addresses (tlvs_bytes header.tlvs) behind len refl

pub headers_are_read : HeadersAreRead
unfolding proxy
headers_are_read by header behind is =
    ap (λ (o : Option ℕ). behind_family by o (length_of header / 256 ∷ length_of header % 256 ∷ (header.addresses ++ tlvs_bytes header.tlvs) ++ behind)) is.family
    ∙ family-read by header behind is
    ∙ ap (λ user. user >>= with_len (16 + length_of header)) (user-same by header.tlvs)
