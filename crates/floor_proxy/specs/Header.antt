-- What a proxy's header says, whatever of it has come (PROXY protocol, section 2.2).
use Rattle.std.specs.Prelude.{ℕ, ◌+◌, ◌*◌, ◌-◌, ◌/◌, ◌%◌, ◌==◌, ◌&&◌, ◌<◌, ◌≤◌, Bool, true, nat_lt, nat_le, List, [], ◌∷◌, length, take, drop, slice_index, Option, Some, None, Result, Ok, Err, if◌then◌else◌}
use Rattle.std.specs.List.{list_all}
use Rattle.floor_proxy.specs.declared.header.NamedBy.{NamedBy}
use Rattle.floor_proxy.specs.declared.header.NamedBy.TheVariants.{Certificate, UniqueId}
use Rattle.floor_proxy.specs.declared.header.ProxyRead.{ProxyRead}
use Rattle.floor_proxy.specs.declared.header.ProxyRead.TheVariants.{More, Local, Named}
use Rattle.floor_proxy.specs.declared.name.Name.{Name}
use Rattle.floor_proxy.specs.declared.refusal.ProxyRefusal.{ProxyRefusal}
use Rattle.floor_proxy.specs.declared.refusal.ProxyRefusal.TheVariants.{BadHeader, NoCertificate, NotVerified, NoName, BadName}
use Rattle.floor_proxy.specs.Name.{name_in}
use Rattle.floor_proxy.specs.Tlv.{tlvs, value_in}

-- the 12 bytes that each header begins with
abbrev pub signature : List ℕ
signature = 0x0d ∷ 0x0a ∷ 0x0d ∷ 0x0a ∷ 0x00 ∷ 0x0d ∷ 0x0a ∷ 0x51 ∷ 0x55 ∷ 0x49 ∷ 0x54 ∷ 0x0a ∷ []

-- the bytes are the wanted ones, as far as both go
abbrev pub agrees : List ℕ → List ℕ → Bool
agrees [] bytes = true
agrees (w ∷ wanted) [] = true
agrees (w ∷ wanted) (b ∷ bytes) = w == b && agrees wanted bytes

-- the second step at the value of the first, or the first one's refusal
infixl 10 ◌>>=◌
abbrev pub ◌>>=◌ : {A B : Type 0} → Result A ProxyRefusal → (A → Result B ProxyRefusal) → Result B ProxyRefusal
(Ok x) >>= next = next x
(Err refusal) >>= next = Err refusal

-- the user that was read, if the bytes are a name
abbrev pub or_bad : Option Name → Result Name ProxyRefusal
or_bad None = Err BadName
or_bad (Some name) = Ok name

-- the user that a name names, where there is one
abbrev pub named : Option (List ℕ) → Result Name ProxyRefusal
named None = Err NoName
named (Some bytes) = or_bad (name_in bytes)

-- what is said of a TLS session: the client came over TLS (bit 01), and a certificate with it, on this connection or on one that this one resumes (bit 04)
abbrev pub has_certificate : List ℕ → Bool
has_certificate session = slice_index session 0 % 2 == 1 && slice_index session 0 / 4 % 2 == 1

-- the verification of the certificate found no fault: its number, of four bytes, is 0
abbrev pub is_verified : List ℕ → Bool
is_verified session = list_all (λ b. b == 0) (take 4 (drop 1 session))

-- the user of a session with a certificate that was verified, and whose name this is, if it has one
abbrev pub of_certificate : List ℕ → Option (List ℕ) → Result Name ProxyRefusal
of_certificate session name =
    if has_certificate session then (if is_verified session then named name else Err NotVerified) else Err NoCertificate

-- the user of a TLS session, if there is one: five bytes, and TLVs, of which type 22 is the name of the certificate
abbrev pub of_session : Option (List ℕ) → Result Name ProxyRefusal
of_session None = Err NoCertificate
of_session (Some session) =
    if nat_lt (length session) 5 then Err BadHeader else value_in 0x22 (tlvs (drop 5 session)) >>= of_certificate session

-- the user that TLVs name: by a certificate in a TLS session, of type 20, or by a unique-id, of type 05
abbrev pub who : NamedBy → List ℕ → Result Name ProxyRefusal
who Certificate bytes = value_in 0x20 (tlvs bytes) >>= of_session
who UniqueId bytes = value_in 0x05 (tlvs bytes) >>= named

-- how many bytes the addresses take, by the upper half of the family's byte: none, of IPv4, of IPv6 or of sockets of the system
abbrev pub addresses_len : ℕ → Option ℕ
addresses_len family =
    if family / 16 == 0 then Some 0
    else if family / 16 == 1 then Some 12
    else if family / 16 == 2 then Some 36
    else if family / 16 == 3 then Some 216
    else None

-- a user, and how many bytes the header takes
abbrev pub with_len : ℕ → Name → Result ProxyRead ProxyRefusal
with_len len name = Ok (Named name.conference name.user len)

-- behind the length: the addresses, and TLVs up to the header's end
abbrev pub whole : NamedBy → ℕ → ℕ → List ℕ → Result ProxyRead ProxyRefusal
whole by addresses len rest =
    if nat_lt (length rest) len then Ok More else who by (take (len - addresses) (drop addresses rest)) >>= with_len (16 + len)

-- behind the first byte of the length, which has two: at least the addresses, and 1,008 at most
abbrev pub behind_high : NamedBy → ℕ → ℕ → List ℕ → Result ProxyRead ProxyRefusal
behind_high by addresses high [] = if nat_le (256 * high) 1008 then Ok More else Err BadHeader
behind_high by addresses high (low ∷ rest) =
    if nat_le addresses (256 * high + low) && nat_le (256 * high + low) 1008 then whole by addresses (256 * high + low) rest else Err BadHeader

-- behind the family, whose addresses take so many bytes
abbrev pub behind_family : NamedBy → Option ℕ → List ℕ → Result ProxyRead ProxyRefusal
behind_family by None bytes = Err BadHeader
behind_family by (Some addresses) [] = Ok More
behind_family by (Some addresses) (high ∷ rest) = behind_high by addresses high rest

-- behind the version and the command: a family
abbrev pub behind_command : NamedBy → List ℕ → Result ProxyRead ProxyRefusal
behind_command by [] = Ok More
behind_command by (family ∷ rest) = behind_family by (addresses_len family) rest

-- behind the signature: version 2, and the command LOCAL, which ends what is read, or PROXY
abbrev pub behind_signature : NamedBy → List ℕ → Result ProxyRead ProxyRefusal
behind_signature by [] = Ok More
behind_signature by (command ∷ rest) =
    if command == 0x20 then Ok Local else if command == 0x21 then behind_command by rest else Err BadHeader

-- what the bytes say that have come, at a door where users are named by a certificate or by a unique-id
unfoldable pub proxy : NamedBy → List ℕ → Result ProxyRead ProxyRefusal
proxy by bytes = if agrees signature bytes then behind_signature by (drop 12 bytes) else Err BadHeader

-- the answer fits so many bytes: more are wanted of fewer than 1,024; a header that is read is whole, and has at most 1,024
abbrev pub IsWithin : ℕ → ProxyRead → Type 0
IsWithin n More = n < 1024
IsWithin n Local = 13 ≤ n
IsWithin n (Named conference user len) = (16 ≤ len) × (len ≤ 1024) × (len ≤ n)
