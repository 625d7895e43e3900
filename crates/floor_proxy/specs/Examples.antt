-- Headers as HAProxy 2.6.12 writes them, and what they say.
use Rattle.std.specs.Prelude.{◌≡◌, ℕ, List, [], ◌∷◌, ◌++◌, Ok, Err, refl}
use Rattle.floor_proxy.specs.declared.header.NamedBy.TheVariants.{Certificate, UniqueId}
use Rattle.floor_proxy.specs.declared.header.ProxyRead.TheVariants.{Local, Named}
use Rattle.floor_proxy.specs.declared.refusal.ProxyRefusal.TheVariants.{NoCertificate, NotVerified}
use Rattle.floor_proxy.specs.Tlv.{tlvs_behind}
use Rattle.floor_proxy.specs.Header.{proxy, signature}

-- from port 54806 to 7901 of 127.0.0.1
abbrev pub addresses : List ℕ
addresses = 0x7f ∷ 0x00 ∷ 0x00 ∷ 0x01 ∷ 0x7f ∷ 0x00 ∷ 0x00 ∷ 0x01 ∷ 0xd6 ∷ 0x16 ∷ 0x1e ∷ 0xdd ∷ []

-- TLS 1.3
abbrev pub version : List ℕ
version = 0x21 ∷ 0x00 ∷ 0x07 ∷ 0x54 ∷ 0x4c ∷ 0x53 ∷ 0x76 ∷ 0x31 ∷ 0x2e ∷ 0x33 ∷ []

-- the certificate's name is 1.10
abbrev pub name : List ℕ
name = 0x22 ∷ 0x00 ∷ 0x04 ∷ 0x31 ∷ 0x2e ∷ 0x31 ∷ 0x30 ∷ []

-- user 10 of conference 1, by a certificate that was verified
abbrev pub ann : List ℕ
ann = signature ++ 0x21 ∷ 0x11 ∷ 0x00 ∷ 0x25 ∷ addresses ++ 0x20 ∷ 0x00 ∷ 0x16 ∷ 0x07 ∷ 0x00 ∷ 0x00 ∷ 0x00 ∷ 0x00 ∷ version ++ name

-- a Hello of that user
abbrev pub hello : List ℕ
hello = 0x20 ∷ 0x0b ∷ 0x00 ∷ 0x00 ∷ 0x00 ∷ 0x00 ∷ 0x00 ∷ 0x01 ∷ 0x00 ∷ 0x01 ∷ 0x00 ∷ 0x0a ∷ []

pub ann_is_let_in : proxy Certificate (ann ++ hello) ≡ Ok (Named 1 10 53)
unfolding proxy tlvs_behind
ann_is_let_in = refl

-- the same of a session that another connection has begun: the certificate isn't of this connection
pub resumed_is_let_in : proxy Certificate (signature ++ 0x21 ∷ 0x11 ∷ 0x00 ∷ 0x25 ∷ addresses ++ 0x20 ∷ 0x00 ∷ 0x16 ∷ 0x05 ∷ 0x00 ∷ 0x00 ∷ 0x00 ∷ 0x00 ∷ version ++ name) ≡ Ok (Named 1 10 53)
unfolding proxy tlvs_behind
resumed_is_let_in = refl

-- without a certificate: verified, since there was nothing to verify
pub nobody_is_refused : proxy Certificate (signature ++ 0x21 ∷ 0x11 ∷ 0x00 ∷ 0x1e ∷ addresses ++ 0x20 ∷ 0x00 ∷ 0x0f ∷ 0x01 ∷ 0x00 ∷ 0x00 ∷ 0x00 ∷ 0x00 ∷ version) ≡ Err NoCertificate
unfolding proxy tlvs_behind
nobody_is_refused = refl

-- another authority's certificate
pub another_is_refused : proxy Certificate (signature ++ 0x21 ∷ 0x11 ∷ 0x00 ∷ 0x25 ∷ addresses ++ 0x20 ∷ 0x00 ∷ 0x16 ∷ 0x07 ∷ 0x00 ∷ 0x00 ∷ 0x00 ∷ 0x15 ∷ version ++ name) ≡ Err NotVerified
unfolding proxy tlvs_behind
another_is_refused = refl

-- a unique-id 7.65535, without addresses
pub bridge_is_let_in : proxy UniqueId (signature ++ 0x21 ∷ 0x00 ∷ 0x00 ∷ 0x0a ∷ 0x05 ∷ 0x00 ∷ 0x07 ∷ 0x37 ∷ 0x2e ∷ 0x36 ∷ 0x35 ∷ 0x35 ∷ 0x33 ∷ 0x35 ∷ []) ≡ Ok (Named 7 65535 26)
unfolding proxy tlvs_behind
bridge_is_let_in = refl

-- a health check
pub nobody_joins : proxy Certificate (signature ++ 0x20 ∷ []) ≡ Ok Local
unfolding proxy
nobody_joins = refl
