-- Headers as HAProxy 2.6.12 writes them, cut, and what follows.
use Rattle.std.specs.Prelude.{◌≡◌, [], ◌∷◌, ◌++◌, Ok, refl}
use Rattle.floor_proxy.specs.declared.header.NamedBy.TheVariants.{Certificate}
use Rattle.floor_proxy.specs.declared.header.ProxyRead.TheVariants.{Local, Named}
use Rattle.floor_proxy.specs.Examples.{addresses, ann, hello, name, version}
use Rattle.floor_proxy.specs.Header.{proxy, signature}
use Rattle.floor_proxy.specs.Tlv.{tlvs_behind}
use Rattle.floor_doors.specs.declared.newcomer.Verdict.TheVariants.{Enter, Wait}
use Rattle.floor_doors.specs.Follows.{follows}
use Rattle.floor_doors.specs.Laws.{heard}

-- the header of user 10 of conference 1 up to its last 7 bytes: more have to come
pub front_waits : follows 0 (proxy Certificate (signature ++ 0x21 ∷ 0x11 ∷ 0x00 ∷ 0x25 ∷ addresses ++ 0x20 ∷ 0x00 ∷ 0x16 ∷ 0x07 ∷ 0x00 ∷ 0x00 ∷ 0x00 ∷ 0x00 ∷ version)) ≡ Wait
unfolding proxy tlvs_behind
front_waits = refl

-- with them and a Hello behind: it comes in, and the Hello stands behind those 7
pub rest_enters : follows 46 (proxy Certificate (ann ++ hello)) ≡ Enter 1 10 7
unfolding proxy tlvs_behind
rest_enters = refl

-- the signature and the rest of the header, and the Hello in a piece of its own: the Hello is the user's
pub pieces_are_heard : heard Certificate [] (signature ∷ (0x21 ∷ 0x11 ∷ 0x00 ∷ 0x25 ∷ addresses ++ 0x20 ∷ 0x00 ∷ 0x16 ∷ 0x07 ∷ 0x00 ∷ 0x00 ∷ 0x00 ∷ 0x00 ∷ version ++ name) ∷ hello ∷ [])
    ≡ record { answer = Ok (Named 1 10 53); rest = hello }
unfolding proxy tlvs_behind
pieces_are_heard = refl

-- who only looks is let go, and what comes behind is nobody's
pub nobody_is_heard : heard Certificate [] ((signature ++ 0x20 ∷ []) ∷ hello ∷ []) ≡ record { answer = Ok Local; rest = [] }
unfolding proxy
nobody_is_heard = refl
