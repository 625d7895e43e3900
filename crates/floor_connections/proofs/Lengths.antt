-- Of the bytes of a stream none is served behind a message that is too long.
use Rattle.std.proofs.Common.{◌≡◌, ◌<◌, ℕ, zero, suc, true, false, List, [], ◌∷◌, drop, get_or, length, refl, sym, ap, ◌∙◌, arith}
use Rattle.floor_connections.specs.declared.announced.Announced.{Announced}
use Rattle.floor_connections.specs.declared.announced.Announced.TheVariants.{Before, Inside, Behind, TooLong}
use Rattle.floor_connections.specs.Announced.{behind, is_too_long, next}

stays_there : (longest : ℕ) (bytes : List ℕ) → behind longest TooLong bytes ≡ TooLong
stays_there longest [] = refl
stays_there longest (byte ∷ bytes) = stays_there longest bytes

never : false ≡ true → ⊥
never e = cc

-- behind such a one it stays there
pub stays : (longest : ℕ) (a : Announced) (bytes : List ℕ) → is_too_long a ≡ true → behind longest a bytes ≡ a
stays longest (Before left) bytes e = absurd (never e)
stays longest (Inside high) bytes e = absurd (never e)
stays longest (Behind left) bytes e = absurd (never e)
stays longest TooLong bytes e = stays_there longest bytes

-- the byte at a place stands in front of those behind it
front : (i : ℕ) (bytes : List ℕ) → i < length bytes → drop i bytes ≡ get_or bytes i 0 ∷ drop (suc i) bytes
front zero [] lt = absurd (omega (arith, lt))
front zero (b ∷ bytes) lt = refl
front (suc i) [] lt = absurd (omega (arith, lt))
front (suc i) (b ∷ bytes) lt = front i bytes (omega (arith, lt))

-- where the byte at a place says so it is so behind all
pub over_at : (longest i : ℕ) (a b : Announced) (bytes : List ℕ) → i < length bytes → b ≡ next longest a (get_or bytes i 0) → is_too_long b ≡ true → b ≡ behind longest a (drop i bytes)
over_at longest i a b bytes lt is too =
    is ∙ sym (stays longest (next longest a (get_or bytes i 0)) (drop (suc i) bytes) (ap is_too_long (sym is) ∙ too)) ∙ ap (behind longest a) (sym (front i bytes lt))
