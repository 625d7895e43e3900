-- What a message tells, by its parts.
use Rattle.std.proofs.Common.{◌≡◌, ℕ, List, drop, Option, sym, ◌∙◌, ap}
use Rattle.std.specs.Prelude.{option_map}
use Rattle.floor_wire.specs.Header.{CommonHeader, header_of}
use Rattle.floor_wire.specs.Spelled.{spelled}
use Rattle.floor_message.specs.Tell.{tell, told, head_of}
use Rattle.floor_message.specs.declared.tell.Tell.{Tell}

pub tell_is : (m : List ℕ) (h : CommonHeader) (payload : List ℕ) (t : Option Tell) → h ≡ header_of m → payload ≡ drop 12 m → t ≡ told h (spelled payload)
    → tell m ≡ option_map (λ x. (head_of h, x)) t
unfolding tell
tell_is m h payload t e f g =
    ap (λ x. option_map (λ y. (head_of x, y)) (told x (spelled (drop 12 m)))) (sym e)
    ∙ ap (λ s. option_map (λ y. (head_of h, y)) (told h (spelled s))) (sym f)
    ∙ ap (λ o. option_map (λ y. (head_of h, y)) o) (sym g)
