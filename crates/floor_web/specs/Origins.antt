-- The origins whose pages may open a WebSocket (RFC 6455, section 10.2).
use Rattle.std.specs.Prelude.{ℕ, Bool, true, false, ◌||◌, List, [], ◌∷◌, bytes_eq, codes, Option, Some, None}
use Rattle.std.specs.List.{list_any}
use Rattle.floor_web.specs.Fields.{behind}

abbrev pub is_host : Option (List ℕ) → List ℕ → Bool
is_host None host = false
is_host (Some rest) host = bytes_eq rest host

-- the origin is the scheme and then the host
abbrev pub is_scheme_and : (origin scheme host : List ℕ) → Bool
is_scheme_and origin scheme host = is_host (behind origin scheme) host

-- the origin is that of the page itself: the host that its request names, under either scheme
abbrev pub is_origin_of : (origin host : List ℕ) → Bool
is_origin_of origin host = is_scheme_and origin (codes "https://") host || is_scheme_and origin (codes "http://") host

-- no origin is always allowed; one is where it is listed, or where none is and it is the page's own
abbrev pub allows : (listed : List (List ℕ)) (origin : Option (List ℕ)) (host : List ℕ) → Bool
allows listed None host = true
allows [] (Some origin) host = is_origin_of origin host
allows (l ∷ listed) (Some origin) host = list_any (λ allowed. bytes_eq allowed origin) (l ∷ listed)
