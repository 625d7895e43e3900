-- How the bytes in front of a first message are cut makes no difference.
use Rattle.std.specs.Prelude.{◌≡◌, ℕ, ◌-◌, List, [], ◌∷◌, ◌++◌, length, drop, Result, Ok, Err}
use Rattle.floor_proxy.specs.declared.header.NamedBy.{NamedBy}
use Rattle.floor_proxy.specs.declared.header.ProxyRead.{ProxyRead}
use Rattle.floor_proxy.specs.declared.header.ProxyRead.TheVariants.{More, Local, Named}
use Rattle.floor_proxy.specs.declared.refusal.ProxyRefusal.{ProxyRefusal}
use Rattle.floor_proxy.specs.Header.{proxy}

-- the bytes of all pieces, one behind another
abbrev pub whole : List (List ℕ) → List ℕ
whole [] = []
whole (piece ∷ pieces) = piece ++ whole pieces

-- what was answered of somebody at a door, and the bytes that are the user's
pub record Heard : Type 0 where
  pub answer : Result ProxyRead ProxyRefusal
  pub rest : List ℕ

-- all bytes at once: the user's are those behind the header
abbrev pub at_once : Result ProxyRead ProxyRefusal → List ℕ → Heard
at_once (Ok More) bytes = record { answer = Ok More; rest = [] }
at_once (Ok Local) bytes = record { answer = Ok Local; rest = [] }
at_once (Ok (Named conference user len)) bytes = record { answer = Ok (Named conference user len); rest = drop len bytes }
at_once (Err refusal) bytes = record { answer = Err refusal; rest = [] }

-- a piece behind so many bytes: where somebody comes in, what stands in it behind the header is the user's, and all pieces behind it
abbrev pub at_piece : Result ProxyRead ProxyRefusal → ℕ → List ℕ → List ℕ → Heard → Heard
at_piece (Ok More) before piece behind later = later
at_piece (Ok Local) before piece behind later = record { answer = Ok Local; rest = [] }
at_piece (Ok (Named conference user len)) before piece behind later =
    record { answer = Ok (Named conference user len); rest = drop (len - before) piece ++ behind }
at_piece (Err refusal) before piece behind later = record { answer = Err refusal; rest = [] }

-- pieces that come one behind another, behind those bytes that are held: the next is asked for where more have to come
abbrev pub heard : NamedBy → List ℕ → List (List ℕ) → Heard
heard by held [] = record { answer = Ok More; rest = [] }
heard by held (piece ∷ pieces) =
    at_piece (proxy by (held ++ piece)) (length held) piece (whole pieces) (heard by (held ++ piece) pieces)

-- pieces are answered as all their bytes at once, and give the user the same bytes
abbrev pub CutsChangeNothing : Type 0
CutsChangeNothing = (by : NamedBy) (pieces : List (List ℕ)) → heard by [] pieces ≡ at_once (proxy by (whole pieces)) (whole pieces)
