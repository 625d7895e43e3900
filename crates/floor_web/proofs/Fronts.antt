-- Frames at the front of a browser's bytes.
use Rattle.std.proofs.Common.{◌≡◌, ℕ, ◌≤◌, List, [], ◌∷◌, ◌++◌, length, drop, Ok, ap, ◌∙◌}
use Rattle.std.proofs.lemmas.List.{drop-append-le}
use Rattle.websocket.specs.declared.protocol.frame.codec.FrameStatus.TheVariants.{Complete}
use Rattle.websocket.specs.Connection.{Effect}
use Rattle.websocket.proofs.StreamLemmas.{read_step-append, TookFrame_from_read}
use Rattle.floor_web.specs.Frames.{start, read_front}
use Rattle.floor_web.specs.Relay.{Front}

-- more bytes behind a frame at the front leave it there
read_front-append : (bytes more : List ℕ) (p : ℕ × Effect) → read_front bytes ≡ Ok (Complete p) → read_front (bytes ++ more) ≡ Ok (Complete p)
read_front-append bytes more p is = read_step-append start bytes more (λ waits. cc (is, waits.1)) ∙ is

pub Front-append : (taken : List Effect) (bytes left more : List ℕ) → Front taken bytes left → Front taken (bytes ++ more) (left ++ more)
Front-append [] bytes left more front = ap (λ (l : List ℕ). l ++ more) front
Front-append (e ∷ es) bytes left more front =
    let inside : front.0 ≤ length bytes = (TookFrame_from_read start bytes (front.0, e) front.1).inside in (
      front.0,
      read_front-append bytes more (front.0, e) front.1,
      rw (drop-append-le front.0 bytes more inside) (Front-append es (drop front.0 bytes) left more front.2),
    )

-- frames, and then frames of what is left
pub Front-then : (taken more : List Effect) (bytes mid left : List ℕ) → Front taken bytes mid → Front more mid left → Front (taken ++ more) bytes left
Front-then [] more bytes mid left front behind = rw (← front) behind
Front-then (e ∷ es) more bytes mid left front behind = (front.0, front.1, Front-then es more (drop front.0 bytes) mid left front.2 behind)
