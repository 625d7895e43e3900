-- One request of a connection and its answer (RFC 9112, section 9.6).
use Rattle.std.specs.Prelude.{◌≡◌, ℕ, ◌+◌, Bool, true, false, codes, min, List, [], ◌++◌, length, drop, Option, Some, None, Result, Ok, Err}
use Rattle.std.specs.Fmt.{decimal}
use Rattle.floor_http.specs.declared.head.Asked.{Asked}
use Rattle.floor_http.specs.declared.head.Unasked.{Unasked}
use Rattle.floor_http.specs.declared.head.Unasked.TheVariants.{TooLong, Bad, NotGet, Nothing}
use Rattle.floor_http.specs.Heads.{Reads}

-- what came, whether something was asked or refused, what answers it, and how many bytes of that were taken
pub record Exchange : Type 0 where
  pub came : List ℕ
  pub is_asked : Bool
  pub answer : List ℕ
  pub taken : ℕ

-- nothing came
abbrev pub fresh : Exchange
fresh = record { came = []; is_asked = false; answer = []; taken = 0 }

-- ---- answers, as bytes

abbrev pub line : (name value : List ℕ) → List ℕ
line name value = name ++ (value ++ codes "\r\n")

abbrev pub length_line : ℕ → List ℕ
length_line len = codes "Content-Length: " ++ (decimal len ++ codes "\r\n")

-- what ends a head: the connection ends, and nobody keeps the answer
abbrev pub last_lines : List ℕ
last_lines = codes "Connection: close\r\nCache-Control: no-store\r\n\r\n"

-- the same, and the body
abbrev pub end : (body : List ℕ) → List ℕ
end body = last_lines ++ body

-- an answer: its status, the type and the length of its body, and that body
unfoldable pub reply : (status kind body : List ℕ) → List ℕ
reply status kind body =
    line (codes "HTTP/1.1 ") status ++ (line (codes "Content-Type: ") kind ++ (length_line (length body) ++ end body))

abbrev pub plain : List ℕ
plain = codes "text/plain; charset=utf-8"

-- the text of Prometheus
abbrev pub figures : List ℕ
figures = codes "text/plain; version=0.0.4; charset=utf-8"

-- what is answered where nothing is asked (RFC 9110, section 15.5; RFC 6585, section 5): a status, and the field that it has to have
abbrev pub status_of : Unasked → List ℕ
status_of TooLong = codes "431 Request Header Fields Too Large"
status_of Bad = codes "400 Bad Request"
status_of NotGet = codes "405 Method Not Allowed\r\nAllow: GET"
status_of Nothing = codes "404 Not Found"

abbrev pub health : List ℕ
health = reply (codes "200 OK") plain (codes "ok\n")

-- new meetings may be sent to the server unless it drains
abbrev pub ready : (is_draining : Bool) → List ℕ
ready true = reply (codes "503 Service Unavailable") plain (codes "draining\n")
ready false = reply (codes "200 OK") plain (codes "ok\n")

abbrev pub told : (text : List ℕ) → List ℕ
told text = reply (codes "200 OK") figures text

-- ---- what becomes of an exchange

-- it is answered
abbrev pub answered : Exchange → List ℕ → Exchange
answered e bytes = record e { answer = e.answer ++ bytes }

-- bytes came, and with those before they are read so
abbrev pub heard : Exchange → List ℕ → Option (Result Asked Unasked) → Exchange
heard e bytes None = record e { came = e.came ++ bytes }
heard e bytes (Some (Ok asked)) = record e { came = e.came ++ bytes; is_asked = true }
heard e bytes (Some (Err why)) =
    record e { came = e.came ++ bytes; is_asked = true; answer = e.answer ++ reply (status_of why) plain [] }

-- what its caller is to answer
abbrev pub handed : Option (Result Asked Unasked) → Option Asked
handed None = None
handed (Some (Ok asked)) = Some asked
handed (Some (Err why)) = None

-- Bytes that came are dropped once something was asked; else they are read with those before.
pub data Came (old : Exchange) (bytes : List ℕ) (asked : Option Asked) (new : Exchange) : Type 0 where
  dropped : old.is_asked ≡ true → asked ≡ None → new ≡ old → Came old bytes asked new
  read : (reading : Option (Result Asked Unasked)) → old.is_asked ≡ false → Reads (old.came ++ bytes) reading
      → asked ≡ handed reading → new ≡ heard old bytes reading → Came old bytes asked new

-- so many bytes of the answer were taken, or all
abbrev pub taken_by : Exchange → ℕ → Exchange
taken_by e count = record e { taken = min (e.taken + count) (length e.answer) }

-- what is to be written
abbrev pub lent : Exchange → List ℕ
lent e = drop e.taken e.answer
