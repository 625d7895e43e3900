-- What the peer is sent over a whole run (RFC 8855, sections 6.2, 8.2 and 8.3).
use Rattle.std.specs.Prelude.{◌≡◌, ◌⊎◌, ℕ, ◌==◌, Bool, false, not, List, [], ◌∷◌, ◌++◌, is_some, filter, if◌then◌else◌}
use Rattle.std.specs.List.{flat_map}
use Rattle.floor_datagram.specs.Datagrams.{id_of}
use Rattle.floor_datagram.specs.Written.{raised, pieces, goodbye_ack, error, refusal}
use Rattle.floor_datagram.specs.Requests.{answer_of}
use Rattle.floor_datagram.specs.HelloAck.{extended}
use Rattle.floor_datagram.specs.Taken.{IsAmong}
use Rattle.floor_datagram.specs.Session.{Session, Terms, goodbye}
use Rattle.floor_datagram.specs.Run.{Input, datagram, piece, ends, shut, lost, late, step}

-- the bytes of the server's that come with an input, while the session goes on
abbrev pub said_by : Session → Input → List ℕ
said_by s (datagram waiting now d) = []
said_by s (piece now p) = if is_some s.end then [] else p
said_by s (ends now) = []
said_by s (shut end now) = []
said_by s (lost end now) = []
said_by s (late now) = []

-- those of a run
abbrev pub said : Session → List Input → List ℕ
said s [] = []
said s (i ∷ is) = said_by s i ++ said (step s i).after is

-- an answer of the server's; a notice under this ID; or what the session itself answers
pub data Said : Type 0 where
  answer : List ℕ → Said
  notice : (id : ℕ) → List ℕ → Said
  own : List ℕ → Said

abbrev pub datagrams_of : (limit : ℕ) → Said → List (List ℕ)
datagrams_of limit (answer m) = answer_of limit (extended m)
datagrams_of limit (notice id m) = pieces limit (raised false id m)
datagrams_of limit (own d) = d ∷ []

-- it is sent for the first time, or once more
pub data Sent : Type 0 where
  first : Said → Sent
  again : Said → Sent

abbrev pub said_in : Sent → Said
said_in (first x) = x
said_in (again x) = x

-- the datagrams of all that was sent
abbrev pub datagrams : (limit : ℕ) → List Sent → List (List ℕ)
datagrams limit sent = flat_map (λ x. datagrams_of limit (said_in x)) sent

-- the answers among it, those that are sent for the first time
abbrev pub answer_in : Sent → List (List ℕ)
answer_in (first (answer m)) = m ∷ []
answer_in (first (notice id m)) = []
answer_in (first (own d)) = []
answer_in (again x) = []

abbrev pub answers_in : List Sent → List (List ℕ)
answers_in sent = flat_map (λ x. answer_in x) sent

-- the answers among the server's messages: those whose Transaction ID isn't 0
abbrev pub is_answer : List ℕ → Bool
is_answer m = not (id_of m == 0)

abbrev pub answers : List (List ℕ) → List (List ℕ)
answers ms = filter (λ m. is_answer m) ms

-- It was sent before.
abbrev pub WasSent : List Sent → Said → Type 0
WasSent [] x = ⊥
WasSent (first y ∷ sent) x = (x ≡ y) ⊎ WasSent sent x
WasSent (again y ∷ sent) x = WasSent sent x

-- The session itself answers a Goodbye, a message that isn't as long as it says, and a request that the server can't serve.
abbrev pub IsOwnAnswer : Terms → List ℕ → Type 0
IsOwnAnswer terms d =
    ((m : List ℕ) × (d ≡ goodbye_ack m)) ⊎ (((m : List ℕ) × (d ≡ error 13 m)) ⊎ ((id : ℕ) × (d ≡ refusal terms.conference id terms.user)))

-- An answer is one of the server's messages; a notice is one too, or the session's Goodbye.
abbrev pub IsCalledFor : Terms → List (List ℕ) → Said → Type 0
IsCalledFor terms told (answer m) = IsAmong told m
IsCalledFor terms told (notice id m) = IsAmong told m ⊎ (m ≡ goodbye terms)
IsCalledFor terms told (own d) = IsOwnAnswer terms d

-- What is sent once more was sent before.
abbrev pub IsSentSo : Terms → List (List ℕ) → List Sent → Sent → Type 0
IsSentSo terms told before (first x) = IsCalledFor terms told x
IsSentSo terms told before (again x) = WasSent before x

abbrev pub AreSentSo : Terms → List (List ℕ) → List Sent → List Sent → Type 0
AreSentSo terms told before [] = Unit {0}
AreSentSo terms told before (x ∷ sent) = IsSentSo terms told before x × AreSentSo terms told (before ++ x ∷ []) sent

-- The peer was sent these, and nothing else: each is called for by these messages of the server's, or was sent before; and each
-- answer among those messages was sent, once for the first time, in their order.
pub record Sends (terms : Terms) (told down : List (List ℕ)) : Type 0 where
  pub sent : List Sent
  pub down_is : down ≡ datagrams terms.limit sent
  pub answered : answers_in sent ≡ answers told
  pub so : AreSentSo terms told [] sent
