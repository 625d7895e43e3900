-- What a line of an answer tells of the conference that was asked about.
use Rattle.std.specs.Prelude.{◌≡◌, ◌⊎◌, ℕ, ◌+◌, ◌^◌, nat_lt, Bool, true, false, List, [], ◌∷◌, ◌++◌, codes, bytes_eq, Option, Some, None, Result, Ok, Err, if◌then◌else◌}
use Rattle.floor_words.specs.Words.{words}
use Rattle.floor_message.specs.declared.status.RequestStatus.{RequestStatus}
use Rattle.floor_message.specs.declared.status.RequestStatus.TheVariants.{Pending, Accepted, Granted, Denied, Cancelled, Released, Revoked}
use Rattle.floor_follow.specs.Reading.{and_then, cut, begins_with, expect, is_empty, end, numbered, optional, octets, parted}
use Rattle.floor_follow.specs.Live.{person, floor_words}
use Rattle.floor_follow.specs.declared.fault.FollowFault.{FollowFault}
use Rattle.floor_follow.specs.declared.fault.FollowFault.TheVariants.{UnknownLine, BadNumber, Memory}
use Rattle.floor_follow.specs.declared.fact.Fact.{Fact}
use Rattle.floor_follow.specs.declared.fact.Fact.TheVariants.{User, Floor, Request, Member, Word}
use Rattle.floor_follow.specs.declared.fact.Member.{Member as TheMember}
use Rattle.floor_follow.specs.declared.row.Part.{Part}

-- a user
abbrev pub user : List ℕ → Result (List Fact) FollowFault
user text = and_then (person text) (λ p. Ok (User p ∷ []))

-- what is left behind `cut`, where that stands there
abbrev pub cut_mark : List ℕ → Result (List ℕ) FollowFault
cut_mark text = if begins_with (codes "cut") text then expect (codes "cut") text else Ok text

-- `away <seconds>` stands there, to the end, or nothing
abbrev pub away_mark : List ℕ → Result Bool FollowFault
away_mark text =
    if is_empty text then Ok false
    else and_then (expect (codes "away") text) (λ rest. and_then (numbered (10 ^ 10) rest) (λ s. and_then (end s.1) (λ _. Ok true)))

-- `<n> user <u> behind <b> [cut] [away <seconds>]`
abbrev pub member_words : List ℕ → Result TheMember FollowFault
member_words text =
    and_then (numbered (2 ^ 32) text) (λ n.
    and_then (expect (codes "user") n.1) (λ at_user.
    and_then (numbered (2 ^ 16) at_user) (λ u.
    and_then (expect (codes "behind") u.1) (λ at_behind.
    and_then (numbered (2 ^ 32) at_behind) (λ b.
    and_then (cut_mark b.1) (λ rest.
    and_then (away_mark rest) (λ away. Ok (record { n = n.0; user = u.0; is_away = away }))))))))

-- a member
abbrev pub member : List ℕ → Result (List Fact) FollowFault
member text = and_then (member_words text) (λ m. Ok (Member m ∷ []))

-- `<key> <hex>`: a word that is kept
abbrev pub word : List ℕ → Result (List Fact) FollowFault
word text = and_then (cut text) (λ key. and_then (octets key.1) (λ o. and_then (end o.1) (λ _. Ok (Word (record { key = key.0; value = o.0 }) ∷ []))))

abbrev pub no_part : Option Part
no_part = None

-- the part that a word begins: who holds the floor, who waits for it, and for whom a chair has to decide
abbrev pub part_named : List ℕ → Option Part
part_named word =
    if bytes_eq word (codes "holders") then Some (record { status = Granted; position = 0 })
    else if bytes_eq word (codes "waiting") then Some (record { status = Accepted; position = 0 })
    else if bytes_eq word (codes "pending") then Some (record { status = Pending; position = 0 })
    else None

-- the part with one more request in it: those that wait are told in the order of their positions
abbrev pub next_at : RequestStatus → Part → Result Part FollowFault
next_at Accepted part = if nat_lt (part.position + 1) 65536 then Ok (record part { position = part.position + 1 }) else Err BadNumber
next_at Pending part = Ok part
next_at Granted part = Ok part
next_at Denied part = Ok part
next_at Cancelled part = Ok part
next_at Released part = Ok part
next_at Revoked part = Ok part

abbrev pub next_part : Option Part → Result Part FollowFault
next_part None = Err UnknownLine
next_part (Some part) = next_at part.status part

-- `<request>:<user or ->`: how a request stands at the floor
abbrev pub entry : ℕ → Part → List ℕ → Result Fact FollowFault
entry floor part w =
    and_then (numbered (2 ^ 16) (parted w).0) (λ r.
    and_then (optional (2 ^ 16) (parted w).1) (λ u.
    Ok (Request (record { request = r.0; floor = floor; user = u.0; requester = None; status = part.status; position = part.position }))))

-- one word more: a part's name, or a request of the last part that was named
abbrev pub step : Option Part → ℕ → Option Part → List Fact → List ℕ → Result (Option Part × List Fact) FollowFault
step (Some named) floor part facts w = Ok (Some named, facts)
step None floor part facts w = and_then (next_part part) (λ next. and_then (entry floor next w) (λ fact. Ok (Some next, facts ++ fact ∷ [])))

-- the word was taken so: the part that it is in and the facts then, or its fault, or memory was refused
abbrev pub Steps : Result (Option Part × List Fact) FollowFault → List Fact → Result (Option Part) FollowFault → Type 0
Steps meant facts (Ok part) = meant ≡ Ok (part, facts)
Steps meant facts (Err fault) = (meant ≡ Err fault) ⊎ (fault ≡ Memory)

-- `[holders <request>:<user or -> ..] [waiting ..] [pending ..]`, behind what these facts were read of
abbrev pub requests : ℕ → Option Part → List Fact → List (List ℕ) → Result (List Fact) FollowFault
requests floor part facts [] = Ok facts
requests floor part facts (w ∷ ws) = and_then (step (part_named w) floor part facts w) (λ s. requests floor s.0 s.1 ws)

-- `<id> room <r> chair <u or ->`, then the floor requests for it
abbrev pub floor : List ℕ → Result (List Fact) FollowFault
floor text = and_then (floor_words text) (λ f. requests f.0.id no_part (Floor f.0 ∷ []) (words f.1))

-- the facts of the line of this name
abbrev pub row : List ℕ → List ℕ → Result (List Fact) FollowFault
row name text =
    if bytes_eq name (codes "user") then user text
    else if bytes_eq name (codes "floor") then floor text
    else if bytes_eq name (codes "member") then member text
    else if bytes_eq name (codes "word") then word text
    else Err UnknownLine
