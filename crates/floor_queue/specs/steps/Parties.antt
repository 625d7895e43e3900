-- The ongoing requests of each user, by ascending user.
use Rattle.std.specs.Prelude.{◌≡◌, ℕ, ◌==◌, nat_le, Bool, true, ◌&&◌, if◌then◌else◌, List, [], ◌∷◌, map, filter}
use Rattle.std.specs.List.{list_all}
use Rattle.floor_queue.specs.declared.index.parties.Party.{Party}
use Rattle.floor_queue.specs.declared.request.Request.{Request}
use Rattle.floor_queue.specs.Queue.{involves, numbers_of}

-- no party is behind one of a higher user
abbrev pub by_user : List Party → Bool
by_user [] = true
by_user (p ∷ ps) = list_all (λ q. nat_le p.user q.user) ps && by_user ps

-- the parties with p behind those of its user
abbrev pub with_party : Party → List Party → List Party
with_party p [] = p ∷ []
with_party p (q ∷ qs) = if nat_le q.user p.user then q ∷ with_party p qs else p ∷ q ∷ qs

-- the parties with those of a request, of which there is one where requester and beneficiary are the same user
abbrev pub with_parties : ℕ → ℕ → ℕ → List Party → List Party
with_parties requester beneficiary number ps =
    if requester == beneficiary
    then with_party record { user = requester; number = number } ps
    else with_party record { user = beneficiary; number = number } (with_party record { user = requester; number = number } ps)

-- the numbers of the user's requests
abbrev pub numbers_with : ℕ → List Party → List ℕ
numbers_with user ps = map (λ p. p.number) (filter (λ p. p.user == user) ps)

-- the parties are in order, and each user's are the requests that involve the user
pub record AreParties (rs : List Request) (ps : List Party) : Type 0 where
  pub in_order : by_user ps ≡ true
  pub each : (user : ℕ) → numbers_with user ps ≡ numbers_of (filter (λ r. involves r user) rs)
