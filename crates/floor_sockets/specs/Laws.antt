-- Whoever is to be shut down is shut in time, and whoever the poll gave word of is read to the end.
use Rattle.std.specs.Prelude.{◌≡◌, ◌≤◌, ◌<◌, ℕ, Bool, true, false, ◌&&◌, ◌||◌, not, nat_eq, nat_lt, All, List, [], ◌∷◌, Option, Some, None}
use Rattle.floor_sockets.specs.declared.life.Asked.TheVariants as asked
use Rattle.floor_sockets.specs.declared.life.Deed.{Deed}
use Rattle.floor_sockets.specs.declared.life.Deed.TheVariants as deed
use Rattle.floor_sockets.specs.declared.life.Life.{Life}
use Rattle.floor_sockets.specs.declared.role.Role.TheVariants.{AtDoor}
use Rattle.floor_sockets.specs.Life.{is_shutting}
use Rattle.floor_sockets.specs.Sockets.{IsDone, Sockets, later, life_at}
use Rattle.floor_sockets.specs.Runs.{BecomeRole, Call, Calls, Came, Does, End, Fail, Next, NothingCame, Open, Readable, Shut}

-- no deadline has come: so it is behind a `next` that gave nothing, and before one that gives a turn
abbrev pub IsEarly : Sockets → Type 0
IsEarly s = All (λ d. s.time < d.until) s.deadlines

-- what the call gave to be done
abbrev pub given : Call → Option Deed
given (Next done) = done
given call = None

-- it is the slot's Shut
abbrev pub is_shut : ℕ → Option Deed → Bool
is_shut slot None = false
is_shut slot (Some (deed.Accept k)) = false
is_shut slot (Some (deed.Read k)) = false
is_shut slot (Some (deed.Serve k)) = false
is_shut slot (Some (deed.Write k)) = false
is_shut slot (Some (deed.Shut k)) = nat_eq k slot

-- one of the calls gave it
abbrev pub have_shut : ℕ → List Call → Bool
have_shut slot [] = false
have_shut slot (c ∷ earlier) = is_shut slot (given c) || have_shut slot earlier

-- Whoever is ended, and isn't over or being shut: behind whatever calls, once ten seconds have gone by and no deadline has come that wasn't done, its Shut was given.
abbrev pub WhoIsEndedIsShut : Type 0
WhoIsEndedIsShut =
    (slot : ℕ) (l : Life) (calls : List Call) (before first last : Sockets) → life_at before slot ≡ Some l → l.is_over ≡ false → is_shutting l.asked ≡ false → Does (End slot) before first → Calls calls first last
    → later before.time 10000000 ≤ last.time → IsEarly last → have_shut slot calls ≡ true

-- Whoever fails, and isn't being shut: behind whatever calls, once no deadline has come that wasn't done, its Shut was given.
abbrev pub WhoFailsIsShut : Type 0
WhoFailsIsShut =
    (slot : ℕ) (l : Life) (calls : List Call) (before first last : Sockets) → life_at before slot ≡ Some l → is_shutting l.asked ≡ false → Does (Fail slot) before first → Calls calls first last
    → IsEarly last → have_shut slot calls ≡ true

-- whoever was in the slot is at the door no more: it is for something else, was ended or has failed, or its Shut was given
abbrev pub has_left : ℕ → Call → Bool
has_left slot (BecomeRole k role group) = nat_eq k slot
has_left slot (End k) = nat_eq k slot
has_left slot (Fail k) = nat_eq k slot
has_left slot (Next done) = is_shut slot done
has_left slot call = false

-- by one of the calls
abbrev pub have_left : ℕ → List Call → Bool
have_left slot [] = false
have_left slot (c ∷ earlier) = has_left slot c || have_left slot earlier

-- Whoever is opened at a door: behind whatever calls, once five seconds have gone by and no deadline has come that wasn't done, it has left the door, or its Shut was given.
abbrev pub WhoSaysNothingIsShut : Type 0
WhoSaysNothingIsShut =
    (slot group : ℕ) (calls : List Call) (before first last : Sockets) → Does (Open AtDoor group slot) before first → Calls calls first last
    → later before.time 5000000 ≤ last.time → IsEarly last → have_left slot calls ≡ true

-- a read found nothing, or of a stream that doesn't end fewer than 4,096 bytes; or the socket was shut
abbrev pub is_last : ℕ → Bool → Call → Bool
is_last slot ends (NothingCame k) = nat_eq k slot
is_last slot ends (Came k count has_more) = nat_eq k slot && (nat_lt count 4096 && not ends)
is_last slot ends (Shut k) = nat_eq k slot
is_last slot ends call = false

-- one of the calls was that
abbrev pub have_last : ℕ → Bool → List Call → Bool
have_last slot ends [] = false
have_last slot ends (c ∷ earlier) = is_last slot ends c || have_last slot ends earlier

-- Whoever the poll gave word of: behind whatever calls, where `next` gives nothing and no answer is awaited of it, it was read to the end, or accepted from until nobody waited, if it isn't over or held.
abbrev pub WhoIsToldOfIsRead : Type 0
WhoIsToldOfIsRead =
    (slot : ℕ) (ends : Bool) (l m : Life) (calls : List Call) (before first last : Sockets) → life_at before slot ≡ Some l → Does (Readable slot ends) before first → Calls calls first last
    → IsDone last → life_at last slot ≡ Some m → m.asked ≡ asked.Nothing → m.is_over ≡ false → m.is_held ≡ false → have_last slot ends calls ≡ true
