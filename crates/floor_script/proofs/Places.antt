-- The places of a world, which an attach alone adds to.
use Rattle.std.proofs.Common.{◌≡◌, ℕ, zero, suc, ◌+◌, Bool, true, false, List, [], ◌∷◌, ◌++◌, length, map, refl, sym, ◌∙◌, ap, subst, arith, Some, None}
use Rattle.std.specs.Prelude.{if◌then◌else◌, not, Option, slice_get}
use Rattle.std.specs.Option.{option_map}
use Rattle.floor_room.specs.declared.refusal.RoomRefusal.{RoomRefusal}
use Rattle.floor_machine.specs.declared.event.Event.{Event}
use Rattle.floor_machine.specs.declared.event.Event.TheVariants.{Message}
use Rattle.floor_machine.specs.declared.machine.Refusal.TheVariants.{Ended}
use Rattle.floor_room.specs.declared.refusal.RoomRefusal.TheVariants.{Refused as ByMachine}
use Rattle.floor_hub.specs.declared.refusal.HubRefusal.{HubRefusal}
use Rattle.floor_hub.specs.declared.refusal.HubRefusal.TheVariants.{ByRoom}
use Rattle.floor_hub.specs.declared.step.Answer.{Answer}
use Rattle.floor_hub.specs.declared.step.Answer.TheVariants.{Done, Attached as HasAttached, Nothing, Served, Said, Refused}
use Rattle.floor_hub.specs.declared.step.Step.{Step}
use Rattle.floor_hub.specs.declared.step.Step.TheVariants.{Open, Attach, Piece, Serve, Took, Leave, Admin, Say}
use Rattle.floor_hub.specs.World as world
use Rattle.floor_hub.specs.World.{Aim, Arrival, Part, Place, Turn, World, add_event, aim, aimed, arrival, if_live, numbered, offer, piece, place, places_after, refused, serve, serve_message, state_of, take_message, turn, turn_at, unserved}
use Rattle.floor_script.specs.Answered.{send, serve_all, serves_on, serves_taken}
use Rattle.floor_script.specs.Printed.{acknowledged}
use Rattle.floor_script.specs.State.{most_at_once}
use Rattle.floor_script.specs.declared.waiting.Taken.{Taken}

-- the step is no attach
abbrev IsOther : Step → Type 0
IsOther (Open config) = Unit {0}
IsOther (Attach conference user) = ⊥
IsOther (Piece number bytes) = Unit {0}
IsOther (Serve number) = Unit {0}
IsOther (Took number k) = Unit {0}
IsOther (Leave number) = Unit {0}
IsOther (Admin conference act) = Unit {0}
IsOther (Say conference user bytes) = Unit {0}

abbrev IsOtherAim : Option Aim → Type 0
IsOtherAim None = Unit {0}
IsOtherAim (Some a) = IsOther a.step

-- nobody was attached
abbrev pub IsOtherAnswer : Answer → Type 0
IsOtherAnswer Done = Unit {0}
IsOtherAnswer (HasAttached number) = ⊥
IsOtherAnswer Nothing = Unit {0}
IsOtherAnswer Served = Unit {0}
IsOtherAnswer (Said said) = Unit {0}
IsOtherAnswer (Refused r) = Unit {0}

other_add : (p : Part) (e : Event) (r : Option RoomRefusal) → IsOtherAnswer (add_event p e r).answer
other_add p e None = tt
other_add p e (Some r) = tt

other_piece : (p : Part) (n : ℕ) (bytes : List ℕ) (a : Option Arrival) → IsOtherAnswer (piece p n bytes a).answer
other_piece p n bytes None = tt
other_piece p n bytes (Some a) = tt

other_take : (p : Part) (n : ℕ) (a : Arrival) (m : List ℕ) (r : Option RoomRefusal) → IsOtherAnswer (take_message p n a m r).answer
other_take p n a m None = tt
other_take p n a m (Some r) = tt

other_message : (p : Part) (n : ℕ) (a : Arrival) (m : Option (List ℕ)) → IsOtherAnswer (serve_message p n a m).answer
other_message p n a None = tt
other_message p n a (Some m) = other_take p n a m (refused p (Message n m))

other_serve : (p : Part) (n : ℕ) (a : Option Arrival) → IsOtherAnswer (serve p n a).answer
other_serve p n None = tt
other_serve p n (Some a) = by (not (state_of p).is_open)
  where
    by : (b : Bool) → IsOtherAnswer (if b then world.refuses (Some p) (ByRoom (ByMachine Ended)) else serve_message p n a (unserved a)).answer
    by true = tt
    by false = other_message p n a (unserved a)

other_took : (p : Part) (n k : ℕ) (a : Option Arrival) → IsOtherAnswer (world.took p n k a).answer
other_took p n k None = tt
other_took p n k (Some a) = other_add p _ _

other_leave : (p : Part) (n : ℕ) (a : Option Arrival) → IsOtherAnswer (world.leave p n a).answer
other_leave p n None = tt
other_leave p n (Some a) = tt

other_say : (p : Part) (user : ℕ) (bytes : List ℕ) (r : Option HubRefusal) → IsOtherAnswer (world.say p user bytes r).answer
other_say p user bytes None = tt
other_say p user bytes (Some r) = tt

other_offer : (q : Option Part) (s : Step) → IsOther s → IsOtherAnswer (offer q s).answer
other_offer None (Open config) h = tt
other_offer None (Attach c user) h = absurd h
other_offer None (Piece n bytes) h = tt
other_offer None (Serve n) h = tt
other_offer None (Took n k) h = tt
other_offer None (Leave n) h = tt
other_offer None (Admin c act) h = tt
other_offer None (Say c user bytes) h = tt
other_offer (Some p) (Open config) h = tt
other_offer (Some p) (Attach c user) h = absurd h
other_offer (Some p) (Piece n bytes) h = other_piece p n bytes (if_live (arrival p n))
other_offer (Some p) (Serve n) h = other_serve p n (if_live (arrival p n))
other_offer (Some p) (Took n k) h = other_took p n k (if_live (arrival p n))
other_offer (Some p) (Leave n) h = other_leave p n (if_live (arrival p n))
other_offer (Some p) (Admin c act) h = other_add p _ _
other_offer (Some p) (Say c user bytes) h = other_say p user bytes _

other_place : (make : ℕ → Step) (p : Option Place) → ((n : ℕ) → IsOther (make n)) → IsOtherAim (aim make p)
other_place make None h = tt
other_place make (Some p) h = h p.n

other_aim : (w : World) (s : Step) → IsOther s → IsOtherAim (aimed w s)
other_aim w (Open config) h = tt
other_aim w (Attach c user) h = absurd h
other_aim w (Piece number bytes) h = other_place (λ n. Piece n bytes) (place w.places number) (λ n. tt)
other_aim w (Serve number) h = other_place (λ n. Serve n) (place w.places number) (λ n. tt)
other_aim w (Took number k) h = other_place (λ n. Took n k) (place w.places number) (λ n. tt)
other_aim w (Leave number) h = other_place (λ n. Leave n) (place w.places number) (λ n. tt)
other_aim w (Admin c act) h = tt
other_aim w (Say c user bytes) h = tt

places_unadded : (ps : List Place) (c : ℕ) (a : Answer) → IsOtherAnswer a → places_after ps c a ≡ ps
places_unadded ps c Done h = refl
places_unadded ps c (HasAttached n) h = absurd h
places_unadded ps c Nothing h = refl
places_unadded ps c Served h = refl
places_unadded ps c (Said said) h = refl
places_unadded ps c (Refused r) h = refl

places_at : (w : World) (a : Option Aim) → IsOtherAim a → (turn_at w a).world.places ≡ w.places
places_at w None h = refl
places_at w (Some a) h = places_unadded w.places a.conference (offer (w.parts a.conference) a.step).answer (other_offer (w.parts a.conference) a.step h)

-- a step that is no attach adds no place
pub places_kept : (w : World) (s : Step) → IsOther s → (turn w s).world.places ≡ w.places
places_kept w s h = places_at w (aimed w s) (other_aim w s h)

serves_on_places : (a : Answer) (w : World) (next : World → Turn) (ps : List Place) → w.places ≡ ps → ((v : World) → v.places ≡ ps → (next v).world.places ≡ ps) → (serves_on a w next).world.places ≡ ps
serves_on_places Served w next ps e h = h w e
serves_on_places Nothing w next ps e h = e
serves_on_places Done w next ps e h = e
serves_on_places (HasAttached number) w next ps e h = e
serves_on_places (Said said) w next ps e h = e
serves_on_places (Refused r) w next ps e h = e

serve_all_places : (fuel connection : ℕ) (w : World) (ps : List Place) → w.places ≡ ps → (serve_all fuel connection w).world.places ≡ ps
unfolding serve_all
serve_all_places zero connection w ps e = e
serve_all_places (suc more) connection w ps e =
    serves_on_places (turn w (Serve connection)).answer (turn w (Serve connection)).world (λ next. serve_all more connection next) ps (places_kept w (Serve connection) tt ∙ e)
    (λ v f. serve_all_places more connection v ps f)

serves_taken_places : (a : Answer) (connection : ℕ) (w : World) → (serves_taken a connection w).world.places ≡ w.places
serves_taken_places Done connection w = serve_all_places most_at_once connection w w.places refl
serves_taken_places (HasAttached number) connection w = refl
serves_taken_places Nothing connection w = refl
serves_taken_places Served connection w = refl
serves_taken_places (Said said) connection w = refl
serves_taken_places (Refused r) connection w = refl

-- nor do bytes that come and are served
pub send_places : (connection : ℕ) (bytes : List ℕ) (w : World) → (send connection bytes w).world.places ≡ w.places
send_places connection bytes w = serves_taken_places (turn w (Piece connection bytes)).answer connection (turn w (Piece connection bytes)).world ∙ places_kept w (Piece connection bytes) tt

-- nor do acknowledgements
pub acknowledged_places : (taken : List Taken) (w : World) → (acknowledged taken w).places ≡ w.places
acknowledged_places [] w = refl
acknowledged_places (t ∷ more) w = acknowledged_places more (turn w (Took t.connection t.parcels)).world ∙ places_kept w (Took t.connection t.parcels) tt

-- An attach adds a place of its conference, and the number is the next one.
pub record AddsPlace (conference number : ℕ) (old new : List Place) : Type 0 where
  pub added : Place
  pub there : added.conference ≡ conference
  pub places_are : new ≡ old ++ added ∷ []
  pub next : number ≡ length old + 1

attached_is : (a b : ℕ) → ◌≡◌ {A = Answer} (HasAttached a) (HasAttached b) → a ≡ b
attached_is a b e = cc

place_added : (ps : List Place) (c number : ℕ) (a : Answer) → numbered ps a ≡ HasAttached number → AddsPlace c number ps (places_after ps c a)
place_added ps c number (HasAttached n) e = record { added = record { conference = c; n = n }; there = refl; places_are = refl; next = sym (attached_is (length ps + 1) number e) }
place_added ps c number Done e = cc
place_added ps c number Nothing e = cc
place_added ps c number Served e = cc
place_added ps c number (Said said) e = cc
place_added ps c number (Refused r) e = cc

pub attach_adds : (w : World) (conference user number : ℕ) → (turn w (Attach conference user)).answer ≡ HasAttached number → AddsPlace conference number w.places (turn w (Attach conference user)).world.places
attach_adds w conference user number e = place_added w.places conference number (offer (w.parts conference) (Attach conference user)).answer e

other_numbered : (ps : List Place) (a : Answer) → IsOtherAnswer (numbered ps a) → IsOtherAnswer a
other_numbered ps Done h = tt
other_numbered ps (HasAttached n) h = h
other_numbered ps Nothing h = tt
other_numbered ps Served h = tt
other_numbered ps (Said said) h = tt
other_numbered ps (Refused r) h = tt

-- one that isn't answered by a number adds none
pub attach_refused : (w : World) (conference user : ℕ) → IsOtherAnswer (turn w (Attach conference user)).answer → (turn w (Attach conference user)).world.places ≡ w.places
attach_refused w conference user h =
    places_unadded w.places conference (offer (w.parts conference) (Attach conference user)).answer (other_numbered w.places (offer (w.parts conference) (Attach conference user)).answer h)

get_grown : (ps : List Place) (q p : Place) (j : ℕ) → slice_get ps j ≡ Some p → slice_get (ps ++ q ∷ []) j ≡ Some p
get_grown [] q p j e = cc
get_grown (x ∷ ps) q p zero e = e
get_grown (x ∷ ps) q p (suc j) e = get_grown ps q p j e

-- a place stays where it is
pub place_grown : (ps : List Place) (q p : Place) (number : ℕ) → place ps number ≡ Some p → place (ps ++ q ∷ []) number ≡ Some p
place_grown ps q p zero e = cc
place_grown ps q p (suc j) e = get_grown ps q p j e

get_last : (ps : List Place) (q : Place) → slice_get (ps ++ q ∷ []) (length ps) ≡ Some q
get_last [] q = refl
get_last (x ∷ ps) q = get_last ps q

-- the last place is the one that was added
pub place_last : (ps : List Place) (q : Place) (number : ℕ) → number ≡ length ps + 1 → place (ps ++ q ∷ []) number ≡ Some q
place_last ps q number e =
    let next : number ≡ suc (length ps) = omega (arith, e) in
    ap (place (ps ++ q ∷ [])) next ∙ get_last ps q

get_mapped : (ps : List Place) (j : ℕ) → slice_get (map (λ (p : Place). p.conference) ps) j ≡ option_map (λ (p : Place). p.conference) (slice_get ps j)
get_mapped [] j = refl
get_mapped (x ∷ ps) zero = refl
get_mapped (x ∷ ps) (suc j) = get_mapped ps j

-- the conferences of places, by number
pub conference_of_place : (ps : List Place) (conferences : List ℕ) (j : ℕ) → conferences ≡ map (λ (p : Place). p.conference) ps → slice_get conferences j ≡ option_map (λ (p : Place). p.conference) (place ps (suc j))
conference_of_place ps conferences j e = ap (λ (l : List ℕ). slice_get l j) e ∙ get_mapped ps j

-- an answer that is no number
pub other_answer : (d : Answer) → ((number : ℕ) → d ≡ HasAttached number → ⊥) → IsOtherAnswer d
other_answer Done h = tt
other_answer (HasAttached number) h = h number refl
other_answer Nothing h = tt
other_answer Served h = tt
other_answer (Said said) h = tt
other_answer (Refused r) h = tt
