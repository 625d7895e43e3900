-- Whether the members of live connections are cut, as a hub knows it.
use Rattle.std.proofs.Common.{◌≡◌, ◌⊎◌, ◌≤◌, ◌+◌, ◌&&◌, ◌||◌, ℕ, List, [], ◌∷◌, Bool, true, false, cond, arith, length, refl, sym, ◌∙◌, ap, subst, inl, inr, Some, None}
use Rattle.std.specs.Prelude.{Option, ◌==◌, find, is_some, not}
use Rattle.std.specs.List.{list_any}
use Rattle.std.specs.Option.{option_map_or}
use Rattle.std.proofs.lemmas.Bool.Decides.{nat_tests}
use Rattle.floor_machine.specs.Conference as machine
use Rattle.floor_machine.specs.Conference.{AreCut, Conference, is_live, is_numbered_from, member_with, opening}
use Rattle.floor_machine.specs.Journal.{after_from}
use Rattle.floor_machine.specs.Next.{next}
use Rattle.floor_machine.specs.declared.event.Event.{Event}
use Rattle.floor_machine.specs.declared.member.Member.{Member}
use Rattle.floor_machine.proofs.Counted.{cut-next}
use Rattle.floor_machine.proofs.Found.{and_left, and_right}
use Rattle.floor_machine.proofs.Live.{if_live, live-found}
use Rattle.floor_machine.proofs.Runs.{after_from-more}
use Rattle.floor_machine.proofs.Sent.{numbered-next}
use Rattle.floor_room.specs.Calls.{Applied}
use Rattle.floor_room.specs.Ledger.{closed, conference_of}
use Rattle.floor_room.specs.Room.{Room}
use Rattle.floor_room.proofs.Ledgers.{opened}
use Rattle.floor_hub.specs.declared.connection.Connection.{Connection}
use Rattle.floor_hub.specs.Connections.{connection_at}
use Rattle.floor_hub.specs.Concerned.{is_cut, is_shut}
use Rattle.floor_hub.specs.Hub.{Hub, room_at}
use Rattle.floor_hub.specs.Kept.{IsKeptPart, KeptIn}
use Rattle.floor_hub.specs.StandsFor.{StandsFor}
use Rattle.floor_hub.specs.World.{World, state_of}
use Rattle.floor_hub.specs.steps.Attached.{IsKnown, joined_as}
use Rattle.floor_hub.proofs.Attending.{part_state}
use Rattle.floor_hub.proofs.Recalling.{here-now}

-- what any call does to a room: nothing; or where it took events, it is broken off now, or an event was added
abbrev pub Went : Room → Room → Type 0
Went r s = (s ≡ r) ⊎ ((closed r.ledger ≡ None) × ((s.ledger.is_broken ≡ true) ⊎ ((e : Event) × Applied r s e)))

true_false : true ≡ false → ⊥
true_false e = cc

-- a room that isn't shut is open, and not broken off
pub unshut : (r : Room) → is_shut r ≡ false → (r.ledger.is_broken ≡ false) × ((conference_of r.ledger).is_open ≡ true)
unshut r h = by r.ledger.is_broken (conference_of r.ledger).is_open h
  where
    by : (a b : Bool) → (a || not b) ≡ false → (a ≡ false) × (b ≡ true)
    by true b e = absurd (true_false e)
    by false true e = (refl, refl)
    by false false e = absurd (true_false e)

-- a room that takes events isn't shut
open-unshut : (r : Room) → closed r.ledger ≡ None → is_shut r ≡ false
open-unshut r h =
    let o = opened r.ledger (sym h) in
    ap (λ (b : Bool). b || not (conference_of r.ledger).is_open) o.unbroken ∙ ap not o.open_now

-- one that is shut stays as it is
pub shut-same : (r s : Room) → is_shut r ≡ true → Went r s → s ≡ r
shut-same r s h (inl e) = e
shut-same r s h (inr t) = absurd (true_false (sym h ∙ open-unshut r t.0))

-- members are numbered in the order of joining
numbered-after : (s : Conference) (es : List Event) → is_numbered_from 1 s.members ≡ true → is_numbered_from 1 (after_from s es).members ≡ true
numbered-after s [] h = h
numbered-after s (e ∷ es) h = numbered-after (next s e) es (numbered-next s e h)

numbered-of : (r : Room) → is_numbered_from 1 (conference_of r.ledger).members ≡ true
numbered-of r = numbered-after (opening r.ledger.config) r.ledger.journal refl

cut_in : Option Member → Bool
cut_in o = option_map_or (λ m. m.is_cut) o false

-- a live member is the one with its number
live-cut : (ms : List Member) (n : ℕ) → is_numbered_from 1 ms ≡ true → is_some (member_with ms n) ≡ true →
    option_map_or (λ m. m.is_cut) (member_with ms n) false ≡ option_map_or (λ m. m.is_cut) (find (λ m. m.n == n) ms) false
live-cut ms n numbered live = by (find (λ m. m.n == n) ms) (live-found ms 1 n numbered)
  where
    there : ◌≡◌ {A = Option Member} (member_with ms n) None → ⊥
    there e = true_false (sym live ∙ ap (λ (o : Option Member). is_some o) e)

    by : (o : Option Member) → member_with ms n ≡ option_map_or if_live o None → option_map_or (λ m. m.is_cut) (member_with ms n) false ≡ option_map_or (λ m. m.is_cut) o false
    by None e = absurd (there e)
    by (Some m) e = at m.is_live e
      where
        at : (b : Bool) → member_with ms n ≡ cond b (Some m) None → option_map_or (λ m. m.is_cut) (member_with ms n) false ≡ m.is_cut
        at true w = ap (λ (o : Option Member). option_map_or (λ m. m.is_cut) o false) w
        at false w = absurd (there w)

-- whether a live member is one of those that are cut
pub listed-cut : (s : Room) (cut : List ℕ) (n : ℕ) → is_shut s ≡ false → AreCut (conference_of s.ledger).members cut → is_live (conference_of s.ledger) n ≡ true →
    list_any (λ k. k == n) cut ≡ is_cut s n
listed-cut s cut n is_open are live =
    are n ∙ live-cut (conference_of s.ledger).members n (numbered-of s) live
    ∙ ap (λ (b : Bool). not b && machine.is_cut (conference_of s.ledger) n) (sym (unshut s is_open).0)

-- whoever is cut stays so
pub stays-cut : (r s : Room) (n : ℕ) → Went r s → is_shut s ≡ false → is_cut r n ≡ true → is_cut s n ≡ true
stays-cut r s n (inl e) is_open h = subst (λ (z : Room). is_cut z n ≡ true) (sym e) h
stays-cut r s n (inr (none, inl broken)) is_open h = absurd (true_false (sym broken ∙ (unshut s is_open).0))
stays-cut r s n (inr (none, inr (e, t))) is_open h =
    let was : machine.is_cut (conference_of r.ledger) n ≡ true = and_right (not r.ledger.is_broken) (machine.is_cut (conference_of r.ledger) n) h in
    let now : conference_of s.ledger ≡ next (conference_of r.ledger) e = ap (λ (z : Room). conference_of z.ledger) t.next ∙ after_from-more (opening r.ledger.config) r.ledger.journal e in
    ap (λ (b : Bool). not b && machine.is_cut (conference_of s.ledger) n) (unshut s is_open).0
    ∙ ap (λ (z : Conference). machine.is_cut z n) now ∙ cut-next (conference_of r.ledger) e n was

-- nobody has a number beyond the last
beyond : (ms : List Member) (k n : ℕ) → is_numbered_from k ms ≡ true → k + length ms ≤ n → find (λ m. m.n == n) ms ≡ None
beyond [] k n h l = refl
beyond (m ∷ ms) k n h l = rw differs (beyond ms (k + 1) n (and_right _ _ h) (omega arith))
  where
    apart : (a k n : ℕ) → (a == k) ≡ true → k + 1 ≤ n → (a == n) ≡ false
    apart a k n e l = grind (arith, nat_tests)

    differs : (m.n == n) ≡ false
    differs = apart m.n k n (and_left (m.n == k) (is_numbered_from (k + 1) ms) h) (omega arith)

-- who joins isn't cut
pub joined-known : (r : Room) (number : ℕ) → IsKnown r (joined_as r number)
joined-known r number is_open =
    let n : ℕ = length (conference_of r.ledger).members + 1 in
    sym (ap (λ (b : Bool). not b && machine.is_cut (conference_of r.ledger) n) (unshut r is_open).0
    ∙ ap (λ (o : Option Member). option_map_or (λ m. m.is_cut) o false) (beyond (conference_of r.ledger).members 1 n (numbered-of r) (omega arith)))

room_is : (x y : Room) → ◌≡◌ {A = Option Room} (Some x) (Some y) → x ≡ y
room_is x y e = cc

-- the member of a live connection is live while its conference is open and its room not broken off
pub connected-live : (h : Hub) (w : World) → StandsFor h w → (number : ℕ) (x : Connection) → connection_at h.connections number ≡ Some x → (s : Room) → room_at h x.conference ≡ Some s → is_shut s ≡ false →
    is_live (conference_of s.ledger) x.n ≡ true
connected-live h w st number x is s room is_open =
    let at = here-now h w st number x is in
    let same : at.r ≡ s = room_is at.r s (sym at.room ∙ ap (room_at h) (sym at.conference) ∙ room) in
    let u = unshut at.r (subst (λ (z : Room). is_shut z ≡ false) (sym same) is_open) in
    let state = part_state at.r at.part at.stands.0 (at.stands.1 u.0) in
    let kept : IsKeptPart at.part = subst KeptIn at.was (st.kept.parts at.p.conference) in
    let live : is_live (state_of at.part) at.p.n ≡ true = kept.live at.p.n at.a (subst (λ (z : Conference). z.is_open ≡ true) state u.1) at.there at.live in
    subst (λ (i : ℕ). is_live (conference_of s.ledger) i ≡ true) (sym at.n)
    (subst (λ (z : Room). is_live (conference_of z.ledger) at.p.n ≡ true) same (subst (λ (z : Conference). is_live z at.p.n ≡ true) (sym state) live))
