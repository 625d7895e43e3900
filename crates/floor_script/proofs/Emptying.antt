-- What waits for connections is taken, of one after another, and its lines are the text.
use Rattle.std.proofs.Common.{◌≡◌, ◌≢◌, ◌⊎◌, ℕ, zero, suc, ◌+◌, ◌<◌, ◌≤◌, get_or, Bool, true, false, List, [], ◌∷◌, ◌++◌, length, take, drop, map, inl, inr, length-append, refl, sym, ◌∙◌, ap, subst, append_assoc, append-nil, arith, Some, None}
use Rattle.std.specs.Prelude.{nat_le, filter, if◌then◌else◌, ◌==◌, ◌&&◌, Option, slice_get}
use Rattle.std.specs.List.{flat_map}
use Rattle.std.specs.Option.{option_map, option_map_or}
use Rattle.std.proofs.lemmas.Bool.{le-leb}
use Rattle.std.proofs.lemmas.List.{map-append, take_all, take_more}
use Rattle.std.proofs.lemmas.List.Concat.{flat_map-append}
use Rattle.std.proofs.lemmas.List.Elements.{filter-append}
use Rattle.std.proofs.lemmas.Option.{none-some}
use Rattle.floor_config.specs.Configuration.{Configuration}
use Rattle.floor_machine.specs.declared.event.Event.{Event}
use Rattle.floor_machine.specs.Journal.{MAX_EVENTS}
use Rattle.floor_machine.specs.Parcel.{Parcel}
use Rattle.floor_room.specs.Outbox.{Outbox}
use Rattle.floor_room.specs.Room.{AreSent, IsRoom, IsSent, Room, is_kept, parcels_to}
use Rattle.floor_room.specs.Taking.{outbox_of}
use Rattle.floor_hub.specs.declared.connection.Connection.{Connection}
use Rattle.floor_hub.specs.Connections.{connection_at}
use Rattle.floor_hub.specs.Hub.{Hub, is_forgotten, room_at}
use Rattle.floor_hub.specs.StandsFor.{ArrivalStands, ConferenceStands, NumberStands, live_at}
use Rattle.floor_hub.specs.World.{Arrival, Part, Place, World, place}
use Rattle.floor_script.specs.Printed.{due_of, due_to, fast_of, is_fast, lines_to, printed_to, sent_line, sent_lines}
use Rattle.floor_script.specs.State.{called_behind, called_for, count_at, most_at_once, printable, waits, waits_at, with_printed}
use Rattle.floor_script.specs.declared.attached.Live.{Live}
use Rattle.floor_script.specs.declared.attached.Pace.{Pace}
use Rattle.floor_script.specs.declared.attached.Pace.TheVariants.{Slow, Fast}
use Rattle.floor_script.specs.declared.waiting.Taken.{Taken}
use Rattle.floor_script.specs.steps.Holding.{Holds, IsAtOnce, IsWhole, outbox_in, taken_in}
use Rattle.floor_script.specs.steps.Taking.{ArePlaced, Empties, EmptiesAll, EmptiesLive, HandsOut, HasOutbox, IsKeptIn, IsPlaceOf, TakenAll, TakenOff, TakenOne, TakesAll, bare, count_for, held, held_for}
use Rattle.floor_script.proofs.Most.{most_is}
use Rattle.floor_script.proofs.Taking.{off_more, off_none}

-- So many parcels of a connection were taken so far, and their lines were added.
pub record SoFar (connection count : ℕ) (begun now : Hub) (was is : List ℕ) : Type 0 where
  pub parcels : List Parcel
  pub count_is : count ≡ length parcels
  pub off : TakenOff connection parcels begun now
  pub there : ((now ≡ begun) × (count ≡ 0)) ⊎ HasOutbox begun (connection_at begun.connections connection)
  pub text : is ≡ was ++ sent_lines connection parcels

pub far_none : (connection : ℕ) (hub : Hub) (text : List ℕ) → SoFar connection 0 hub hub text text
far_none connection hub text = record { parcels = []; count_is = refl; off = off_none connection hub; there = inl (refl, refl); text = sym (append-nil text) }

there_still : (connection count : ℕ) (begun now : Hub) → ((now ≡ begun) × (count ≡ 0)) ⊎ HasOutbox begun (connection_at begun.connections connection) → HasOutbox now (connection_at now.connections connection) →
    HasOutbox begun (connection_at begun.connections connection)
there_still connection count begun now (inl same) h = subst (λ (hub : Hub). HasOutbox hub (connection_at hub.connections connection)) same.0 h
there_still connection count begun now (inr there) h = there

lines_more : (connection : ℕ) (some : List Parcel) (p : Parcel) → sent_lines connection some ++ sent_line connection p.bytes ≡ sent_lines connection (some ++ p ∷ [])
lines_more connection some p =
    ap (λ (l : List ℕ). sent_lines connection some ++ l) (sym (append-nil (sent_line connection p.bytes)))
    ∙ sym (flat_map-append (λ (parcel : Parcel). sent_line connection parcel.bytes) some (p ∷ []))

-- one more parcel
pub far_more : (connection count : ℕ) (p : Parcel) (begun now next : Hub) (was is then_is : List ℕ) → SoFar connection count begun now was is → TakenOne connection (p ∷ []) now next →
    then_is ≡ is ++ sent_line connection p.bytes → SoFar connection (count + 1) begun next was then_is
far_more connection count p begun now next was is then_is far one text = record {
  parcels = far.parcels ++ p ∷ [];
  count_is = omega (arith, far.count_is, length-append far.parcels (p ∷ []));
  off = off_more connection far.parcels (p ∷ []) begun now next far.off one.off;
  there = inr (there_still connection count begun now far.there one.there);
  text = text ∙ ap (λ (l : List ℕ). l ++ sent_line connection p.bytes) far.text ∙ append_assoc was (sent_lines connection far.parcels) (sent_line connection p.bytes)
      ∙ ap (λ (l : List ℕ). was ++ l) (lines_more connection far.parcels p);
}

taken_all : (connection count : ℕ) (parcels : List Parcel) (begun now : Hub) (was is : List ℕ) → parcels ≡ take most_at_once (held begun connection) → count ≡ length parcels → TakenOff connection parcels begun now →
    HasOutbox begun (connection_at begun.connections connection) → is ≡ was ++ sent_lines connection parcels → TakenAll connection count begun now was is
taken_all connection count parcels begun now was is e count_is off there text = record {
  count_is = count_is ∙ ap (λ (l : List Parcel). length l) e;
  off = subst (λ (l : List Parcel). TakenOff connection l begun now) e off;
  there = there;
  text = text ∙ ap (λ (l : List Parcel). was ++ sent_lines connection l) e;
}

same_bare : (r s : Room) → ◌≡◌ {A = Option Room} (Some (bare r)) (Some (bare s)) → bare r ≡ bare s
same_bare r s e = by (bare r) (bare s) e
  where
    by : (x y : Room) → ◌≡◌ {A = Option Room} (Some x) (Some y) → x ≡ y
    by x y e = cc

kept_still : (a b : Option Room) → option_map bare a ≡ option_map bare b → IsKeptIn b → IsKeptIn a
kept_still None b e k = tt
kept_still (Some r) None e k = absurd (none-some (bare r) (sym e))
kept_still (Some r) (Some s) e k = ap (λ (x : Room). is_kept x) (same_bare r s e) ∙ k

hands_still : (connection : ℕ) (parcels : List Parcel) (begun now : Hub) → TakenOff connection parcels begun now → HandsOut begun (connection_at begun.connections connection) → HandsOut now (connection_at now.connections connection)
hands_still connection parcels begun now off k = subst (HandsOut now) (sym (off.connections connection)) (by (connection_at begun.connections connection) k)
  where
    by : (x : Option Connection) → HandsOut begun x → HandsOut now x
    by None k = tt
    by (Some x) k = kept_still (room_at now x.conference) (room_at begun x.conference) (off.rooms x.conference) k

-- nothing waits any more
pub far_end : (connection count : ℕ) (begun now next : Hub) (was is : List ℕ) → SoFar connection count begun now was is → count < most_at_once → TakenOne connection [] now next → TakesAll connection count begun next was is
far_end connection count begun now next was is far few one k =
    let off : TakenOff connection far.parcels begun next =
    subst (λ (l : List Parcel). TakenOff connection l begun next) (append-nil far.parcels) (off_more connection far.parcels [] begun now next far.off one.off) in
    let whole : held begun connection ≡ far.parcels = off.waited ∙ ap (λ (l : List Parcel). far.parcels ++ l) (one.none (hands_still connection far.parcels begun now far.off k) refl) ∙ append-nil far.parcels in
    let all : far.parcels ≡ take most_at_once (held begun connection) =
    sym (ap (λ (l : List Parcel). take most_at_once l) whole ∙ take_all most_at_once far.parcels (omega (arith, few, far.count_is))) in
    taken_all connection count far.parcels begun next was is all far.count_is off (there_still connection count begun now far.there one.there) far.text

take_front : (xs ys : List Parcel) → take (length xs) (xs ++ ys) ≡ xs
take_front [] ys = refl
take_front (x ∷ xs) ys = ap (λ (l : List Parcel). x ∷ l) (take_front xs ys)

begun_outbox : (connection count : ℕ) (begun now : Hub) → ((now ≡ begun) × (count ≡ 0)) ⊎ HasOutbox begun (connection_at begun.connections connection) → count ≡ most_at_once →
    HasOutbox begun (connection_at begun.connections connection)
begun_outbox connection count begun now (inl same) full = absurd (omega (arith, same.1, full, most_is))
begun_outbox connection count begun now (inr there) full = there

-- the last that is taken at once
pub far_full : (connection count : ℕ) (begun now : Hub) (was is : List ℕ) → SoFar connection count begun now was is → count ≡ most_at_once → TakenAll connection most_at_once begun now was is
far_full connection count begun now was is far full =
    let long : length far.parcels ≡ most_at_once = sym far.count_is ∙ full in
    let all : far.parcels ≡ take most_at_once (held begun connection) =
    sym (ap (λ (l : List Parcel). take most_at_once l) far.off.waited ∙ ap (λ (k : ℕ). take k (far.parcels ++ held now connection)) (sym long) ∙ take_front far.parcels (held now connection)) in
    taken_all connection most_at_once far.parcels begun now was is all (sym long) far.off (begun_outbox connection count begun now far.there full) far.text

-- each outbox has what the journal calls for at its member
sent_at : (config : Configuration) (es : List Event) (b : Bool) (k : ℕ) (os : List Outbox) (j : ℕ) (o : Outbox) → AreSent config es b k os → slice_get os j ≡ Some o → IsSent (parcels_to config es (k + j)) o b
sent_at config es b k [] j o h is = absurd (none-some o is)
sent_at config es b k (x ∷ os) zero o h is =
    let here : k ≡ k + 0 = omega arith in
    subst (λ (m : ℕ). IsSent (parcels_to config es m) o b) here (subst (λ (y : Outbox). IsSent (parcels_to config es k) y b) (same x o is) h.0)
  where
    same : (x y : Outbox) → ◌≡◌ {A = Option Outbox} (Some x) (Some y) → x ≡ y
    same x y e = cc
sent_at config es b k (x ∷ os) (suc j) o h is =
    let next : (k + 1) + j ≡ k + suc j = omega arith in
    subst (λ (m : ℕ). IsSent (parcels_to config es m) o b) next (sent_at config es b (k + 1) os j o h.1 is)

sent_of : (config : Configuration) (es : List Event) (b : Bool) (os : List Outbox) (n : ℕ) (o : Outbox) → AreSent config es b 1 os → outbox_of os n ≡ Some o → IsSent (parcels_to config es n) o b
sent_of config es b os zero o h is = absurd (none-some o is)
sent_of config es b os (suc k) o h is =
    let next : 1 + k ≡ suc k = omega arith in
    subst (λ (m : ℕ). IsSent (parcels_to config es m) o b) next (sent_at config es b 1 os k o h is)

drop_front : (xs ys : List Parcel) → drop (length xs) (xs ++ ys) ≡ ys
drop_front [] ys = refl
drop_front (x ∷ xs) ys = drop_front xs ys

-- an outbox of a whole room holds what is called for behind what was taken
held_behind : (all : List Parcel) (o : Outbox) (b : Bool) → IsSent all o b → b ≡ false → drop o.taken all ≡ o.held
held_behind all o b h whole =
    let rest : o.held ++ h.rest ≡ o.held = ap (λ (l : List Parcel). o.held ++ l) (h.whole whole) ∙ append-nil o.held in
    ap (λ (k : ℕ). drop k all) (sym h.count) ∙ ap (λ (l : List Parcel). drop (length h.taken) l) (h.sent ∙ append_assoc h.taken o.held h.rest ∙ ap (λ (l : List Parcel). h.taken ++ l) rest) ∙ drop_front h.taken o.held

some_is : (a b : Outbox) → ◌≡◌ {A = Option Outbox} (Some a) (Some b) → a ≡ b
some_is a b e = cc

in_room : (b : Bool) (r : Option Room) (q : Option Part) (n printed : ℕ) (o : Outbox) → ConferenceStands b r q → IsWhole r → ((s : Room) → r ≡ Some s → IsRoom s) → outbox_in r n ≡ Some o → taken_in r n ≡ printed →
    option_map_or (λ (outbox : Outbox). outbox.held) (outbox_in r n) [] ≡ drop printed (called_for q n)
in_room b None q n printed o st whole is_room is count = absurd (none-some o is)
in_room true (Some r) q n printed o st whole is_room is count = absurd (none-some r (sym st.0))
in_room false (Some r) None n printed o st whole is_room is count = absurd st
in_room false (Some r) (Some q) n printed o st whole is_room is count =
    let sent : IsSent (parcels_to r.ledger.config r.ledger.journal n) o r.ledger.is_broken =
    sent_of r.ledger.config r.ledger.journal r.ledger.is_broken r.outboxes n o (is_room r refl).sent is in
    let taken : o.taken ≡ printed = sym (ap (λ (b : Option Outbox). option_map_or (λ (outbox : Outbox). outbox.taken) b 0) is) ∙ count in
    ap (λ (b : Option Outbox). option_map_or (λ (outbox : Outbox). outbox.held) b []) is
    ∙ sym (held_behind (parcels_to r.ledger.config r.ledger.journal n) o r.ledger.is_broken sent whole)
    ∙ ap (λ (k : ℕ). drop k (parcels_to r.ledger.config r.ledger.journal n)) taken
    ∙ ap (λ (config : Configuration). drop printed (parcels_to config r.ledger.journal n)) st.0
    ∙ ap (λ (es : List Event). drop printed (parcels_to q.config es n)) (st.1 whole)

-- what the hub holds for a connection is what waits for it
held_waits : (hub : Hub) (w : World) (printed : ℕ → ℕ → ℕ) (conference : ℕ) (x : Option Connection) (p : Option Place) → Holds hub w printed → NumberStands (room_at hub) w.parts x p →
    ((s : Room) → room_at hub conference ≡ Some s → IsRoom s) → IsPlaceOf conference p → HasOutbox hub x → held_for hub x ≡ waits_at w printed p
held_waits hub w printed conference x None h st is_room placed there = absurd placed
held_waits hub w printed conference x (Some p) h st is_room placed there = by x (live_at w.parts p) st there
  where
    by : (x : Option Connection) (a : Option Arrival) → ArrivalStands (room_at hub) p x a → HasOutbox hub x → held_for hub x ≡ called_behind a (printed p.conference p.n) (called_for (w.parts p.conference) p.n)
    by None None st there = refl
    by None (Some a) st there = absurd st
    by (Some y) None st there = absurd st
    by (Some y) (Some a) st there =
        ap (λ (c : ℕ). option_map_or (λ (outbox : Outbox). outbox.held) (outbox_in (room_at hub c) y.n) []) st.0
        ∙ ap (λ (n : ℕ). option_map_or (λ (outbox : Outbox). outbox.held) (outbox_in (room_at hub p.conference) n) []) st.1
        ∙ in_room (is_forgotten hub p.conference) (room_at hub p.conference) (w.parts p.conference) p.n (printed p.conference p.n) there.0 (h.stands.stands.conferences p.conference) (h.whole p.conference)
        (λ s e. is_room s (ap (room_at hub) (sym placed) ∙ e))
        (ap (λ (n : ℕ). outbox_in (room_at hub p.conference) n) (sym st.1) ∙ ap (λ (c : ℕ). outbox_in (room_at hub c) y.n) (sym st.0) ∙ there.1)
        (h.taken p.conference p.n)

count_nothing : (p : Place) (conference n : ℕ) → 0 ≡ count_at (Some p) 0 conference n
count_nothing p conference n = by (p.conference == conference) (p.n == n)
  where
    by : (b d : Bool) → ◌≡◌ {A = ℕ} 0 (if b && d then 0 else 0)
    by true true = refl
    by true false = refl
    by false d = refl

-- what is counted of a connection is counted at its place
counts_alike : (hub : Hub) (w : World) (x : Option Connection) (p : Option Place) (parcels : List Parcel) (conference n : ℕ) → NumberStands (room_at hub) w.parts x p → (x ≡ None → parcels ≡ []) →
    count_for x (length parcels) conference n ≡ count_at p (length parcels) conference n
counts_alike hub w x None parcels conference n st empty = ap (λ (y : Option Connection). count_for y (length parcels) conference n) st
counts_alike hub w x (Some p) parcels conference n st empty = by x (live_at w.parts p) st empty
  where
    by : (x : Option Connection) (a : Option Arrival) → ArrivalStands (room_at hub) p x a → (x ≡ None → parcels ≡ []) → count_for x (length parcels) conference n ≡ count_at (Some p) (length parcels) conference n
    by None a st empty = count_nothing p conference n ∙ ap (λ (l : List Parcel). count_at (Some p) (length l) conference n) (sym (empty refl))
    by (Some y) None st empty = absurd st
    by (Some y) (Some a) st empty =
        ap (λ (c : ℕ). if (c == conference) && (y.n == n) then length parcels else 0) st.0
        ∙ ap (λ (m : ℕ). if (p.conference == conference) && (m == n) then length parcels else 0) st.1

whole_still : (a b : Option Room) → option_map bare a ≡ option_map bare b → IsWhole b → IsWhole a
whole_still None b e w = tt
whole_still (Some r) None e w = absurd (none-some (bare r) (sym e))
whole_still (Some r) (Some s) e w = ap (λ (x : Room). x.ledger.is_broken) (same_bare r s e) ∙ w

at_once_still : (a b : Option Room) → option_map bare a ≡ option_map bare b → IsAtOnce b → IsAtOnce a
at_once_still None b e w = tt
at_once_still (Some r) None e w = absurd (none-some (bare r) (sym e))
at_once_still (Some r) (Some s) e w = ap (λ (x : Room). x.kept) (same_bare r s e) ∙ w

-- a room none of whose events has to be kept first hands out what it tells
room_hands : (r : Option Room) → IsAtOnce r → ((s : Room) → r ≡ Some s → IsRoom s) → IsKeptIn r
room_hands None once is_room = tt
room_hands (Some r) once is_room =
    let room = is_room r refl in
    ap (λ (k : ℕ). nat_le r.told k) once ∙ le-leb r.told MAX_EVENTS (omega (arith, room.within, room.journal.count))

hands_out : (hub : Hub) (w : World) (printed : ℕ → ℕ → ℕ) (conference : ℕ) (x : Option Connection) (p : Option Place) → Holds hub w printed → NumberStands (room_at hub) w.parts x p →
    ((s : Room) → room_at hub conference ≡ Some s → IsRoom s) → IsPlaceOf conference p → HandsOut hub x
hands_out hub w printed conference x None h st is_room placed = absurd placed
hands_out hub w printed conference x (Some p) h st is_room placed = by x (live_at w.parts p) st
  where
    by : (x : Option Connection) (a : Option Arrival) → ArrivalStands (room_at hub) p x a → HandsOut hub x
    by None a st = tt
    by (Some y) None st = absurd st
    by (Some y) (Some a) st = subst (λ (c : ℕ). IsKeptIn (room_at hub c)) (sym (st.0 ∙ placed)) (room_hands (room_at hub conference) (h.at_once conference) is_room)

due_is : (connection count other : ℕ) → count ≡ other → due_of connection count ≡ due_of connection other
due_is connection count other e = ap (due_of connection) e

take_none : (n : ℕ) → ◌≡◌ {A = List Parcel} (take n []) []
take_none zero = refl
take_none (suc n) = refl

-- what waits for one connection
pub empties_one : (conference connection count : ℕ) (old new : Hub) (noted now : List Taken) (was is : List ℕ) → ((s : Room) → room_at old conference ≡ Some s → IsRoom s) → TakesAll connection count old new was is →
    now ≡ noted ++ due_of connection count → EmptiesAll conference (connection ∷ []) old new noted now was is
empties_one conference connection count old new noted now was is is_room takes noted_is = record { empties = λ w printed h placed. one w printed h placed.0 }
  where
    one : (w : World) (printed : ℕ → ℕ → ℕ) → Holds old w printed → IsPlaceOf conference (place w.places connection) → Empties w (connection ∷ []) printed new noted now was is
    one w printed h placed =
        let stands : NumberStands (room_at old) w.parts (connection_at old.connections connection) (place w.places connection) = h.stands.stands.numbers connection in
        let all : TakenAll connection count old new was is = takes (hands_out old w printed conference (connection_at old.connections connection) (place w.places connection) h stands is_room placed) in
        let waiting : held old connection ≡ waits w printed connection = held_waits old w printed conference (connection_at old.connections connection) (place w.places connection) h stands is_room placed all.there in
        let printed_is : take most_at_once (held old connection) ≡ printable w printed connection = ap (λ (l : List Parcel). take most_at_once l) waiting in
        let empty : connection_at old.connections connection ≡ None → take most_at_once (held old connection) ≡ [] = λ e. ap (λ (y : Option Connection). take most_at_once (held_for old y)) e ∙ take_none most_at_once in record {
          holds = record {
            stands = all.off.stands w h.stands;
            whole = λ c. whole_still (room_at new c) (room_at old c) (all.off.rooms c) (h.whole c);
            at_once = λ c. at_once_still (room_at new c) (room_at old c) (all.off.rooms c) (h.at_once c);
            taken = λ c n. all.off.counted c n
                ∙ ap (λ (k : ℕ). k + count_for (connection_at old.connections connection) (length (take most_at_once (held old connection))) c n) (h.taken c n)
                ∙ ap (λ (k : ℕ). printed c n + k) (counts_alike old w (connection_at old.connections connection) (place w.places connection) (take most_at_once (held old connection)) c n stands empty
                ∙ ap (λ (l : List Parcel). count_at (place w.places connection) (length l) c n) printed_is);
          };
          noted_is = noted_is ∙ ap (λ (l : List Taken). noted ++ l) (due_is connection count _ (all.count_is ∙ ap (λ (l : List Parcel). length l) printed_is) ∙ sym (append-nil _));
          text = all.text ∙ ap (λ (l : List ℕ). was ++ l) (ap (sent_lines connection) printed_is ∙ sym (append-nil _));
        }

-- none
pub empties_none : (conference : ℕ) (hub : Hub) (noted : List Taken) (text : List ℕ) → EmptiesAll conference [] hub hub noted noted text text
empties_none conference hub noted text = record { empties = λ w printed h placed. record { holds = h; noted_is = sym (append-nil noted); text = sym (append-nil text) } }

lines-append : (w : World) (some more : List ℕ) (printed : ℕ → ℕ → ℕ) → lines_to w (some ++ more) printed ≡ lines_to w some printed ++ lines_to w more (printed_to w some printed)
lines-append w [] more printed = refl
lines-append w (x ∷ some) more printed =
    ap (λ (l : List ℕ). sent_lines x (printable w printed x) ++ l) (lines-append w some more (with_printed w printed x))
    ∙ sym (append_assoc (sent_lines x (printable w printed x)) (lines_to w some (with_printed w printed x)) (lines_to w more (printed_to w some (with_printed w printed x))))

printed-append : (w : World) (some more : List ℕ) (printed : ℕ → ℕ → ℕ) → printed_to w (some ++ more) printed ≡ printed_to w more (printed_to w some printed)
printed-append w [] more printed = refl
printed-append w (x ∷ some) more printed = printed-append w some more (with_printed w printed x)

due-append : (w : World) (some more : List ℕ) (printed : ℕ → ℕ → ℕ) → due_to w (some ++ more) printed ≡ due_to w some printed ++ due_to w more (printed_to w some printed)
due-append w [] more printed = refl
due-append w (x ∷ some) more printed =
    ap (λ (l : List Taken). due_of x (length (printable w printed x)) ++ l) (due-append w some more (with_printed w printed x))
    ∙ sym (append_assoc (due_of x (length (printable w printed x))) (due_to w some (with_printed w printed x)) (due_to w more (printed_to w some (with_printed w printed x))))

placed_front : (places : List Place) (conference : ℕ) (some more : List ℕ) → ArePlaced places conference (some ++ more) → ArePlaced places conference some
placed_front places conference [] more p = tt
placed_front places conference (x ∷ some) more p = (p.0, placed_front places conference some more p.1)

placed_rest : (places : List Place) (conference : ℕ) (some more : List ℕ) → ArePlaced places conference (some ++ more) → ArePlaced places conference more
placed_rest places conference [] more p = p
placed_rest places conference (x ∷ some) more p = placed_rest places conference some more p.1

-- connections behind connections
pub empties_more : (conference : ℕ) (some more : List ℕ) (a b c : Hub) (noted now then_now : List Taken) (was is then_is : List ℕ) → EmptiesAll conference some a b noted now was is →
    EmptiesAll conference more b c now then_now is then_is → EmptiesAll conference (some ++ more) a c noted then_now was then_is
empties_more conference some more a b c noted now then_now was is then_is p q = record { empties = all }
  where
    all : (w : World) (printed : ℕ → ℕ → ℕ) → Holds a w printed → ArePlaced w.places conference (some ++ more) → Empties w (some ++ more) printed c noted then_now was then_is
    all w printed h placed =
        let first = p.empties w printed h (placed_front w.places conference some more placed) in
        let second = q.empties w (printed_to w some printed) first.holds (placed_rest w.places conference some more placed) in record {
          holds = subst (λ (f : ℕ → ℕ → ℕ). Holds c w f) (sym (printed-append w some more printed)) second.holds;
          noted_is = second.noted_is ∙ ap (λ (l : List Taken). l ++ due_to w more (printed_to w some printed)) first.noted_is
              ∙ append_assoc noted (due_to w some printed) (due_to w more (printed_to w some printed)) ∙ ap (λ (l : List Taken). noted ++ l) (sym (due-append w some more printed));
          text = second.text ∙ ap (λ (l : List ℕ). l ++ lines_to w more (printed_to w some printed)) first.text
              ∙ append_assoc was (lines_to w some printed) (lines_to w more (printed_to w some printed)) ∙ ap (λ (l : List ℕ). was ++ l) (sym (lines-append w some more printed));
        }

fast-append : (lives more : List Live) → fast_of (lives ++ more) ≡ fast_of lives ++ fast_of more
fast-append lives more =
    ap (map (λ (live : Live). live.connection)) (filter-append (λ (live : Live). is_fast live.pace) lives more)
    ∙ map-append (λ (live : Live). live.connection) (filter (λ (live : Live). is_fast live.pace) lives) (filter (λ (live : Live). is_fast live.pace) more)

-- one live connection more
pub empties_live : (conference : ℕ) (lives : List Live) (live : Live) (a b c : Hub) (noted now then_now : List Taken) (was is then_is : List ℕ) → EmptiesAll conference (fast_of lives) a b noted now was is →
    EmptiesAll conference (fast_of (live ∷ [])) b c now then_now is then_is → EmptiesAll conference (fast_of (lives ++ live ∷ [])) a c noted then_now was then_is
empties_live conference lives live a b c noted now then_now was is then_is p q =
    subst (λ (l : List ℕ). EmptiesAll conference l a c noted then_now was then_is) (sym (fast-append lives (live ∷ [])))
    (empties_more conference (fast_of lives) (fast_of (live ∷ [])) a b c noted now then_now was is then_is p q)

fast_one : (connection : ℕ) (pace : Pace) → pace ≡ Fast → fast_of (record { connection = connection; pace = pace } ∷ []) ≡ connection ∷ []
fast_one connection Fast e = refl
fast_one connection Slow e = cc

slow_one : (connection : ℕ) (pace : Pace) → pace ≡ Slow → fast_of (record { connection = connection; pace = pace } ∷ []) ≡ []
slow_one connection Slow e = refl
slow_one connection Fast e = cc

-- a slow connection is passed over
pub empties_slow : (conference : ℕ) (live : Live) (hub : Hub) (noted : List Taken) (text : List ℕ) → live.pace ≡ Slow → EmptiesAll conference (fast_of (live ∷ [])) hub hub noted noted text text
empties_slow conference live hub noted text e =
    subst (λ (l : List ℕ). EmptiesAll conference l hub hub noted noted text text) (sym (slow_one live.connection live.pace e)) (empties_none conference hub noted text)

-- and one that is fast is not
pub empties_fast : (conference : ℕ) (live : Live) (old new : Hub) (noted now : List Taken) (was is : List ℕ) → live.pace ≡ Fast → EmptiesAll conference (live.connection ∷ []) old new noted now was is →
    EmptiesAll conference (fast_of (live ∷ [])) old new noted now was is
empties_fast conference live old new noted now was is e all =
    subst (λ (l : List ℕ). EmptiesAll conference l old new noted now was is) (sym (fast_one live.connection live.pace e)) all

-- no parcel is due
pub due_none : (connection count : ℕ) (noted : List Taken) → count ≡ 0 → noted ≡ noted ++ due_of connection count
due_none connection count noted none = sym (ap (λ (l : List Taken). noted ++ l) (ap (due_of connection) none) ∙ append-nil noted)

-- so many are
pub due_some : (connection count : ℕ) → count ≢ 0 → record { connection = connection; parcels = count } ∷ [] ≡ due_of connection count
due_some connection zero some = absurd (some refl)
due_some connection (suc count) some = refl

-- the live connection at an index
pub empties_at : (conference : ℕ) (lives : List Live) (i : ℕ) (d : Live) (a b c : Hub) (noted now then_now : List Taken) (was is then_is : List ℕ) → i < length lives → EmptiesAll conference (fast_of (take i lives)) a b noted now was is →
    EmptiesLive conference (get_or lives i d) b c now then_now is then_is → EmptiesAll conference (fast_of (take (i + 1) lives)) a c noted then_now was then_is
empties_at conference lives i d a b c noted now then_now was is then_is within p q =
    subst (λ (l : List Live). EmptiesAll conference (fast_of l) a c noted then_now was then_is) (sym (take_more lives i d within))
    (empties_live conference (take i lives) (get_or lives i d) a b c noted now then_now was is then_is p q.empties)

-- behind the last
pub empties_end : (conference : ℕ) (lives : List Live) (i : ℕ) (a b : Hub) (noted now : List Taken) (was is : List ℕ) → length lives ≤ i → EmptiesAll conference (fast_of (take i lives)) a b noted now was is →
    EmptiesAll conference (fast_of lives) a b noted now was is
empties_end conference lives i a b noted now was is over p = subst (λ (l : List Live). EmptiesAll conference (fast_of l) a b noted now was is) (take_all i lives over) p
