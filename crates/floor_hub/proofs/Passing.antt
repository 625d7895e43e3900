-- What is handed out to a member is taken in one pass.
use Rattle.std.proofs.Common.{◌≡◌, ℕ, ◌+◌, ◌≤◌, Bool, true, false, List, [], ◌∷◌, ◌++◌, length, refl, sym, ◌∙◌, ap, subst, arith, append_assoc, append-nil, Some, None}
use Rattle.std.specs.Prelude.{Option, Result, Ok, nat_eq}
use Rattle.std.proofs.lemmas.Bool.{eqb-true}
use Rattle.std.proofs.lemmas.Option.{none-some}
use Rattle.floor_machine.specs.Parcel.{Parcel}
use Rattle.floor_room.specs.Replay.{bytes_of}
use Rattle.floor_room.specs.Room.{IsRoom, Room}
use Rattle.floor_room.specs.Taking.{Gave}
use Rattle.floor_hub.specs.declared.connection.Connection.{Connection}
use Rattle.floor_hub.specs.declared.refusal.HubRefusal.{HubRefusal}
use Rattle.floor_hub.specs.declared.step.Taken.{Taken}
use Rattle.floor_hub.specs.Hub.{Hub, room_at}
use Rattle.floor_hub.specs.Rooms.{TakenAll, TookEach}
use Rattle.floor_hub.proofs.Outboxes.{Grows, gave-length, grows-at, grows-same}

-- all but the outboxes is as it was
pub each-same : (r s : Room) (n : ℕ) (ps : List Parcel) → TookEach r s n ps → s ≡ record r { outboxes = s.outboxes }
each-same r s n [] h = subst (λ (z : Room). z ≡ record r { outboxes = z.outboxes }) (sym h) refl
each-same r s n (p ∷ ps) h = each-same h.0 s n ps h.3 ∙ ap (λ (z : Room). record z { outboxes = s.outboxes }) h.2.same

each-length : (r s : Room) (n : ℕ) (ps : List Parcel) → TookEach r s n ps → length r.outboxes ≤ length s.outboxes
each-length r s n [] h = omega (arith, ap (λ (z : Room). length z.outboxes) h)
each-length r s n (p ∷ ps) h = omega (arith, gave-length r h.0 n (Ok (Some p)) h.2, each-length h.0 s n ps h.3)

-- one more is taken
pub each-next : (r mid s : Room) (n : ℕ) (ps : List Parcel) (p : Parcel) → TookEach r mid n ps → IsRoom mid → Gave mid s n (Ok (Some p)) → TookEach r s n (ps ++ p ∷ [])
each-next r mid s n [] p e kept g = (s, subst IsRoom e kept, subst (λ (z : Room). Gave z s n (Ok (Some p))) e g, refl)
each-next r mid s n (q ∷ ps) p h kept g = (h.0, h.1, h.2, each-next h.0 mid s n ps p h.3 kept g)

pub bytes-next : (ps : List Parcel) (p : Parcel) → bytes_of (ps ++ p ∷ []) ≡ bytes_of ps ++ p.bytes
bytes-next [] p = append-nil p.bytes
bytes-next (q ∷ ps) p = ap (λ (bs : List ℕ). q.bytes ++ bs) (bytes-next ps p) ∙ sym (append_assoc q.bytes (bytes_of ps) p.bytes)

pub count-next : (ps : List Parcel) (p : Parcel) → length (ps ++ p ∷ []) ≡ length ps + 1
count-next [] p = refl
count-next (q ∷ ps) p = omega (arith, count-next ps p)

-- rooms grow where parcels were taken
pub grows-all : (x : Option Connection) (result : Result Taken HubRefusal) (before after : List ℕ) (old new : Hub) → TakenAll x result before after old new → (d : ℕ) → Grows (room_at old d) (room_at new d)
grows-all None result before after old new t d = grows-same (room_at old d) (room_at new d) (t.2.rooms d)
grows-all (Some x) result before after old new t d =
    let f = t.5 in
    grows-at x.conference old new f.before f.after f.was f.now (each-length f.before f.after x.n t.1 f.took) f.others d

-- a room that wasn't there isn't behind it
pub still-gone-all : (x : Option Connection) (result : Result Taken HubRefusal) (before after : List ℕ) (old new : Hub) → TakenAll x result before after old new → (d : ℕ) → room_at old d ≡ None → room_at new d ≡ None
still-gone-all None result before after old new t d none = t.2.rooms d ∙ none
still-gone-all (Some x) result before after old new t d none = by (nat_eq x.conference d) refl
  where
    by : (b : Bool) → nat_eq x.conference d ≡ b → room_at new d ≡ None
    by true e = absurd (none-some t.5.before (sym (ap (room_at old) (eqb-true x.conference d e) ∙ none) ∙ t.5.was))
    by false e = t.5.others d e ∙ none
