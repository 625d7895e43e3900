-- The statuses of the changed floors, written once: to each member they are its own.
use Rattle.std.proofs.Common.{◌≡◌, ℕ, Bool, true, false, cond, List, [], ◌∷◌, ◌++◌, map, Option, refl, ap, ◌∙◌}
use Rattle.std.specs.Prelude.{◌==◌, ◌&&◌, filter}
use Rattle.std.proofs.lemmas.List.Elements.{filter-append}
use Rattle.std.proofs.lemmas.Bool.{or_left, or_right}
use Rattle.floor_wire.specs.Header.{addressed}
use Rattle.floor_message.specs.Written.{tell_bytes}
use Rattle.floor_message.specs.declared.tell.Tell.{Tell}
use Rattle.floor_message.specs.Head.{notice_head}
use Rattle.floor_machine.specs.declared.member.Member.{Member}
use Rattle.floor_machine.specs.Parcel.{Parcel}
use Rattle.floor_machine.specs.steps.Outcomes.{FloorUpdate}
use Rattle.floor_machine.specs.declared.tell.notices.FloorNotice.{FloorNotice}
use Rattle.floor_machine.specs.declared.replied.Replied.{Replied}
use Rattle.floor_machine.specs.declared.tell.changed.Update.{Update}
use Rattle.floor_machine.specs.Journal.{parcel, sent_to}
use Rattle.floor_machine.specs.Outgoing.{notice, outgoing_bytes}
use Rattle.floor_machine.specs.steps.Telling.{answered_to, floor_notice, floor_notice_to, floor_update_to, is_due_to, is_noticed, is_watched, is_watched_by, noticed_to, noticed_to_all, parcels_to, parcels_to_all, update_to}

-- a message that is written for nobody and then addressed is the message to the user
addressed-notice : (conference user : ℕ) (t : Tell) → addressed (tell_bytes (notice_head conference 0) t) user ≡ outgoing_bytes (notice conference user t)
unfolding outgoing_bytes
addressed-notice conference user t = refl

notice-parcel : (conference : ℕ) (m : Member) (u : FloorUpdate) → floor_notice_to m (floor_notice conference u) ≡ parcel m.n (floor_update_to conference m u)
notice-parcel conference m u = ap (λ (bytes : List ℕ). record { n = m.n; bytes = bytes }) (addressed-notice conference m.user u.tell)

-- Only statuses that pass are written. A member misses none where those of all floors that it watches pass.
noticed-floors : (conference : ℕ) (m : Member) (q : FloorUpdate → Bool) → ((u : FloorUpdate) → is_watched m u ≡ true → q u ≡ true) → (us : List FloorUpdate) →
    map (floor_notice_to m) (filter (is_noticed m) (map (floor_notice conference) (filter q us))) ≡ map (λ u. parcel m.n (floor_update_to conference m u)) (filter (is_watched m) us)
noticed-floors conference m q all [] = refl
noticed-floors conference m q all (u ∷ us) = by (q u) (all u) (noticed-floors conference m q all us)
  where
    passes : (b : Bool) → map (floor_notice_to m) (filter (is_noticed m) (map (floor_notice conference) (filter q us))) ≡ map (λ u. parcel m.n (floor_update_to conference m u)) (filter (is_watched m) us) →
        map (floor_notice_to m) (cond b (floor_notice conference u ∷ filter (is_noticed m) (map (floor_notice conference) (filter q us))) (filter (is_noticed m) (map (floor_notice conference) (filter q us))))
        ≡ map (λ u. parcel m.n (floor_update_to conference m u)) (cond b (u ∷ filter (is_watched m) us) (filter (is_watched m) us))
    passes true h =
        ap (λ (p : Parcel). p ∷ map (floor_notice_to m) (filter (is_noticed m) (map (floor_notice conference) (filter q us)))) (notice-parcel conference m u)
        ∙ ap (λ (ps : List Parcel). parcel m.n (floor_update_to conference m u) ∷ ps) h
    passes false h = h

    fails : (b : Bool) → (b ≡ true → false ≡ true) →
        map (floor_notice_to m) (filter (is_noticed m) (map (floor_notice conference) (filter q us))) ≡ map (λ u. parcel m.n (floor_update_to conference m u)) (filter (is_watched m) us) →
        map (floor_notice_to m) (filter (is_noticed m) (map (floor_notice conference) (filter q us)))
        ≡ map (λ u. parcel m.n (floor_update_to conference m u)) (cond b (u ∷ filter (is_watched m) us) (filter (is_watched m) us))
    fails true seen h = absurd (let yes : false ≡ true = seen refl in cc)
    fails false seen h = h

    by : (k : Bool) → (is_watched m u ≡ true → k ≡ true) →
        map (floor_notice_to m) (filter (is_noticed m) (map (floor_notice conference) (filter q us))) ≡ map (λ u. parcel m.n (floor_update_to conference m u)) (filter (is_watched m) us) →
        map (floor_notice_to m) (filter (is_noticed m) (map (floor_notice conference) (cond k (u ∷ filter q us) (filter q us))))
        ≡ map (λ u. parcel m.n (floor_update_to conference m u)) (cond (is_watched m u) (u ∷ filter (is_watched m) us) (filter (is_watched m) us))
    by true seen h = passes (is_watched m u) h
    by false seen h = fails (is_watched m u) seen h

noticed-member : (conference : ℕ) (reply : Option Replied) (requests : List Update) (q : FloorUpdate → Bool) (us : List FloorUpdate) (m : Member) →
    ((u : FloorUpdate) → is_watched m u ≡ true → q u ≡ true) →
    noticed_to conference reply requests (map (floor_notice conference) (filter q us)) m ≡ parcels_to conference reply requests us m
noticed-member conference reply requests q us m all =
    ap (λ (ps : List Parcel). map (parcel m.n) (answered_to reply m.n) ++ map (λ u. parcel m.n (update_to conference m u)) (filter (is_due_to reply m) requests) ++ ps)
    (noticed-floors conference m q all us)

-- a member that isn't live is put nothing
noticed-live : (conference : ℕ) (reply : Option Replied) (requests : List Update) (q : FloorUpdate → Bool) (us : List FloorUpdate) (m : Member) (live : Bool) →
    ((u : FloorUpdate) → (live && is_watched m u) ≡ true → q u ≡ true) →
    cond live (noticed_to conference reply requests (map (floor_notice conference) (filter q us)) m) [] ≡ cond live (parcels_to conference reply requests us m) []
noticed-live conference reply requests q us m true all = noticed-member conference reply requests q us m all
noticed-live conference reply requests q us m false all = refl

noticed-some : (conference : ℕ) (reply : Option Replied) (requests : List Update) (q : FloorUpdate → Bool) (us : List FloorUpdate) (members : List Member) →
    ((u : FloorUpdate) → is_watched_by members u ≡ true → q u ≡ true) →
    noticed_to_all conference reply requests (map (floor_notice conference) (filter q us)) members ≡ parcels_to_all conference reply requests us members
noticed-some conference reply requests q us [] all = refl
noticed-some conference reply requests q us (m ∷ members) all =
    ap (λ (ps : List Parcel). ps ++ noticed_to_all conference reply requests (map (floor_notice conference) (filter q us)) members)
    (noticed-live conference reply requests q us m m.is_live (λ u seen. all u (or_left (m.is_live && is_watched m u) (is_watched_by members u) seen)))
    ∙ ap (λ (ps : List Parcel). cond m.is_live (parcels_to conference reply requests us m) [] ++ ps)
    (noticed-some conference reply requests q us members (λ u seen. all u (or_right (m.is_live && is_watched m u) (is_watched_by members u) seen)))

-- the parcels of all are the same, however often a status is written, and though one that nobody watches isn't
pub noticed-all : (conference : ℕ) (reply : Option Replied) (requests : List Update) (us : List FloorUpdate) (members : List Member) →
    noticed_to_all conference reply requests (map (floor_notice conference) (filter (is_watched_by members) us)) members ≡ parcels_to_all conference reply requests us members
noticed-all conference reply requests us members = noticed-some conference reply requests (is_watched_by members) us members (λ u seen. seen)

-- the parcels of a member are to it alone
own-map : {A : Type 0} (g : A → Parcel) (n : ℕ) → ((x : A) → (g x).n ≡ n) → (k : ℕ) (xs : List A) → sent_to k (map g xs) ≡ cond (n == k) (map g xs) []
own-map g n own k [] = by (n == k)
  where
    by : (b : Bool) → ◌≡◌ {A = List Parcel} [] (cond b [] [])
    by true = refl
    by false = refl
own-map g n own k (x ∷ xs) =
    ap (λ (i : ℕ). cond (i == k) (g x ∷ sent_to k (map g xs)) (sent_to k (map g xs))) (own x)
    ∙ ap (λ (ps : List Parcel). cond (n == k) (g x ∷ ps) ps) (own-map g n own k xs)
    ∙ by (n == k)
  where
    by : (b : Bool) → cond b (g x ∷ cond b (map g xs) []) (cond b (map g xs) []) ≡ cond b (g x ∷ map g xs) []
    by true = refl
    by false = refl

sent-both : (k : ℕ) (xs ys : List Parcel) → sent_to k (xs ++ ys) ≡ sent_to k xs ++ sent_to k ys
sent-both k xs ys = filter-append (λ p. p.n == k) xs ys

-- so of all parcels that are noticed to members, those to one are its own
pub own-noticed : (conference : ℕ) (reply : Option Replied) (requests : List Update) (notices : List FloorNotice) (m : Member) (k : ℕ) →
    sent_to k (noticed_to conference reply requests notices m) ≡ cond (m.n == k) (noticed_to conference reply requests notices m) []
own-noticed conference reply requests notices m k =
    let first : List Parcel = map (parcel m.n) (answered_to reply m.n) in
    let second : List Parcel = map (λ u. parcel m.n (update_to conference m u)) (filter (is_due_to reply m) requests) in
    let third : List Parcel = map (floor_notice_to m) (filter (is_noticed m) notices) in
    sent-both k (first ++ second) third
    ∙ ap (λ (ps : List Parcel). ps ++ sent_to k third) (sent-both k first second)
    ∙ ap (λ (ps : List Parcel). ps ++ sent_to k second ++ sent_to k third) (own-map (parcel m.n) m.n (λ x. refl) k (answered_to reply m.n))
    ∙ ap (λ (ps : List Parcel). cond (m.n == k) first [] ++ ps ++ sent_to k third) (own-map (λ u. parcel m.n (update_to conference m u)) m.n (λ x. refl) k (filter (is_due_to reply m) requests))
    ∙ ap (λ (ps : List Parcel). cond (m.n == k) first [] ++ cond (m.n == k) second [] ++ ps) (own-map (floor_notice_to m) m.n (λ x. refl) k (filter (is_noticed m) notices))
    ∙ by (m.n == k) first second third
  where
    by : (b : Bool) (xs ys zs : List Parcel) → cond b xs [] ++ cond b ys [] ++ cond b zs [] ≡ cond b (xs ++ ys ++ zs) []
    by true xs ys zs = refl
    by false xs ys zs = refl
