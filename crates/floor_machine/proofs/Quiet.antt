-- An event that leaves each request as it is changes nothing that is shown: a join tells nobody anything, and a message its sender
-- alone. A conference that ends tells nobody anything.
use Rattle.std.proofs.Common.{◌≡◌, ℕ, zero, suc, ◌<◌, Bool, true, false, cond, List, [], ◌∷◌, ◌++◌, length, get_or, map, Option, Some, None, refl, sym, ap, ◌∙◌, arith}
use Rattle.std.specs.Prelude.{◌==◌, not, filter, find, option_map, is_none}
use Rattle.std.specs.List.{list_any}
use Rattle.std.specs.Option.{option_map_or}
use Rattle.floor_config.specs.Configuration.{Configuration}
use Rattle.floor_config.specs.declared.floors.Floor.{Floor}
use Rattle.floor_queue.specs.declared.request.Request.{Request}
use Rattle.floor_queue.specs.Order.{settle, is_due, granted_if}
use Rattle.floor_queue.specs.Queue.{request_at, is_ascending}
use Rattle.floor_message.specs.declared.information.Info.{Info}
use Rattle.floor_message.specs.declared.tell.Tell.TheVariants.{FloorRequestStatus}
use Rattle.floor_machine.specs.declared.event.Event.{Event}
use Rattle.floor_machine.specs.declared.event.Event.TheVariants.{Join, Took, Close}
use Rattle.floor_machine.specs.declared.member.Member.{Member}
use Rattle.floor_machine.specs.Parcel.{Parcel}
use Rattle.floor_machine.specs.declared.replied.Replied.{Replied}
use Rattle.floor_machine.specs.Conference.{Conference, member_with, is_numbered_from}
use Rattle.floor_machine.specs.Shown.{Entry, entry_of, ongoing_of, settle_entries, info, info_of}
use Rattle.floor_machine.specs.Same.{same_info, same_infos}
use Rattle.floor_machine.specs.Change.{acknowledging, change, shown, settled}
use Rattle.floor_machine.specs.Outgoing.{Outgoing, notice}
use Rattle.floor_machine.specs.Reply.{infos, infos_on, floor_status_tell}
use Rattle.floor_machine.specs.Told.{Changed, changed_of, changed_requests, changed_floors, is_changed, is_told, reply_to, due_to, due}
use Rattle.floor_machine.specs.steps.Counting.{due_parcels}
use Rattle.floor_machine.specs.steps.Serving.{is_telling}
use Rattle.floor_machine.specs.steps.Telling.{answered_to, floor_update, parcels_to_all}
use Rattle.floor_machine.proofs.Configs.{config-change, keeps_config}
use Rattle.floor_machine.proofs.Entries.{ongoing_of-entries}
use Rattle.floor_machine.proofs.Found.{request_at_place}
use Rattle.floor_machine.proofs.SameInfo.{list_own, info_own}
use Rattle.floor_machine.proofs.Served.{settled-made, settled-ongoing}
use Rattle.floor_machine.proofs.Telling.{due-member, parcels-told, update_for}

-- the conference that ends keeps its members, and no request
pub settled-close : (s : Conference) → record s { ongoing = []; is_open = false } ≡ settled s Close
unfolding settled shown change
settled-close s = refl

-- nothing is due to anybody where the conference ends
pub due_of-close : (s : Conference) (n : ℕ) → due s Close n ≡ []
unfolding due
due_of-close s n = refl

-- settles one entry, where these requests are ongoing
abbrev settle_entry : List Floor → List Request → Entry → Entry
settle_entry floors all e = cond (is_none e.ending) (record e { request = granted_if (is_due floors all e.request) e.request }) e

each-settled : (floors : List Floor) (all rs : List Request) → map (settle_entry floors all) (map entry_of rs) ≡ map entry_of (map (λ r. granted_if (is_due floors all r) r) rs)
each-settled floors all [] = refl
each-settled floors all (r ∷ rs) = ap (λ (es : List Entry). entry_of (granted_if (is_due floors all r) r) ∷ es) (each-settled floors all rs)

-- settling leaves settled requests
entries-settled : (floors : List Floor) (rs : List Request) → settle floors rs ≡ rs → settle_entries floors (map entry_of rs) ≡ map entry_of rs
entries-settled floors rs is_settled =
    ap (λ (all : List Request). map (settle_entry floors all) (map entry_of rs)) (ongoing_of-entries rs)
    ∙ each-settled floors rs rs
    ∙ ap (map entry_of) is_settled

-- the event leaves each request as it is, none of which is due then, and as it is shown
pub record IsStill (s : Conference) (e : Event) : Type 0 where
  pub entries : (change s e).entries ≡ map entry_of s.ongoing
  pub settled : settle (change s e).config.floors s.ongoing ≡ s.ongoing
  pub infos : map (info (change s e).config s.ongoing) s.ongoing ≡ infos s

-- so does one that leaves the configuration and each request as it is
pub still : (s : Conference) (e : Event) → keeps_config e ≡ true → (change s e).entries ≡ map entry_of s.ongoing → settle s.config.floors s.ongoing ≡ s.ongoing → IsStill s e
still s e keeps kept is_settled =
    record {
      entries = kept;
      settled = ap (λ (config : Configuration). settle config.floors s.ongoing) (config-change s e keeps) ∙ is_settled;
      infos = ap (λ (config : Configuration). map (info config s.ongoing) s.ongoing) (config-change s e keeps);
    }

-- its entries are those of the requests
pub shown-kept : (s : Conference) (e : Event) → IsStill s e → shown s e ≡ map entry_of s.ongoing
unfolding shown
shown-kept s e kept = ap (settle_entries (change s e).config.floors) kept.entries ∙ entries-settled (change s e).config.floors s.ongoing kept.settled

number-info : (config : Configuration) (all : List Request) (r : Request) → (info config all r).request ≡ r.number
unfolding info_of
number-info config all r = refl

-- what is shown of the request with this number
pub found-info : (config : Configuration) (all rs : List Request) (k : ℕ) → find (λ i. i.request == k) (map (info config all) rs) ≡ option_map (info config all) (request_at rs k)
found-info config all [] k = refl
found-info config all (r ∷ rs) k =
    ap (λ (n : ℕ). cond (n == k) (Some (info config all r)) (find (λ i. i.request == k) (map (info config all) rs))) (number-info config all r)
    ∙ by (r.number == k) (found-info config all rs k)
  where
    by : (b : Bool) → find (λ i. i.request == k) (map (info config all) rs) ≡ option_map (info config all) (request_at rs k) →
        cond b (Some (info config all r)) (find (λ i. i.request == k) (map (info config all) rs)) ≡ option_map (info config all) (cond b (Some r) (request_at rs k))
    by true h = refl
    by false h = h

-- a request that is shown as before isn't changed
same-unchanged : (config : Configuration) (all : List Request) (r : Request) → request_at all r.number ≡ Some r → is_changed (map (info config all) all) (info config all r) ≡ false
same-unchanged config all r found =
    let i : Info = info config all r in
    let test : Option Info → Bool = λ o. option_map_or (λ x. not (same_info x i)) o true in
    ap (λ (n : ℕ). test (find (λ x. x.request == n) (map (info config all) all))) (number-info config all r)
    ∙ ap test (found-info config all all r.number ∙ ap (option_map (info config all)) found)
    ∙ ap not (info_own i)

-- an ongoing request, with what is shown of it
abbrev changed_ongoing : Configuration → List Request → Request → Changed
changed_ongoing config all r = record { request = r; info = info config all r }

none-changed : (config : Configuration) (before : List Info) (all rs : List Request) →
    ((i : ℕ) (d : Request) → i < length rs → is_changed before (info config all (get_or rs i d)) ≡ false) →
    filter (λ c. is_changed before c.info) (map (changed_of config (map entry_of all)) (map entry_of rs)) ≡ []
none-changed config before all [] fails = refl
none-changed config before all (r ∷ rs) fails =
    let first : is_changed before (info_of config (ongoing_of (map entry_of all)) (entry_of r)) ≡ false =
    ap (λ (qs : List Request). is_changed before (info_of config qs (entry_of r))) (ongoing_of-entries all) ∙ fails zero r (omega arith) in
    rw first (none-changed config before all rs (λ i d within. fails (suc i) d (omega arith)))

-- it changes no request
pub requests-kept : (s : Conference) (e : Event) → IsStill s e → is_ascending s.ongoing ≡ true → changed_requests s e ≡ []
unfolding changed_requests
requests-kept s e kept ascending =
    let config : Configuration = (change s e).config in
    ap (λ (c : Configuration). filter (λ c. is_changed (infos s) c.info) (map (changed_of c (shown s e)) (shown s e))) (ap (λ (t : Conference). t.config) (settled-made s e))
    ∙ ap (λ (es : List Entry). filter (λ c. is_changed (infos s) c.info) (map (changed_of config es) es)) (shown-kept s e kept)
    ∙ ap (λ (is : List Info). filter (λ c. is_changed is c.info) (map (changed_of config (map entry_of s.ongoing)) (map entry_of s.ongoing))) (sym kept.infos)
    ∙ none-changed config (map (info config s.ongoing) s.ongoing) s.ongoing s.ongoing
    (λ i d within. same-unchanged config s.ongoing (get_or s.ongoing i d) (request_at_place s.ongoing i d ascending within))

none-differ : (before now : ℕ → List Info) → ((id : ℕ) → now id ≡ before id) → (fs : List Floor) → filter (λ f. not (same_infos (before f.id) (now f.id))) fs ≡ []
none-differ before now same [] = refl
none-differ before now same (f ∷ fs) =
    let alike : same_infos (before f.id) (now f.id) ≡ true =
    ap (same_infos (before f.id)) (same f.id) ∙ list_own same_info info_own (before f.id) in
    rw alike (none-differ before now same fs)

ongoing-kept : (s : Conference) (e : Event) → IsStill s e → (settled s e).ongoing ≡ s.ongoing
ongoing-kept s e kept = settled-ongoing s e ∙ ap ongoing_of (shown-kept s e kept) ∙ ongoing_of-entries s.ongoing

infos-kept : (s : Conference) (e : Event) → IsStill s e → infos (settled s e) ≡ infos s
infos-kept s e kept =
    ap (λ (config : Configuration). map (info config (settled s e).ongoing) (settled s e).ongoing) (ap (λ (t : Conference). t.config) (settled-made s e))
    ∙ ap (λ (rs : List Request). map (info (change s e).config rs) rs) (ongoing-kept s e kept)
    ∙ kept.infos

-- and no floor
pub floors-kept : (s : Conference) (e : Event) → IsStill s e → changed_floors s e ≡ []
unfolding changed_floors
floors-kept s e kept = none-differ (λ id. infos_on id (infos s)) (λ id. infos_on id (infos (settled s e))) (λ id. ap (infos_on id) (infos-kept s e kept)) (settled s e).config.floors

-- the conference after it may have another configuration and other members, and is otherwise as it was
pub settled-still : (s : Conference) (e : Event) → IsStill s e → (change s e).given ≡ s.given → (change s e).is_open ≡ s.is_open →
    record s { config = (change s e).config; members = (change s e).members } ≡ settled s e
settled-still s e kept given opened =
    let ongoing : s.ongoing ≡ ongoing_of (shown s e) = sym (ap ongoing_of (shown-kept s e kept) ∙ ongoing_of-entries s.ongoing) in
    let c = change s e in
    ap (λ (rs : List Request). record s { config = c.config; members = c.members; ongoing = rs }) ongoing
    ∙ ap (λ (given : ℕ). record s { config = c.config; members = c.members; ongoing = ongoing_of (shown s e); given = given }) (sym given)
    ∙ ap (λ (b : Bool). record s { config = c.config; members = c.members; ongoing = ongoing_of (shown s e); given = c.given; is_open = b }) (sym opened)
    ∙ sym (settled-made s e)

-- where it keeps its configuration too, it has other members at the most
pub settled-kept : (s : Conference) (e : Event) → keeps_config e ≡ true → IsStill s e → (change s e).given ≡ s.given → (change s e).is_open ≡ s.is_open →
    record s { members = (change s e).members } ≡ settled s e
settled-kept s e keeps kept given opened =
    ap (λ (config : Configuration). record s { config = config; members = (change s e).members }) (sym (config-change s e keeps)) ∙ settled-still s e kept given opened

-- the reply is all that it tells
pub parcels-kept : (s : Conference) (e : Event) (reply : Option Replied) → is_telling e ≡ true → is_numbered_from 1 (settled s e).members ≡ true →
    ((k : ℕ) → answered_to reply k ≡ reply_to s e k) → changed_requests s e ≡ [] → changed_floors s e ≡ [] →
    parcels_to_all s.config.conference reply [] [] (settled s e).members ≡ due_parcels s e
parcels-kept s e reply telling numbered replied requests floors =
    let all : List Changed → List Floor → List Parcel = λ cs fs. parcels_to_all s.config.conference reply (map update_for cs) (map (floor_update (infos (settled s e))) fs) (settled s e).members in
    ap (λ (cs : List Changed). all cs []) (sym requests) ∙ ap (all (changed_requests s e)) (sym floors) ∙ parcels-told s e reply telling numbered replied

-- what was found to have changed is told to a member
abbrev notices : Conference → Event → Member → List Changed → List Floor → List Outgoing
notices s e m requests floors =
    map (λ c. notice s.config.conference m.user (FloorRequestStatus c.info)) (filter (is_told [] m.user) requests)
    ++ map (λ f. notice s.config.conference m.user (floor_status_tell (settled s e) f.id)) (filter (λ f. list_any (λ floor. floor == f.id) m.watched) floors)

-- nothing is due to anybody after such an event that nobody sent
pub due-unsent : (s : Conference) (e : Event) → is_telling e ≡ true → ((k : ℕ) → reply_to s e k ≡ []) → IsStill s e → is_ascending s.ongoing ≡ true → (n : ℕ) → due s e n ≡ []
due-unsent s e telling unsent kept ascending n = due-member s e n telling ∙ by (member_with (settled s e).members n)
  where
    one : (m : Member) → due_to s e m ≡ []
    one m =
        ap (λ (replied : List Outgoing). replied
        ++ map (λ c. notice s.config.conference m.user (FloorRequestStatus c.info)) (filter (is_told replied m.user) (changed_requests s e))
        ++ map (λ f. notice s.config.conference m.user (floor_status_tell (settled s e) f.id)) (filter (λ f. list_any (λ floor. floor == f.id) m.watched) (changed_floors s e)))
        (unsent m.n)
        ∙ ap (λ (cs : List Changed). notices s e m cs (changed_floors s e)) (requests-kept s e kept ascending)
        ∙ ap (notices s e m []) (floors-kept s e kept)

    by : (o : Option Member) → option_map_or (due_to s e) o [] ≡ []
    by None = refl
    by (Some m) = one m

kept-join : (s : Conference) (user : ℕ) → (change s (Join user)).entries ≡ map entry_of s.ongoing
unfolding change
kept-join s user = refl

-- a member who joins changes no request
pub requests-join : (s : Conference) (user : ℕ) → settle s.config.floors s.ongoing ≡ s.ongoing → is_ascending s.ongoing ≡ true → changed_requests s (Join user) ≡ []
requests-join s user is_settled = requests-kept s (Join user) (still s (Join user) refl (kept-join s user) is_settled)

-- nothing is due to anybody where a member joins
pub due_of-join : (s : Conference) (user : ℕ) → settle s.config.floors s.ongoing ≡ s.ongoing → is_ascending s.ongoing ≡ true → (n : ℕ) → due s (Join user) n ≡ []
due_of-join s user is_settled = due-unsent s (Join user) refl (λ k. refl) (still s (Join user) refl (kept-join s user) is_settled)

kept-took : (s : Conference) (n k : ℕ) → (change s (Took n k)).entries ≡ map entry_of s.ongoing
unfolding change
kept-took s n k = refl

-- who acknowledges changes none
pub requests-took : (s : Conference) (n k : ℕ) → settle s.config.floors s.ongoing ≡ s.ongoing → is_ascending s.ongoing ≡ true → changed_requests s (Took n k) ≡ []
requests-took s n k is_settled = requests-kept s (Took n k) (still s (Took n k) refl (kept-took s n k) is_settled)

-- nor where some of the messages to one are acknowledged
pub due_of-took : (s : Conference) (n k : ℕ) → settle s.config.floors s.ongoing ≡ s.ongoing → is_ascending s.ongoing ≡ true → (i : ℕ) → due s (Took n k) i ≡ []
due_of-took s n k is_settled = due-unsent s (Took n k) refl (λ i. refl) (still s (Took n k) refl (kept-took s n k) is_settled)

members-took : (s : Conference) (n k : ℕ) → (change s (Took n k)).members ≡ map (acknowledging n k) s.members
unfolding change
members-took s n k = refl

given-took : (s : Conference) (n k : ℕ) → (change s (Took n k)).given ≡ s.given
unfolding change
given-took s n k = refl

open-took : (s : Conference) (n k : ℕ) → (change s (Took n k)).is_open ≡ s.is_open
unfolding change
open-took s n k = refl

-- the conference after that has other members, and is otherwise as it was
pub settled-took : (s : Conference) (n k : ℕ) → settle s.config.floors s.ongoing ≡ s.ongoing → record s { members = map (acknowledging n k) s.members } ≡ settled s (Took n k)
settled-took s n k is_settled =
    ap (λ (ms : List Member). record s { members = ms }) (sym (members-took s n k))
    ∙ settled-kept s (Took n k) refl (still s (Took n k) refl (kept-took s n k) is_settled) (given-took s n k) (open-took s n k)
