-- Whomever an event doesn't concern, and whoever is cut, is told nothing and counted as before.
use Rattle.std.proofs.Common.{◌≡◌, ℕ, ◌+◌, Bool, true, false, cond, List, [], ◌∷◌, ◌++◌, map, length, Option, Some, None, refl, sym, ap, ◌∙◌}
use Rattle.std.specs.Prelude.{◌==◌, ◌&&◌, ◌||◌, nat_le, not, filter, find}
use Rattle.std.specs.List.{list_any}
use Rattle.std.specs.Option.{option_map_or}
use Rattle.floor_machine.specs.declared.member.Member.{Member}
use Rattle.floor_machine.specs.declared.replied.Replied.{Replied}
use Rattle.floor_machine.specs.declared.tell.changed.Update.{Update}
use Rattle.floor_machine.specs.declared.tell.notices.FloorNotice.{FloorNotice}
use Rattle.floor_machine.specs.Conference.{is_numbered_from, member_with}
use Rattle.floor_machine.specs.Outgoing.{Outgoing}
use Rattle.floor_machine.specs.Parcel.{Parcel}
use Rattle.floor_machine.specs.Journal.{parcel}
use Rattle.floor_machine.specs.steps.Counting.{counted_at, is_told, members_at, taken_on, told_at}
use Rattle.floor_machine.specs.steps.Telling.{answered, answered_to, floor_notice_to, is_concerned, is_due_to, is_noticed, is_of, is_to, noticed_to, update_to}
use Rattle.floor_machine.proofs.Concerned.{none-due}
use Rattle.floor_machine.proofs.Counting.{members-cut, taken-nothing}
use Rattle.floor_machine.proofs.Live.{if_live, live-found}

pub or-first : (a b : Bool) → (a || b) ≡ false → a ≡ false
or-first true b h = h
or-first false b h = refl

pub or-second : (a b : Bool) → (a || b) ≡ false → b ≡ false
or-second true b h = absurd (let clash : true ≡ false = h in cc)
or-second false b h = h

-- where none passes, none is left
none-passes : {A : Type 0} (p : A → Bool) (xs : List A) → list_any p xs ≡ false → filter p xs ≡ []
none-passes p [] h = refl
none-passes p (x ∷ xs) h =
    ap (λ (b : Bool). cond b (x ∷ filter p xs) (filter p xs)) (or-first (p x) (list_any p xs) h) ∙ none-passes p xs (or-second (p x) (list_any p xs) h)

none-answered : (reply : Option Replied) (n : ℕ) → option_map_or (is_to n) reply false ≡ false → answered_to reply n ≡ []
none-answered None n h = refl
none-answered (Some r) n h = ap (λ (b : Bool). cond b (answered r.head r.tells) []) h

-- nothing is due to a member that isn't concerned
pub none-noticed : (conference : ℕ) (reply : Option Replied) (requests : List Update) (notices : List FloorNotice) (m : Member) →
    is_concerned reply requests notices m ≡ false → noticed_to conference reply requests notices m ≡ []
none-noticed conference reply requests notices m h =
    let others = or-first (option_map_or (is_to m.n) reply false || list_any (is_noticed m) notices) (list_any (is_of m.user) requests) h in
    let last = or-second (option_map_or (is_to m.n) reply false || list_any (is_noticed m) notices) (list_any (is_of m.user) requests) h in
    ap (λ (os : List Outgoing). map (parcel m.n) os ++ map (λ u. parcel m.n (update_to conference m u)) (filter (is_due_to reply m) requests) ++ map (floor_notice_to m) (filter (is_noticed m) notices))
    (none-answered reply m.n (or-first (option_map_or (is_to m.n) reply false) (list_any (is_noticed m) notices) others))
    ∙ ap (λ (us : List Update). map (λ u. parcel m.n (update_to conference m u)) us ++ map (floor_notice_to m) (filter (is_noticed m) notices))
    (none-due reply m requests last)
    ∙ ap (λ (ns : List FloorNotice). map (floor_notice_to m) ns)
    (none-passes (is_noticed m) notices (or-second (option_map_or (is_to m.n) reply false) (list_any (is_noticed m) notices) others))

-- something may be due to the member, which isn't cut
abbrev pub may_be_told : (Member → Bool) → Member → Bool
may_be_told concerned m = not m.is_cut && concerned m

-- so the member is told nothing
pub passed-told : (to : Member → List Parcel) (concerned : Member → Bool) → ((m : Member) → concerned m ≡ false → to m ≡ []) → (n : ℕ) (ms : List Member) → is_numbered_from 1 ms ≡ true →
    option_map_or (may_be_told concerned) (member_with ms n) false ≡ false → told_at to n ms ≡ []
passed-told to concerned none n ms numbered h =
    ap (λ (o : Option Member). cond (option_map_or (is_told (length (option_map_or to o []))) (find (λ m. m.n == n) ms) false) (option_map_or to o []) []) (live-found ms 1 n numbered)
    ∙ by (find (λ m. m.n == n) ms) (sym (ap (λ (o : Option Member). option_map_or (may_be_told concerned) o false) (live-found ms 1 n numbered)) ∙ h)
  where
    nothing : (b : Bool) → ◌≡◌ {A = List Parcel} (cond b [] []) []
    nothing true = refl
    nothing false = refl

    uncut : (m : Member) (c : Bool) → (not c && concerned m) ≡ false → cond (not c && nat_le (m.backlog + length (to m)) 1024) (to m) [] ≡ []
    uncut m true h = refl
    uncut m false h = ap (λ (ps : List Parcel). cond (nat_le (m.backlog + length (to m)) 1024) ps []) (none m h) ∙ nothing (nat_le (m.backlog + length (to m)) 1024)

    at : (m : Member) (l : Bool) → option_map_or (may_be_told concerned) (cond l (Some m) None) false ≡ false →
        cond (is_told (length (option_map_or to (cond l (Some m) None) [])) m) (option_map_or to (cond l (Some m) None) []) [] ≡ []
    at m true h = uncut m m.is_cut h
    at m false h = nothing (is_told 0 m)

    by : (o : Option Member) → option_map_or (may_be_told concerned) (option_map_or if_live o None) false ≡ false →
        cond (option_map_or (is_told (length (option_map_or to (option_map_or if_live o None) []))) o false) (option_map_or to (option_map_or if_live o None) []) [] ≡ []
    by None h = refl
    by (Some m) h = at m m.is_live h

none-counted-at : (n : ℕ) (ms : List Member) → map (counted_at 0 n) ms ≡ ms
none-counted-at n [] = refl
none-counted-at n (m ∷ ms) = ap (λ (x : Member). x ∷ map (counted_at 0 n) ms) (by (m.n == n)) ∙ ap (λ (xs : List Member). m ∷ xs) (none-counted-at n ms)
  where
    by : (b : Bool) → cond b (taken_on 0 m) m ≡ m
    by true = taken-nothing m
    by false = refl

-- and all members stay as they were
pub passed-counted : (to : Member → List Parcel) (concerned : Member → Bool) → ((m : Member) → concerned m ≡ false → to m ≡ []) → (n : ℕ) (ms : List Member) → is_numbered_from 1 ms ≡ true →
    option_map_or (may_be_told concerned) (member_with ms n) false ≡ false → members_at to n ms ≡ ms
passed-counted to concerned none n ms numbered h =
    ap (λ (o : Option Member). map (counted_at (length (option_map_or to o [])) n) ms) (live-found ms 1 n numbered)
    ∙ by (find (λ m. m.n == n) ms) refl (sym (ap (λ (o : Option Member). option_map_or (may_be_told concerned) o false) (live-found ms 1 n numbered)) ∙ h)
  where
    uncut : (m : Member) (c : Bool) → m.is_cut ≡ c → find (λ m. m.n == n) ms ≡ Some m → (not c && concerned m) ≡ false → map (counted_at (length (to m)) n) ms ≡ ms
    uncut m true cut e h = members-cut (length (to m)) n 1 ms numbered (ap (λ (o : Option Member). option_map_or (λ m. m.is_cut) o false) e ∙ cut)
    uncut m false cut e h = ap (λ (ps : List Parcel). map (counted_at (length ps) n) ms) (none m h) ∙ none-counted-at n ms

    at : (m : Member) (l : Bool) → find (λ m. m.n == n) ms ≡ Some m → option_map_or (may_be_told concerned) (cond l (Some m) None) false ≡ false →
        map (counted_at (length (option_map_or to (cond l (Some m) None) [])) n) ms ≡ ms
    at m true e h = uncut m m.is_cut refl e h
    at m false e h = none-counted-at n ms

    by : (o : Option Member) → find (λ m. m.n == n) ms ≡ o → option_map_or (may_be_told concerned) (option_map_or if_live o None) false ≡ false →
        map (counted_at (length (option_map_or to (option_map_or if_live o None) [])) n) ms ≡ ms
    by None e h = none-counted-at n ms
    by (Some m) e h = at m m.is_live e h
