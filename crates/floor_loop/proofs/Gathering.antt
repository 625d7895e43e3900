-- Who of a conference's live connections is away.
use Rattle.std.proofs.Common.{◌≡◌, ◌⊎◌, inl, inr, ℕ, zero, suc, ◌+◌, ◌<◌, ◌≤◌, Bool, true, false, cond, List, [], ◌∷◌, ◌++◌, length, take, refl, sym, ◌∙◌, ap, subst, arith, Some, None}
use Rattle.std.specs.Prelude.{Option, Result, Ok, Err, IfOk, IfSome, filter, map, nat_le, slice_index_or}
use Rattle.std.proofs.lemmas.Bool.{cases_lt}
use Rattle.std.proofs.lemmas.Bool.Decides.{nat_tests}
use Rattle.std.proofs.lemmas.List.{get_or_default, map-append}
use Rattle.std.proofs.lemmas.List.Elements.{filter_more}
use Rattle.floor_loop.specs.declared.line.Entry.{Entry}
use Rattle.std.specs.List.{Contains}
use Rattle.std.proofs.lemmas.Option.{none-some}
use Rattle.floor_hub.specs.declared.attached.Live.{Live}
use Rattle.floor_hub.specs.declared.connection.Connection.{Connection}
use Rattle.floor_hub.specs.Connections.{connection_at}
use Rattle.floor_hub.specs.Hub.{Hub, room_at}
use Rattle.floor_hub.specs.Members.{AreMembers, Stands}
use Rattle.floor_loop.specs.declared.stay.Stay.{Stay}
use Rattle.floor_loop.specs.Away.{Away, IsOldest, away_among, is_stay_of, stay_of}
use Rattle.floor_loop.specs.Loop.{Attended}
use Rattle.floor_loop.specs.steps.Moved.{IsLoop, loop_of}
use Rattle.floor_loop.specs.steps.Soonest.{longer, oldest_to}

pub if-ok : {T E : Type 0} {P Q : T → Type 0} (r : Result T E) → ((v : T) → P v → Q v) → IfOk r P → IfOk r Q
if-ok (Ok v) f p = f v p
if-ok (Err e) f p = tt

pub if-both : {T E : Type 0} {P Q R : T → Type 0} (r : Result T E) → ((v : T) → P v → Q v → R v) → IfOk r P → IfOk r Q → IfOk r R
if-both (Ok v) f p q = f v p q
if-both (Err e) f p q = tt

-- no live connection is of a conference without a room
pub no-members : (hub : Hub) (a : Attended) (conference : ℕ) → IsLoop (loop_of hub a) → room_at hub conference ≡ None → AreMembers hub conference []
no-members hub a conference l none = record {
  numbers = tt;
  ns = tt;
  found = λ number x is at. let t = l.serving number x is in absurd (none-some t.room (sym none ∙ ap (room_at hub) (sym at) ∙ t.there));
  there = λ number n s. absurd s;
  cut = λ r is. absurd (none-some r (sym none ∙ is));
}

contains-cons : (x : ℕ) (xs : List ℕ) (k : ℕ) → Contains (x ∷ xs) k → (x ≡ k) ⊎ Contains xs k
contains-cons x xs k h = by h.0 h.1 h.2
  where
    by : (i : ℕ) → i < length (x ∷ xs) → slice_index_or (x ∷ xs) i k ≡ k → (x ≡ k) ⊎ Contains xs k
    by zero less e = inl e
    by (suc i) less e = inr (i, omega (arith, less), e)

-- whoever is named stands among them
pub named-stands : (test : Live → Bool) (live : List Live) (k : ℕ) → Contains (map (λ l. l.number) (filter test live)) k → (n : ℕ) × Stands live k n
named-stands test [] k h = absurd (omega (arith, h.1))
named-stands test (l ∷ live) k h = by (test l) h (λ g. named-stands test live k g)
  where
    behind : ((n : ℕ) × Stands live k n) → (n : ℕ) × Stands (l ∷ live) k n
    behind s = (s.0, inr s.1)

    first : (l.number ≡ k) ⊎ Contains (map (λ l. l.number) (filter test live)) k → (Contains (map (λ l. l.number) (filter test live)) k → (n : ℕ) × Stands live k n) → (n : ℕ) × Stands (l ∷ live) k n
    first (inl e) rec = (l.n, inl (e, refl))
    first (inr g) rec = behind (rec g)

    by : (b : Bool) → Contains (map (λ l. l.number) (cond b (l ∷ filter test live) (filter test live))) k → (Contains (map (λ l. l.number) (filter test live)) k → (n : ℕ) × Stands live k n) → (n : ℕ) × Stands (l ∷ live) k n
    by true g rec = first (contains-cons l.number (map (λ l. l.number) (filter test live)) k g) rec
    by false g rec = behind (rec g)

-- where none of them passes the test nobody is named
pub none-named : (test : Live → Bool) (live : List Live) → ((k n : ℕ) → Stands live k n → (l : Live) → l.number ≡ k → test l ≡ false) → map (λ l. l.number) (filter test live) ≡ []
none-named test [] none = refl
none-named test (l ∷ live) none =
    ap (λ (b : Bool). map (λ l. l.number) (cond b (l ∷ filter test live) (filter test live))) (none l.number l.n (inl (refl, refl)) l refl)
    ∙ none-named test live (λ k n s. none k n (inr s))

-- where none of this user's is away nobody is named
pub nobody-away : (hub : Hub) (a : Away) (conference user : ℕ) (live : List Live) → AreMembers hub conference live →
    ((k : ℕ) (x : Connection) → connection_at hub.connections k ≡ Some x → x.conference ≡ conference → is_stay_of user (stay_of a k) ≡ false) → away_among a user live ≡ []
nobody-away hub a conference user live members nobody =
    none-named (λ l. is_stay_of user (stay_of a l.number)) live (λ k n s l at.
    let x = members.there k n s in
    ap (λ (i : ℕ). is_stay_of user (stay_of a i)) at ∙ nobody k x.0 x.1 x.2)

-- one connection more is looked at
pub among-more : (p : Live → Bool) (xs : List Live) (i : ℕ) (d : Live) (old new : List ℕ) (b : Bool) → i < length xs → old ≡ map (λ l. l.number) (filter p (take i xs)) → b ≡ p (slice_index_or xs i d) →
    new ≡ old ++ cond b ((slice_index_or xs i d).number ∷ []) [] → new ≡ map (λ l. l.number) (filter p (take (i + 1) xs))
among-more p xs i d old new b less was is next =
    let x = slice_index_or xs i d in
    next
    ∙ ap (λ (ys : List ℕ). ys ++ cond b (x.number ∷ []) []) was
    ∙ ap (λ (t : Bool). map (λ l. l.number) (filter p (take i xs)) ++ cond t (x.number ∷ []) []) is
    ∙ ap (λ (ys : List ℕ). map (λ l. l.number) (filter p (take i xs)) ++ ys) (one x (p x))
    ∙ sym (map-append (λ (l : Live). l.number) (filter p (take i xs)) (cond (p x) (x ∷ []) []))
    ∙ ap (map (λ l. l.number)) (sym (filter_more p xs i d less))
  where
    one : (x : Live) (t : Bool) → cond t (x.number ∷ []) [] ≡ map (λ l. l.number) (cond t (x ∷ []) [])
    one x true = refl
    one x false = refl

le_of : (a b : ℕ) → nat_le a b ≡ true → a ≤ b
le_of a b e = grind (arith, nat_tests)

not_le : (a b : ℕ) → nat_le a b ≡ false → b ≤ a
not_le a b e = grind (arith, nat_tests)

-- whoever is away for longer isn't away for less than one that is looked at
longer-new : (oldest : Option Entry) (number : ℕ) (s : Stay) → (f : Entry) × (longer oldest number (Some s) ≡ Some f) × (f.time ≤ s.since)
longer-new None number s = (record { number = number; time = s.since }, refl, omega arith)
longer-new (Some e) number s = by (nat_le e.time s.since) refl
  where
    by : (b : Bool) → nat_le e.time s.since ≡ b → (f : Entry) × (longer (Some e) number (Some s) ≡ Some f) × (f.time ≤ s.since)
    by true h = (e, ap (λ (b : Bool). Some (cond b e record { number = number; time = s.since })) h, le_of e.time s.since h)
    by false h = (record { number = number; time = s.since }, ap (λ (b : Bool). Some (cond b e record { number = number; time = s.since })) h, omega arith)

-- nor for less than the one before
longer-old : (oldest : Option Entry) (e : Entry) (number : ℕ) (z : Option Stay) → oldest ≡ Some e → (f : Entry) × (longer oldest number z ≡ Some f) × (f.time ≤ e.time)
longer-old oldest e number None is = (e, is, omega arith)
longer-old oldest e number (Some s) is = by (nat_le e.time s.since) refl
  where
    same : longer oldest number (Some s) ≡ longer (Some e) number (Some s)
    same = ap (λ (x : Option Entry). longer x number (Some s)) is

    by : (b : Bool) → nat_le e.time s.since ≡ b → (f : Entry) × (longer oldest number (Some s) ≡ Some f) × (f.time ≤ e.time)
    by true h = (e, same ∙ ap (λ (b : Bool). Some (cond b e record { number = number; time = s.since })) h, omega arith)
    by false h = (record { number = number; time = s.since }, same ∙ ap (λ (b : Bool). Some (cond b e record { number = number; time = s.since })) h, not_le e.time s.since h)

-- no other of those before the place is away for longer
pub oldest-least : (stays : ℕ → Option Stay) (xs : List ℕ) (j i : ℕ) (s : Stay) → i < j → stays (slice_index_or xs i 0) ≡ Some s → (f : Entry) × (oldest_to stays xs j ≡ Some f) × (f.time ≤ s.since)
oldest-least stays xs zero i s less is = absurd (omega (arith, less))
oldest-least stays xs (suc j) i s less is = by (cases_lt i j) (λ h. oldest-least stays xs j i s h is)
  where
    by : (i < j) ⊎ (j ≤ i) → (i < j → (f : Entry) × (oldest_to stays xs j ≡ Some f) × (f.time ≤ s.since)) → (f : Entry) × (oldest_to stays xs (suc j) ≡ Some f) × (f.time ≤ s.since)
    by (inl h) rec =
        let r = rec h in
        let d = longer-old (oldest_to stays xs j) r.0 (slice_index_or xs j 0) (stays (slice_index_or xs j 0)) r.1 in
        let most = r.2 in
        let more = d.2 in
        (d.0, d.1, omega (arith, most, more))
    by (inr h) rec =
        let same : i ≡ j = omega (arith, h, less) in
        let here : stays (slice_index_or xs j 0) ≡ Some s = ap (λ (k : ℕ). stays (slice_index_or xs k 0)) (sym same) ∙ is in
        let d = longer-new (oldest_to stays xs j) (slice_index_or xs j 0) s in
        (d.0, ap (longer (oldest_to stays xs j) (slice_index_or xs j 0)) here ∙ d.1, d.2)

-- it is one of them, and away since then
abbrev pub IsAwaySince : (ℕ → Option Stay) → List ℕ → Entry → Type 0
IsAwaySince stays xs e = Contains xs e.number × ((s : Stay) × (stays e.number ≡ Some s) × (s.since ≡ e.time))

longer-one : (P : Entry → Type 0) (oldest : Option Entry) (number : ℕ) (z : Option Stay) → IfSome oldest P → ((s : Stay) → z ≡ Some s → P record { number = number; time = s.since }) → IfSome (longer oldest number z) P
longer-one P oldest number None p q = p
longer-one P None number (Some s) p q = q s refl
longer-one P (Some e) number (Some s) p q = by (nat_le e.time s.since)
  where
    by : (b : Bool) → P (cond b e record { number = number; time = s.since })
    by true = p
    by false = q s refl

pub oldest-among : (stays : ℕ → Option Stay) (xs : List ℕ) (j : ℕ) → j ≤ length xs → IfSome (oldest_to stays xs j) (IsAwaySince stays xs)
oldest-among stays xs zero within = tt
oldest-among stays xs (suc j) within =
    let less : j < length xs = omega (arith, within) in
    let number = slice_index_or xs j 0 in
    longer-one (IsAwaySince stays xs) (oldest_to stays xs j) number (stays number)
    (oldest-among stays xs j (omega (arith, within)))
    (λ s is. ((j, less, sym (get_or_default xs j 0 number less)), (s, is, refl)))

some-entry : (d e : Entry) → ◌≡◌ {A = Option Entry} (Some d) (Some e) → d ≡ e
some-entry d e h = cc

-- who is found among all is away since longest
pub oldest-is : (stays : ℕ → Option Stay) (xs : List ℕ) (j : ℕ) (r : Option Entry) → length xs ≤ j → j ≤ length xs → r ≡ oldest_to stays xs j → IfSome r (λ e. IsOldest stays xs e.number)
oldest-is stays xs j None most least is = tt
oldest-is stays xs j (Some e) most least is =
    let at : IsAwaySince stays xs e = subst (λ (z : Option Entry). IfSome z (IsAwaySince stays xs)) (sym is) (oldest-among stays xs j least) in
    let since = at.1.2 in
    record {
      among = at.0;
      stay = at.1.0;
      there = at.1.1;
      first = λ k s h there.
          let i = h.0 in
          let within = h.1 in
          let f = oldest-least stays xs j i s (omega (arith, within, most)) (ap stays (get_or_default xs i 0 k within ∙ h.2) ∙ there) in
          let same : f.0 ≡ e = some-entry f.0 e (sym f.1 ∙ sym is) in
          let time : f.0.time ≡ e.time = ap (λ (x : Entry). x.time) same in
          let less = f.2 in
          omega (arith, less, time, since);
    }
