-- Who stands in the line, as files change, turns go by and time passes.
use Rattle.std.proofs.Common.{◌≡◌, ◌≢◌, ◌≤◌, ◌<◌, ℕ, ◌+◌, Bool, true, false, List, [], ◌∷◌, ◌++◌, length, suc, drop, Option, Some, None, refl, sym, ◌∙◌, ap, arith, get_or, subst, inl, inr, nat_eq}
use Rattle.std.specs.Prelude.{◌⊎◌, IfNone, option_and_then, cond, slice_get, ◌&&◌, ◌||◌, not, if◌then◌else◌, is_some, nat_le, nat_lt}
use Rattle.std.specs.Map.{lookup}
use Rattle.std.specs.Option.{option_map}
use Rattle.std.proofs.lemmas.Bool.{false≢true, leb-false, leb-true}
use Rattle.std.proofs.lemmas.Bool.Decides.{eqb_tells}
use Rattle.std.proofs.Math.Numerals.{add-one}
use Rattle.std.proofs.Math.Seq.{drop-cons}
use Rattle.std.proofs.lemmas.List.{drop_all}
use Rattle.std.proofs.lemmas.Option.{get_or_from_slice_get, none-some, slice_get_within}
use Rattle.floor_keeping.specs.Kept.{KeptFile, ask, asked_of, changed, has_text}
use Rattle.floor_keeping.specs.State as state
use Rattle.floor_keeping.specs.State.{asks_the_disk, has_come, is_append, is_closing, is_done, is_kept, is_something, later, next_behind, to_ask}
use Rattle.floor_keeping.specs.Table.{AsksOf, IsBy, IsSoonest, NothingAsked, SameFiles, SameOthers, left_by, sync_until}
use Rattle.floor_keeping.specs.steps.Listed.{AllStand, AllWoken, AscendFrom, IsListed, IsWoken, Line, Stands, Within}
use Rattle.floor_keeping.specs.declared.deed.Deed.{Deed}
use Rattle.floor_keeping.specs.declared.line.Waking.{Waking}
use Rattle.floor_keep.specs.declared.keeping.Syncing.{Syncing}
use Rattle.floor_keep.specs.declared.keeping.Syncing.TheVariants as syncing
use Rattle.floor_keep.specs.declared.kept.KeptFault.TheVariants as fault
use Rattle.floor_keeping.specs.declared.kept.Change.{Change}
use Rattle.floor_keeping.specs.declared.kept.Change.TheVariants as change
use Rattle.floor_keeping.specs.declared.policy.Outcome.{Outcome}
use Rattle.floor_keeping.specs.declared.policy.Policy.{Policy}
use Rattle.floor_keeping.specs.declared.state.Asked.{Asked}
use Rattle.floor_keeping.specs.declared.state.Asked.TheVariants as asked
use Rattle.floor_keeping.specs.declared.state.State.{State}
use Rattle.floor_keeping.proofs.Calm.{Calm, calm_begun, calm_cut, calm_emptied, calm_failed, calm_given_up, calm_renamed, calm_spoiled, calm_unsynced}

pub some-same : (f g : KeptFile) → Some f ≡ Some g → f ≡ g
some-same f g e = ap (λ (o : Option KeptFile). or o) e
  where
    or : Option KeptFile → KeptFile
    or None = f
    or (Some x) = x

pub time-same : (a b : ℕ) → Some a ≡ Some b → a ≡ b
time-same a b e = ap (λ (o : Option ℕ). or o) e
  where
    or : Option ℕ → ℕ
    or None = a
    or (Some x) = x

-- the line ---------------------------------------------------------------------------------------

pub stands-more : (xs ys : List ℕ) (k : ℕ) → Stands xs k → Stands (xs ++ ys) k
stands-more [] ys k s = absurd s
stands-more (x ∷ xs) ys k (inl e) = inl e
stands-more (x ∷ xs) ys k (inr s) = inr (stands-more xs ys k s)

pub stands-last : (xs : List ℕ) (k : ℕ) → Stands (xs ++ k ∷ []) k
stands-last [] k = inl refl
stands-last (x ∷ xs) k = inr (stands-last xs k)

pub woken-more : (xs ys : List Waking) (k t : ℕ) → IsWoken xs k t → IsWoken (xs ++ ys) k t
woken-more [] ys k t s = absurd s
woken-more (x ∷ xs) ys k t (inl e) = inl e
woken-more (x ∷ xs) ys k t (inr s) = inr (woken-more xs ys k t s)

pub woken-last : (xs : List Waking) (k t : ℕ) → IsWoken (xs ++ (record { conference = k; at = t }) ∷ []) k t
woken-last [] k t = inl (refl, refl)
woken-last (x ∷ xs) k t = inr (woken-last xs k t)

pub ascend-last : (first k t : ℕ) (xs : List Waking) → AscendFrom first xs → Within t xs → first ≤ t → AscendFrom first (xs ++ (record { conference = k; at = t }) ∷ [])
ascend-last first k t [] a w h = (h, tt)
ascend-last first k t (x ∷ xs) a w h = (a.0, ascend-last x.at k t xs a.1 w.1 w.0)

pub within-last : (k t : ℕ) (xs : List Waking) → Within t xs → Within t (xs ++ (record { conference = k; at = t }) ∷ [])
within-last k t [] w = (omega arith, tt)
within-last k t (x ∷ xs) w = (w.0, within-last k t xs w.1)

-- where a conference was put there, or the line is short
pub put-here : (c : ℕ) (old new : Line) → ((new ≡ record old { conferences = old.conferences ++ c ∷ [] }) ⊎ (new ≡ record old { is_short = true })) → new.is_short ≡ false → Stands new.conferences c
put-here c old new (inl e) h = subst (λ (l : Line). Stands l.conferences c) (sym e) (stands-last old.conferences c)
put-here c old new (inr e) h = absurd (false≢true (sym h ∙ ap (λ (l : Line). l.is_short) e))

pub put-others : (c k : ℕ) (old new : Line) → ((new ≡ record old { conferences = old.conferences ++ c ∷ [] }) ⊎ (new ≡ record old { is_short = true })) → Stands old.conferences k → Stands new.conferences k
put-others c k old new (inl e) s = subst (λ (l : Line). Stands l.conferences k) (sym e) (stands-more old.conferences (c ∷ []) k s)
put-others c k old new (inr e) s = subst (λ (l : Line). Stands l.conferences k) (sym e) s

-- or is put there later
pub wake-here : (c t : ℕ) (old new : Line) → ((new ≡ record old { wakings = old.wakings ++ (record { conference = c; at = t }) ∷ [] }) ⊎ (new ≡ record old { is_short = true })) → new.is_short ≡ false
    → IsWoken new.wakings c t
wake-here c t old new (inl e) h = subst (λ (l : Line). IsWoken l.wakings c t) (sym e) (woken-last old.wakings c t)
wake-here c t old new (inr e) h = absurd (false≢true (sym h ∙ ap (λ (l : Line). l.is_short) e))

pub wake-others : (c t k u : ℕ) (old new : Line) → ((new ≡ record old { wakings = old.wakings ++ (record { conference = c; at = t }) ∷ [] }) ⊎ (new ≡ record old { is_short = true }))
    → IsWoken old.wakings k u → IsWoken new.wakings k u
wake-others c t k u old new (inl e) s = subst (λ (l : Line). IsWoken l.wakings k u) (sym e) (woken-more old.wakings ((record { conference = c; at = t }) ∷ []) k u s)
wake-others c t k u old new (inr e) s = subst (λ (l : Line). IsWoken l.wakings k u) (sym e) s

pub wake-ascends : (c t first last : ℕ) (old new : Line) → ((new ≡ record old { wakings = old.wakings ++ (record { conference = c; at = t }) ∷ [] }) ⊎ (new ≡ record old { is_short = true }))
    → AscendFrom first old.wakings → Within last old.wakings → first ≤ t → t ≡ last → AscendFrom first new.wakings × Within last new.wakings
wake-ascends c t first last old new (inl e) a w h same =
    let within : Within t old.wakings = subst (λ (n : ℕ). Within n old.wakings) (sym same) w in
    let both : AscendFrom first (old.wakings ++ (record { conference = c; at = t }) ∷ []) × Within last (old.wakings ++ (record { conference = c; at = t }) ∷ []) =
    (ascend-last first c t old.wakings a within h, subst (λ (n : ℕ). Within n (old.wakings ++ (record { conference = c; at = t }) ∷ [])) same (within-last c t old.wakings within)) in
    subst (λ (l : Line). AscendFrom first l.wakings × Within last l.wakings) (sym e) both
wake-ascends c t first last old new (inr e) a w h same = subst (λ (l : Line). AscendFrom first l.wakings × Within last l.wakings) (sym e) (a, w)

pub within-later : (a b : ℕ) (xs : List Waking) → a ≤ b → Within a xs → Within b xs
within-later a b [] h w = tt
within-later a b (x ∷ xs) h w = (let l = w.0 in omega (arith, h, l), within-later a b xs h w.1)

pub ascend-less : (a b : ℕ) (xs : List Waking) → a ≤ b → AscendFrom b xs → AscendFrom a xs
ascend-less a b [] h s = tt
ascend-less a b (x ∷ xs) h s = (let l = s.0 in omega (arith, h, l), s.1)

-- a time that is waited for is none of those that went by
pub woken-later : (now k t : ℕ) (xs : List Waking) → AscendFrom (now + 1) xs → IsWoken xs k t → now < t
woken-later now k t [] s w = absurd w
woken-later now k t (x ∷ xs) s (inl e) = let l = s.0 in let same = e.1 in omega (arith, l, same)
woken-later now k t (x ∷ xs) s (inr w) = woken-later now k t xs (ascend-less (now + 1) x.at xs s.0 s.1) w

pub later-le : (a b micros : ℕ) → a ≤ b → later a micros ≤ later b micros
later-le a b micros h = omega (arith, h)

-- nobody stands in an empty line
pub empty-line : (xs : List ℕ) (short result : Bool) → result ≡ (nat_eq (length xs) 0 && not short) → result ≡ true → (xs ≡ []) × (short ≡ false)
empty-line [] true result e h = absurd (false≢true (sym e ∙ h))
empty-line [] false result e h = (refl, refl)
empty-line (x ∷ xs) short result e h = absurd (false≢true (sym (e ∙ ap (λ (b : Bool). b && not short) (longer (length xs))) ∙ h))
  where
    longer : (n : ℕ) → nat_eq (suc n) 0 ≡ false
    longer n = by (eqb_tells (suc n) 0)
      where
        by : (((nat_eq (suc n) 0 ≡ true) × (suc n ≡ 0)) ⊎ ((nat_eq (suc n) 0 ≡ false) × (suc n ≢ 0))) → nat_eq (suc n) 0 ≡ false
        by (inl u) = absurd (let e = u.1 in omega (arith, e))
        by (inr u) = u.0

-- time -------------------------------------------------------------------------------------------

abbrev asked-by : Policy → Bool → State → Bool → Asked
asked-by p has s come =
    if nat_lt s.reported s.kept then asked.Report
    else if is_kept s.course && not (is_some s.synced) && (come || (is_closing s.course && asks_the_disk p.syncing && is_some s.sync_at)) then asked.Sync
    else next_behind s.asked (to_ask has s s.course)

-- as time passes nothing else comes to be asked of a file than for what the disk is to be asked meanwhile
pub asked-later : (p : Policy) (was now : ℕ) (f : KeptFile) → was ≤ now → (asked_of p now f ≡ asked_of p was f) ⊎ ((t : ℕ) × (f.state.sync_at ≡ Some t) × (was < t) × (t ≤ now))
asked-later p was now f h = by f.state.sync_at refl
  where
    s : State
    s = f.state

    alike : has_come s.sync_at now ≡ has_come s.sync_at was → asked_of p now f ≡ asked_of p was f
    alike e = ap (λ (b : Bool). asked-by p (has_text f.next) s b) e

    by : (o : Option ℕ) → s.sync_at ≡ o → (asked_of p now f ≡ asked_of p was f) ⊎ ((t : ℕ) × (s.sync_at ≡ Some t) × (was < t) × (t ≤ now))
    by None e = inl (alike (ap (λ (o : Option ℕ). has_come o now) e ∙ sym (ap (λ (o : Option ℕ). has_come o was) e)))
    by (Some t) e = on (nat_le t was) (nat_le t now) refl refl
      where
        same : nat_le t now ≡ nat_le t was → asked_of p now f ≡ asked_of p was f
        same g = alike (ap (λ (o : Option ℕ). has_come o now) e ∙ g ∙ sym (ap (λ (o : Option ℕ). has_come o was) e))

        on : (a b : Bool) → nat_le t was ≡ a → nat_le t now ≡ b → (asked_of p now f ≡ asked_of p was f) ⊎ ((u : ℕ) × (s.sync_at ≡ Some u) × (was < u) × (u ≤ now))
        on true true x y = inl (same (y ∙ sym x))
        on false false x y = inl (same (y ∙ sym x))
        on true false x y = let l = leb-true t was x in let m = leb-false t now y in absurd (omega (arith, l, m, h))
        on false true x y = inr (t, e, leb-false t was x, leb-true t now y)

-- files ------------------------------------------------------------------------------------------

pub stand-same : (p : Policy) (now : ℕ) (old new : ℕ → Option KeptFile) (line : List ℕ) → SameFiles old new → AllStand p now old line → AllStand p now new line
stand-same p now old new line same h c f at asks = h c f (sym (same c) ∙ at) asks

pub woken-same : (now : ℕ) (old new : ℕ → Option KeptFile) (wakings : List Waking) → SameFiles old new → AllWoken now old wakings → AllWoken now new wakings
woken-same now old new wakings same h c t f at is late = h c t f (sym (same c) ∙ at) is late

pub nothing-same : (p : Policy) (now : ℕ) (old new : ℕ → Option KeptFile) → SameFiles old new → NothingAsked p now new → NothingAsked p now old
nothing-same p now old new same h c f at = h c f (same c ∙ at)

-- where nobody stands in the line, nothing is to be asked
pub nothing-stands : (p : Policy) (now : ℕ) (files : ℕ → Option KeptFile) (line : List ℕ) → line ≡ [] → AllStand p now files line → NothingAsked p now files
nothing-stands p now files line e h c f at = by (is_something (asked_of p now f)) refl
  where
    by : (b : Bool) → is_something (asked_of p now f) ≡ b → is_something (asked_of p now f) ≡ false
    by false g = g
    by true g = absurd (subst (λ (l : List ℕ). Stands l c) e (h c f at g))

-- of whose file nothing is to be asked stands there no more
pub stand-passed : (p : Policy) (now c : ℕ) (files : ℕ → Option KeptFile) (line rest : List ℕ) → line ≡ c ∷ rest → ((f : KeptFile) → files c ≡ Some f → is_something (asked_of p now f) ≡ false)
    → AllStand p now files line → AllStand p now files rest
stand-passed p now c files line rest e none h k f at asks = by (subst (λ (l : List ℕ). Stands l k) e (h k f at asks))
  where
    by : (c ≡ k) ⊎ Stands rest k → Stands rest k
    by (inl same) = absurd (false≢true (sym (none f (ap files same ∙ at)) ∙ asks))
    by (inr s) = s

-- of whose file anything was asked stands there, where anything is to be asked again
pub stand-asked : (p : Policy) (now c : ℕ) (old new : ℕ → Option KeptFile) (line rest after : List ℕ) → line ≡ c ∷ rest → SameOthers c old new
    → ((f : KeptFile) → new c ≡ Some f → is_something (asked_of p now f) ≡ true → Stands after c) → ((k : ℕ) → Stands rest k → Stands after k) → AllStand p now old line → AllStand p now new after
stand-asked p now c old new line rest after e others here more h k f at asks = by (eqb_tells c k)
  where
    past : c ≢ k → (c ≡ k) ⊎ Stands rest k → Stands after k
    past ne (inl same) = absurd (ne same)
    past ne (inr s) = more k s

    by : (((nat_eq c k ≡ true) × (c ≡ k)) ⊎ ((nat_eq c k ≡ false) × (c ≢ k))) → Stands after k
    by (inl u) = subst (λ (i : ℕ). Stands after i) u.1 (here f (ap new u.1 ∙ at) asks)
    by (inr u) = past u.1 (subst (λ (l : List ℕ). Stands l k) e (h k f (sym (others k u.0) ∙ at) asks))

-- one file is another, and its conference stands in the line where anything is to be asked of it
pub stand-put : (p : Policy) (now c : ℕ) (old new : ℕ → Option KeptFile) (line after : List ℕ) → SameOthers c old new
    → ((f : KeptFile) → new c ≡ Some f → is_something (asked_of p now f) ≡ true → Stands after c) → ((k : ℕ) → Stands line k → Stands after k) → AllStand p now old line → AllStand p now new after
stand-put p now c old new line after others here more h k f at asks = by (eqb_tells c k)
  where
    by : (((nat_eq c k ≡ true) × (c ≡ k)) ⊎ ((nat_eq c k ≡ false) × (c ≢ k))) → Stands after k
    by (inl u) = subst (λ (i : ℕ). Stands after i) u.1 (here f (ap new u.1 ∙ at) asks)
    by (inr u) = more k (h k f (sym (others k u.0) ∙ at) asks)

-- one file is another, for which the disk is to be asked at the same time, or then is put in the line
pub woken-put : (now c : ℕ) (old new : ℕ → Option KeptFile) (line after : List Waking) → SameOthers c old new
    → ((t : ℕ) (f : KeptFile) → new c ≡ Some f → f.state.sync_at ≡ Some t → now < t → IsWoken after c t) → ((k t : ℕ) → IsWoken line k t → IsWoken after k t) → AllWoken now old line → AllWoken now new after
woken-put now c old new line after others here more h k t f at is late = by (eqb_tells c k)
  where
    by : (((nat_eq c k ≡ true) × (c ≡ k)) ⊎ ((nat_eq c k ≡ false) × (c ≢ k))) → IsWoken after k t
    by (inl u) = subst (λ (i : ℕ). IsWoken after i t) u.1 (here t f (ap new u.1 ∙ at) is late)
    by (inr u) = more k t (h k t f (sym (others k u.0) ∙ at) is late)

left-sync : (a : Asked) (f g : KeptFile) (t : ℕ) → left_by a f ≡ Some g → g.state.sync_at ≡ Some t → f.state.sync_at ≡ Some t
left-sync a f g t e is = on a e
  where
    through : (a : Asked) → ask a f ≡ g → (ask a f).state.sync_at ≡ Some t
    through a h = ap (λ (x : KeptFile). x.state.sync_at) h ∙ is

    on : (a : Asked) → left_by a f ≡ Some g → f.state.sync_at ≡ Some t
    on asked.Nothing h = ap (λ (x : KeptFile). x.state.sync_at) (some-same f g h) ∙ is
    on asked.Begin h = through asked.Begin (some-same (ask asked.Begin f) g h)
    on asked.Cut h = through asked.Cut (some-same (ask asked.Cut f) g h)
    on asked.Append h = through asked.Append (some-same (ask asked.Append f) g h)
    on asked.Sync h = absurd (none-some t (through asked.Sync (some-same (ask asked.Sync f) g h)))
    on asked.Rename h = through asked.Rename (some-same (ask asked.Rename f) g h)
    on asked.Spoil h = through asked.Spoil (some-same (ask asked.Spoil f) g h)
    on asked.Empty h = through asked.Empty (some-same (ask asked.Empty f) g h)
    on asked.Report h = through asked.Report (some-same (ask asked.Report f) g h)
    on asked.End h = absurd (none-some g h)

-- behind the asking the same times are waited for
pub woken-asked : (p : Policy) (now until c : ℕ) (d : Deed) (old new : ℕ → Option KeptFile) (wakings : List Waking) → AsksOf p until old new c d → AllWoken now old wakings → AllWoken now new wakings
woken-asked p now until c d old new wakings a h =
    woken-put now c old new wakings wakings a.others
    (λ t f at is late. h c t a.file a.there (left-sync (asked_of p until a.file) a.file f t (sym a.here ∙ at) is) late)
    (λ k t w. w) h

-- the whole line ---------------------------------------------------------------------------------

-- a turn went by in which nothing was to be asked
pub listed-passed : (p : Policy) (time now c : ℕ) (old new : ℕ → Option KeptFile) (line after : Line) → SameFiles old new → line.conferences ≡ c ∷ after.conferences → after.wakings ≡ line.wakings
    → after.is_short ≡ line.is_short → ((f : KeptFile) → old c ≡ Some f → is_something (asked_of p now f) ≡ false) → IsListed p time now old line → IsListed p time now new after
listed-passed p time now c old new line after same first wakings short none h = record {
  stand = λ e. stand-same p now old new after.conferences same (stand-passed p now c old line.conferences after.conferences first none (h.stand (sym short ∙ e)));
  woken = λ e. woken-same now old new after.wakings same (subst (λ (ws : List Waking). AllWoken now old ws) (sym wakings) (h.woken (sym short ∙ e)));
  ascending = subst (λ (ws : List Waking). AscendFrom (now + 1) ws) (sym wakings) h.ascending;
  within = subst (λ (ws : List Waking). Within (later time 1000000) ws) (sym wakings) h.within;
}

-- and one in which something was
pub listed-asked : (p : Policy) (time now c : ℕ) (d : Deed) (old new : ℕ → Option KeptFile) (line rest after : Line) → AsksOf p now old new c d → line.conferences ≡ c ∷ rest.conferences
    → rest.wakings ≡ line.wakings → rest.is_short ≡ line.is_short
    → (after.is_short ≡ false → (f : KeptFile) → new c ≡ Some f → is_something (asked_of p now f) ≡ true → Stands after.conferences c) → ((k : ℕ) → Stands rest.conferences k → Stands after.conferences k)
    → (after.is_short ≡ false → rest.is_short ≡ false) → after.wakings ≡ rest.wakings → IsListed p time now old line → IsListed p time now new after
listed-asked p time now c d old new line rest after a first left short here more whole wakings h = record {
  stand = λ e. stand-asked p now c old new line.conferences rest.conferences after.conferences first a.others (here e) more (h.stand (sym short ∙ whole e));
  woken = λ e. subst (λ (ws : List Waking). AllWoken now new ws) (sym (wakings ∙ left)) (woken-asked p now now c d old new line.wakings a (h.woken (sym short ∙ whole e)));
  ascending = subst (λ (ws : List Waking). AscendFrom (now + 1) ws) (sym (wakings ∙ left)) h.ascending;
  within = subst (λ (ws : List Waking). Within (later time 1000000) ws) (sym (wakings ∙ left)) h.within;
}

-- where the line has none, and whoever is missing was looked for
pub listed-looked : (p : Policy) (time now : ℕ) (old new : ℕ → Option KeptFile) (line after : Line) → after.wakings ≡ line.wakings → (after.is_short ≡ false → AllStand p now new after.conferences)
    → (after.is_short ≡ false → AllWoken now new after.wakings) → IsListed p time now old line → IsListed p time now new after
listed-looked p time now old new line after wakings stand woken h = record {
  stand = stand;
  woken = woken;
  ascending = subst (λ (ws : List Waking). AscendFrom (now + 1) ws) (sym wakings) h.ascending;
  within = subst (λ (ws : List Waking). Within (later time 1000000) ws) (sym wakings) h.within;
}

-- the same line
pub listed-line : (p : Policy) (time now : ℕ) (files : ℕ → Option KeptFile) (line after : Line) → line.conferences ≡ after.conferences → after.wakings ≡ line.wakings → after.is_short ≡ line.is_short
    → IsListed p time now files line → IsListed p time now files after
listed-line p time now files line after first wakings short h = record {
  stand = λ e. subst (λ (l : List ℕ). AllStand p now files l) first (h.stand (sym short ∙ e));
  woken = λ e. subst (λ (ws : List Waking). AllWoken now files ws) (sym wakings) (h.woken (sym short ∙ e));
  ascending = subst (λ (ws : List Waking). AscendFrom (now + 1) ws) (sym wakings) h.ascending;
  within = subst (λ (ws : List Waking). Within (later time 1000000) ws) (sym wakings) h.within;
}

pub listed-same : (p : Policy) (time now : ℕ) (old new : ℕ → Option KeptFile) (line : Line) → SameFiles old new → IsListed p time now old line → IsListed p time now new line
listed-same p time now old new line same h = record {
  stand = λ e. stand-same p now old new line.conferences same (h.stand e);
  woken = λ e. woken-same now old new line.wakings same (h.woken e);
  ascending = h.ascending;
  within = h.within;
}

-- one file is another
pub listed-put : (p : Policy) (time now c : ℕ) (old new : ℕ → Option KeptFile) (line after : Line) → SameOthers c old new
    → (after.is_short ≡ false → (f : KeptFile) → new c ≡ Some f → is_something (asked_of p now f) ≡ true → Stands after.conferences c) → ((k : ℕ) → Stands line.conferences k → Stands after.conferences k)
    → (after.is_short ≡ false → line.is_short ≡ false) → (after.is_short ≡ false → (t : ℕ) (f : KeptFile) → new c ≡ Some f → f.state.sync_at ≡ Some t → now < t → IsWoken after.wakings c t)
    → ((k t : ℕ) → IsWoken line.wakings k t → IsWoken after.wakings k t) → AscendFrom (now + 1) after.wakings × Within (later time 1000000) after.wakings → IsListed p time now old line
    → IsListed p time now new after
listed-put p time now c old new line after others here more whole woken again times h = record {
  stand = λ e. stand-put p now c old new line.conferences after.conferences others (here e) more (h.stand (whole e));
  woken = λ e. woken-put now c old new line.wakings after.wakings others (woken e) again (h.woken (whole e));
  ascending = times.0;
  within = times.1;
}

-- waking -----------------------------------------------------------------------------------------

-- Some are put in the line by now: those whose time has come stand there, or are still to be put there.
pub record IsWaking (p : Policy) (time was now : ℕ) (files : ℕ → Option KeptFile) (line : Line) : Type 0 where
  pub stand : line.is_short ≡ false → AllStand p was files line.conferences
  pub ahead : line.is_short ≡ false → AllWoken now files line.wakings
  pub come : line.is_short ≡ false → (c t : ℕ) (f : KeptFile) → files c ≡ Some f → f.state.sync_at ≡ Some t → was < t → t ≤ now
      → IsWoken line.wakings c t ⊎ (is_something (asked_of p now f) ≡ true → Stands line.conferences c)
  pub ascending : AscendFrom (was + 1) line.wakings
  pub within : Within (later time 1000000) line.wakings

pub waking-begins : (p : Policy) (before time was now : ℕ) (files : ℕ → Option KeptFile) (line : Line) → was ≤ now → before ≤ time → IsListed p before was files line → IsWaking p time was now files line
waking-begins p before time was now files line past on h = record {
  stand = h.stand;
  ahead = λ e c t f at is late. h.woken e c t f at is (omega (arith, past, late));
  come = λ e c t f at is after by. inl (h.woken e c t f at is after);
  ascending = h.ascending;
  within = within-later (later before 1000000) (later time 1000000) line.wakings (later-le before time 1000000 on) h.within;
}

pub waking-goes : (p : Policy) (time was now c : ℕ) (w : Waking) (files : ℕ → Option KeptFile) (line rest after : Line) → line.wakings ≡ w ∷ rest.wakings → w.conference ≡ c → w.at ≤ now
    → rest.conferences ≡ line.conferences → rest.is_short ≡ line.is_short
    → (after.is_short ≡ false → (f : KeptFile) → files c ≡ Some f → is_something (asked_of p now f) ≡ true → Stands after.conferences c) → ((k : ℕ) → Stands rest.conferences k → Stands after.conferences k)
    → (after.is_short ≡ false → rest.is_short ≡ false) → after.wakings ≡ rest.wakings → IsWaking p time was now files line → IsWaking p time was now files after
waking-goes p time was now c w files line rest after first of_it come left short here more whole wakings h = record {
  stand = λ e k f at asks. more k (subst (λ (l : List ℕ). Stands l k) (sym left) (h.stand (sym short ∙ whole e) k f at asks));
  ahead = λ e k t f at is late. subst (λ (ws : List Waking). IsWoken ws k t) (sym wakings) (still k t late (subst (λ (ws : List Waking). IsWoken ws k t) first (h.ahead (sym short ∙ whole e) k t f at is late)));
  come = λ e k t f at is after_was by. on e k t f at (h.come (sym short ∙ whole e) k t f at is after_was by);
  ascending = subst (λ (ws : List Waking). AscendFrom (was + 1) ws) (sym wakings) (ascend-less (was + 1) w.at rest.wakings both.0 both.1);
  within = subst (λ (ws : List Waking). Within (later time 1000000) ws) (sym wakings) (subst (λ (ws : List Waking). Within (later time 1000000) ws) first h.within).1;
}
  where
    both : AscendFrom (was + 1) (w ∷ rest.wakings)
    both = subst (λ (ws : List Waking). AscendFrom (was + 1) ws) first h.ascending

    still : (k t : ℕ) → now < t → ((w.conference ≡ k) × (w.at ≡ t)) ⊎ IsWoken rest.wakings k t → IsWoken rest.wakings k t
    still k t late (inl e) = let same = e.1 in absurd (omega (arith, late, same, come))
    still k t late (inr s) = s

    on : after.is_short ≡ false → (k t : ℕ) (f : KeptFile) → files k ≡ Some f → IsWoken line.wakings k t ⊎ (is_something (asked_of p now f) ≡ true → Stands line.conferences k)
        → IsWoken after.wakings k t ⊎ (is_something (asked_of p now f) ≡ true → Stands after.conferences k)
    on e k t f at (inr s) = inr (λ asks. more k (subst (λ (l : List ℕ). Stands l k) (sym left) (s asks)))
    on e k t f at (inl s) = which (subst (λ (ws : List Waking). IsWoken ws k t) first s)
      where
        which : ((w.conference ≡ k) × (w.at ≡ t)) ⊎ IsWoken rest.wakings k t → IsWoken after.wakings k t ⊎ (is_something (asked_of p now f) ≡ true → Stands after.conferences k)
        which (inl u) = let same = sym of_it ∙ u.0 in inr (λ asks. subst (λ (i : ℕ). Stands after.conferences i) same (here e f (ap files same ∙ at) asks))
        which (inr u) = inl (subst (λ (ws : List Waking). IsWoken ws k t) (sym wakings) u)

pub waking-ends : (p : Policy) (time was now : ℕ) (files : ℕ → Option KeptFile) (line after : Line) → was ≤ now → after ≡ line → ((w : Waking) (ws : List Waking) → line.wakings ≡ w ∷ ws → now < w.at)
    → IsWaking p time was now files line → IsListed p time now files after
waking-ends p time was now files line after past same first h = subst (λ (l : Line). IsListed p time now files l) (sym same) (record {
  stand = λ e c f at asks. on e c f at asks (asked-later p was now f past);
  woken = h.ahead;
  ascending = ascends;
  within = h.within;
})
  where
    ascend : (ws : List Waking) → ((w : Waking) (vs : List Waking) → ws ≡ w ∷ vs → now < w.at) → AscendFrom (was + 1) ws → AscendFrom (now + 1) ws
    ascend [] a s = tt
    ascend (w ∷ ws) a s = (let l = a w ws refl in omega (arith, l), s.1)

    ascends : AscendFrom (now + 1) line.wakings
    ascends = ascend line.wakings first h.ascending

    on : line.is_short ≡ false → (c : ℕ) (f : KeptFile) → files c ≡ Some f → is_something (asked_of p now f) ≡ true
        → (asked_of p now f ≡ asked_of p was f) ⊎ ((t : ℕ) × (f.state.sync_at ≡ Some t) × (was < t) × (t ≤ now)) → Stands line.conferences c
    on e c f at asks (inl alike) = h.stand e c f at (sym (ap is_something alike) ∙ asks)
    on e c f at asks (inr u) = which (h.come e c u.0 f at u.1 u.2 u.3)
      where
        which : IsWoken line.wakings c u.0 ⊎ (is_something (asked_of p now f) ≡ true → Stands line.conferences c) → Stands line.conferences c
        which (inl s) = let late = woken-later now c u.0 line.wakings ascends s in let by = u.3 in absurd (omega (arith, late, by))
        which (inr s) = s asks

-- looking at each file ---------------------------------------------------------------------------

pub drop-at : {A : Type 0} (xs : List A) (i : ℕ) (x : A) → slice_get xs i ≡ Some x → drop i xs ≡ x ∷ drop (i + 1) xs
drop-at xs i x e =
    let here : get_or xs i x ≡ x = get_or_from_slice_get xs i x x e in
    drop-cons xs i x (slice_get_within xs i x e) ∙ ap (λ y. y ∷ drop (suc i) xs) here ∙ ap (λ (n : ℕ). x ∷ drop n xs) (sym (add-one i))

-- of the files from this place on that of a conference is one, unless it is the first
pub look-past : (c k i : ℕ) (f g : KeptFile) (files : List (ℕ × KeptFile)) → slice_get files i ≡ Some (k, g) → lookup (nat_eq c) (drop i files) ≡ Some f → (g ≡ f) ⊎ (lookup (nat_eq c) (drop (i + 1) files) ≡ Some f)
look-past c k i f g files at e = by (nat_eq c k) refl (sym (ap (λ (l : List (ℕ × KeptFile)). lookup (nat_eq c) l) (drop-at files i (k, g) at)) ∙ e)
  where
    by : (b : Bool) → nat_eq c k ≡ b → lookup (nat_eq c) ((k, g) ∷ drop (i + 1) files) ≡ Some f → (g ≡ f) ⊎ (lookup (nat_eq c) (drop (i + 1) files) ≡ Some f)
    by true h r = inl (some-same g f (sym (ap (λ (b : Bool). cond b (Some g) (lookup (nat_eq c) (drop (i + 1) files))) h) ∙ r))
    by false h r = inr (sym (ap (λ (b : Bool). cond b (Some g) (lookup (nat_eq c) (drop (i + 1) files))) h) ∙ r)

-- and behind the last there is none
pub look-end : (c i : ℕ) (f : KeptFile) (files : List (ℕ × KeptFile)) → length files ≤ i → lookup (nat_eq c) (drop i files) ≡ Some f → ⊥
look-end c i f files h e = none-some f (sym (ap (λ (l : List (ℕ × KeptFile)). lookup (nat_eq c) l) (drop_all i files h)) ∙ e)

-- one more was taken into account
pub soonest-goes : (now k i : ℕ) (g : KeptFile) (files : List (ℕ × KeptFile)) (soonest result : Option ℕ) → slice_get files i ≡ Some (k, g) → ((t : ℕ) → IsBy t soonest → IsBy t result)
    → ((t : ℕ) → g.state.sync_at ≡ Some t → now < t → IsBy t result)
    → ((c t : ℕ) (f : KeptFile) → lookup (nat_eq c) files ≡ Some f → f.state.sync_at ≡ Some t → now < t → IsBy t soonest ⊎ (lookup (nat_eq c) (drop i files) ≡ Some f))
    → (c t : ℕ) (f : KeptFile) → lookup (nat_eq c) files ≡ Some f → f.state.sync_at ≡ Some t → now < t → IsBy t result ⊎ (lookup (nat_eq c) (drop (i + 1) files) ≡ Some f)
soonest-goes now k i g files soonest result at one other before c t f there is late = by (before c t f there is late)
  where
    behind : (g ≡ f) ⊎ (lookup (nat_eq c) (drop (i + 1) files) ≡ Some f) → IsBy t result ⊎ (lookup (nat_eq c) (drop (i + 1) files) ≡ Some f)
    behind (inl same) = inl (other t (ap (λ (x : KeptFile). x.state.sync_at) same ∙ is) late)
    behind (inr e) = inr e

    by : IsBy t soonest ⊎ (lookup (nat_eq c) (drop i files) ≡ Some f) → IsBy t result ⊎ (lookup (nat_eq c) (drop (i + 1) files) ≡ Some f)
    by (inl b) = inl (one t b)
    by (inr e) = behind (look-past c k i f g files at e)

-- when the time is wanted ------------------------------------------------------------------------

woken-from : (first k t : ℕ) (xs : List Waking) → AscendFrom first xs → IsWoken xs k t → first ≤ t
woken-from first k t [] s w = absurd w
woken-from first k t (x ∷ xs) s (inl e) = let l = s.0 in let same = e.1 in omega (arith, l, same)
woken-from first k t (x ∷ xs) s (inr w) = woken-from first k t xs (ascend-less first x.at xs s.0 s.1) w

pub soonest-first : (p : Policy) (time now : ℕ) (files : ℕ → Option KeptFile) (line : Line) (w : Waking) (rest : List Waking) → line.is_short ≡ false → line.wakings ≡ w ∷ rest → IsListed p time now files line
    → IsSoonest now files (Some w.at)
soonest-first p time now files line w rest whole first h = record {
  first = λ c t f at is late. by c t (subst (λ (ws : List Waking). IsWoken ws c t) first (h.woken whole c t f at is late));
  later = λ t e. let l = times.0 in let same = time-same w.at t e in omega (arith, l, same);
}
  where
    times : AscendFrom (now + 1) (w ∷ rest)
    times = subst (λ (ws : List Waking). AscendFrom (now + 1) ws) first h.ascending

    by : (c t : ℕ) → ((w.conference ≡ c) × (w.at ≡ t)) ⊎ IsWoken rest c t → w.at ≤ t
    by c t (inl e) = let same = e.1 in omega (arith, same)
    by c t (inr s) = woken-from w.at c t rest times.1 s

pub soonest-none : (p : Policy) (time now : ℕ) (files : ℕ → Option KeptFile) (line : Line) → line.is_short ≡ false → line.wakings ≡ [] → IsListed p time now files line → IsSoonest now files None
soonest-none p time now files line whole none h = record {
  first = λ c t f at is late. subst (λ (ws : List Waking). IsWoken ws c t) none (h.woken whole c t f at is late);
  later = λ t e. absurd (none-some t e);
}

-- answers ----------------------------------------------------------------------------------------

-- by an answer the disk comes to be asked for a file at no time but a second later
pub sync-changed : (p : Policy) (now t : ℕ) (ch : Change) (f : KeptFile) → 0 < t → (changed p now ch f).state.sync_at ≡ Some t → (f.state.sync_at ≡ Some t) ⊎ ((f.state.sync_at ≡ None) × (t ≡ later now 1000000))
sync-changed p now t ch f late e = on ch e
  where
    s : State
    s = f.state

    calm : (u : State) → Calm s u → u.sync_at ≡ Some t → (s.sync_at ≡ Some t) ⊎ ((s.sync_at ≡ None) × (t ≡ later now 1000000))
    calm u c h = inl (sym c.sync_at ∙ h)

    put : (x : Syncing) (o : Option ℕ) → s.sync_at ≡ o → state.sync_time x o now ≡ Some t → (s.sync_at ≡ Some t) ⊎ ((s.sync_at ≡ None) × (t ≡ later now 1000000))
    put syncing.Second None g h = inr (g, sym (time-same (later now 1000000) t h))
    put syncing.Second (Some u) g h = inl (g ∙ h)
    put syncing.Turn o g h = let z = time-same 0 t h in absurd (omega (arith, late, z))
    put syncing.Never o g h = absurd (none-some t h)

    appended : (a d : Bool) (o : Outcome) → is_append s.asked ≡ a → is_done o ≡ d
        → (if not a then s else if d then state.written p now s else state.failed p fault.CannotWrite s).sync_at ≡ Some t → (s.sync_at ≡ Some t) ⊎ ((s.sync_at ≡ None) × (t ≡ later now 1000000))
    appended false d o a b h = inl h
    appended true true o a b h = put p.syncing s.sync_at refl h
    appended true false o a b h = calm (state.failed p fault.CannotWrite s) (calm_failed p fault.CannotWrite s) h

    synced : (m : Option ℕ) (d : Bool) → (state.synced_as p d m s).sync_at ≡ Some t → (s.sync_at ≡ Some t) ⊎ ((s.sync_at ≡ None) × (t ≡ later now 1000000))
    synced None d h = inl h
    synced (Some m) true h = inl h
    synced (Some m) false h = calm (state.unsynced p (record s { synced = None })) (calm_unsynced p s) h

    on : (ch : Change) → (changed p now ch f).state.sync_at ≡ Some t → (s.sync_at ≡ Some t) ⊎ ((s.sync_at ≡ None) × (t ≡ later now 1000000))
    on (change.Begun o) h = calm (state.begun o s) (calm_begun o s) h
    on (change.Cut o) h = calm (state.cut p o s) (calm_cut p o s) h
    on (change.Appended o) h = appended (is_append s.asked) (is_done o) o refl refl h
    on (change.Synced o) h = synced s.synced (is_done o) h
    on (change.Renamed o) h = calm (state.renamed p o s) (calm_renamed p o s) h
    on (change.Spoiled o) h = calm (state.spoiled o s) (calm_spoiled o s) h
    on (change.Emptied o) h = calm (state.emptied o s) (calm_emptied o s) h
    on (change.GivenUp cause) h = calm (state.given_up p cause s) (calm_given_up p cause s) h

-- the same of a conference's file, where it has one
pub sync-answered : (p : Policy) (now t : ℕ) (ch : Change) (old new : Option KeptFile) → 0 < t → new ≡ option_map (changed p now ch) old → option_and_then (λ (f : KeptFile). f.state.sync_at) new ≡ Some t
    → ((f : KeptFile) × (old ≡ Some f) × (f.state.sync_at ≡ Some t)) ⊎ ((option_and_then (λ (f : KeptFile). f.state.sync_at) old ≡ None) × (t ≡ later now 1000000))
sync-answered p now t ch None new late e is = absurd (none-some t (sym (ap (λ (o : Option KeptFile). option_and_then (λ (f : KeptFile). f.state.sync_at) o) e) ∙ is))
sync-answered p now t ch (Some f) new late e is = by (sync-changed p now t ch f late (sym (ap (λ (o : Option KeptFile). option_and_then (λ (f : KeptFile). f.state.sync_at) o) e) ∙ is))
  where
    by : (f.state.sync_at ≡ Some t) ⊎ ((f.state.sync_at ≡ None) × (t ≡ later now 1000000))
        → ((g : KeptFile) × (Some f ≡ Some g) × (g.state.sync_at ≡ Some t)) ⊎ ((f.state.sync_at ≡ None) × (t ≡ later now 1000000))
    by (inl h) = inl (f, refl, h)
    by (inr h) = inr h

-- a conference's file was answered, its conference is put in the line where anything is to be asked of it, and later where the disk is
pub listed-changed : (p : Policy) (time now c : ℕ) (ch : Change) (old new : ℕ → Option KeptFile) (line stood after : Line) (before then_at : Option ℕ) → new c ≡ option_map (changed p time ch) (old c) → SameOthers c old new
    → before ≡ option_and_then (λ (f : KeptFile). f.state.sync_at) (old c) → then_at ≡ option_and_then (λ (f : KeptFile). f.state.sync_at) (new c)
    → (stood.is_short ≡ false → (f : KeptFile) → new c ≡ Some f → is_something (asked_of p now f) ≡ true → Stands stood.conferences c) → ((k : ℕ) → Stands line.conferences k → Stands stood.conferences k)
    → (stood.is_short ≡ false → line.is_short ≡ false) → stood.wakings ≡ line.wakings
    → ((t : ℕ) → after.is_short ≡ false → before ≡ None → then_at ≡ Some t → now < t → IsWoken after.wakings c t) → ((k t : ℕ) → IsWoken stood.wakings k t → IsWoken after.wakings k t)
    → ((first last : ℕ) → AscendFrom first stood.wakings → Within last stood.wakings → ((t : ℕ) → before ≡ None → then_at ≡ Some t → now < t → (first ≤ t) × (t ≡ last)) → AscendFrom first after.wakings × Within last after.wakings)
    → (after.is_short ≡ false → stood.is_short ≡ false) → after.conferences ≡ stood.conferences → IsListed p time now old line → IsListed p time now new after
listed-changed p time now c ch old new line stood after before then_at here others was is stands more whole wakings wakes again times missed same h =
    listed-put p time now c old new line after others (λ e f at asks. subst (λ (l : List ℕ). Stands l c) (sym same) (stands (missed e) f at asks)) (λ k s. subst (λ (l : List ℕ). Stands l k) (sym same) (more k s))
    (λ e. whole (missed e)) (λ e t f at sync late. woken e t f at sync late (sync-answered p time t ch (old c) (new c) (after-none now t late) here (ap (λ (o : Option KeptFile). option_and_then (λ (f : KeptFile). f.state.sync_at) o) at ∙ sync)))
    (λ k t w. again k t (subst (λ (ws : List Waking). IsWoken ws k t) (sym wakings) w))
    (times (now + 1) (later time 1000000) (subst (λ (ws : List Waking). AscendFrom (now + 1) ws) (sym wakings) h.ascending) (subst (λ (ws : List Waking). Within (later time 1000000) ws) (sym wakings) h.within)
    (λ t none sync late. second t none late (sync-answered p time t ch (old c) (new c) (after-none now t late) here (sym is ∙ sync))))
    h
  where
    after-none : (a b : ℕ) → a < b → 0 < b
    after-none a b l = omega (arith, l)

    woken : after.is_short ≡ false → (t : ℕ) (f : KeptFile) → new c ≡ Some f → f.state.sync_at ≡ Some t → now < t
        → ((g : KeptFile) × (old c ≡ Some g) × (g.state.sync_at ≡ Some t)) ⊎ ((option_and_then (λ (g : KeptFile). g.state.sync_at) (old c) ≡ None) × (t ≡ later time 1000000)) → IsWoken after.wakings c t
    woken e t f at sync late (inl u) = again c t (subst (λ (ws : List Waking). IsWoken ws c t) (sym wakings) (h.woken (whole (missed e)) c t u.0 u.1 u.2 late))
    woken e t f at sync late (inr u) = wakes t e (was ∙ u.0) (is ∙ ap (λ (o : Option KeptFile). option_and_then (λ (g : KeptFile). g.state.sync_at) o) at ∙ sync) late

    second : (t : ℕ) → before ≡ None → now < t
        → ((g : KeptFile) × (old c ≡ Some g) × (g.state.sync_at ≡ Some t)) ⊎ ((option_and_then (λ (g : KeptFile). g.state.sync_at) (old c) ≡ None) × (t ≡ later time 1000000))
        → (now + 1 ≤ t) × (t ≡ later time 1000000)
    second t none late (inl u) = absurd (none-some t (sym none ∙ was ∙ ap (λ (o : Option KeptFile). option_and_then (λ (g : KeptFile). g.state.sync_at) o) u.1 ∙ u.2))
    second t none late (inr u) = (omega (arith, late), u.1)

-- where the time is another ----------------------------------------------------------------------

pub until-grows : (b : Bool) (was now : ℕ) → was ≤ now → sync_until b was ≤ sync_until b now
until-grows true was now h = omega arith
until-grows false was now h = h

pub until-last : (b : Bool) (now : ℕ) → now ≤ 18446744073709551615 → sync_until b now ≤ 18446744073709551615
until-last true now h = omega arith
until-last false now h = h

pub if-none : {A : Type 0} {P Q : Type 0} (r : Option A) → (P → Q) → IfNone r P → IfNone r Q
if-none None f h = f h
if-none (Some x) f h = tt
