-- In front of what needs it the epoch was read in the same turn.
use Rattle.std.proofs.Common.{◌≡◌, ℕ, Bool, true, false, List, [], ◌∷◌, refl, sym, ◌∙◌, ap, subst, inl, inr}
use Rattle.std.specs.Prelude.{◌⊎◌, ◌≢◌, ◌||◌, if◌then◌else◌, nat_eq, nat_le, Option, Some, None}
use Rattle.std.proofs.lemmas.Bool.{false≢true}
use Rattle.std.proofs.lemmas.Bool.Decides.{eqb_tells}
use Rattle.floor_keep.specs.declared.fault.KeepFault.TheVariants as fault
use Rattle.floor_keeping.specs.Calls.{Call, Calls, Begin, Resume, Put, Close, Answered, Read, Next, Other, DoesEpoch, have_read}
use Rattle.floor_keeping.specs.Deeds.{reads_epoch}
use Rattle.floor_keeping.specs.Epochs.{asked, asked_at, compared, first_of, is_ours, passed_at, read_at, rested_at}
use Rattle.floor_keeping.specs.State.{later}
use Rattle.floor_keeping.specs.Files.{Files, epoch_at, time_at}
use Rattle.floor_keeping.specs.Laws.{NoTurnGoesBeforeItsEpoch}
use Rattle.floor_keeping.specs.declared.epoch.Epoch.{Epoch}
use Rattle.floor_keeping.specs.declared.epoch.Reading.{Reading}
use Rattle.floor_keeping.specs.declared.epoch.Reading.TheVariants as reading

-- A number was read in this turn, and is the one that it has to be.
abbrev HasRead : List Call → Epoch → Type 0
HasRead calls e = (n : ℕ) × (e.ours ≡ Some n) × (have_read n calls ≡ true)

over-not : (b : Bool) (r : Reading) → is_ours r ≡ false → is_ours (if b then reading.Over fault.CannotKeep else r) ≡ true → is_ours r ≡ true
over-not true r h e = absurd (false≢true e)
over-not false r h e = e

pub passed-ours : (t : ℕ) (r : Reading) → is_ours (passed_at t r) ≡ true → is_ours r ≡ true
passed-ours t reading.Unread e = e
passed-ours t (reading.Asked since) e = over-not (nat_le (later since 30000000) t) (reading.Asked since) refl e
passed-ours t reading.Ours e = e
passed-ours t (reading.Waits since again) e = over-not (nat_le (later since 30000000) t) (reading.Waits since again) refl e
passed-ours t (reading.Over cause) e = e

asked-ours : (t : ℕ) (r : Reading) → is_ours (asked_at t r) ≡ true → is_ours r ≡ true
asked-ours t reading.Unread e = e
asked-ours t (reading.Asked since) e = e
asked-ours t reading.Ours e = e
asked-ours t (reading.Waits since again) e = e
asked-ours t (reading.Over cause) e = e

pub rested-not : (r : Reading) → is_ours (rested_at r) ≡ false
rested-not reading.Unread = refl
rested-not (reading.Asked since) = refl
rested-not reading.Ours = refl
rested-not (reading.Waits since again) = refl
rested-not (reading.Over cause) = refl

-- behind a deed
behind-ours : (b : Bool) (t : ℕ) (e : Epoch) → is_ours (if b then asked t e else e).reading ≡ true → is_ours e.reading ≡ true
behind-ours true t e h = asked-ours t e.reading h
behind-ours false t e h = h

behind-same : (b : Bool) (t : ℕ) (e : Epoch) → (if b then asked t e else e).ours ≡ e.ours
behind-same true t e = refl
behind-same false t e = refl

-- of a number that was read
or-right : (a b : Bool) → b ≡ true → (a || b) ≡ true
or-right true b e = refl
or-right false b e = e

read-more : (number : ℕ) (earlier : List Call) (e : Epoch) → HasRead earlier e → HasRead (Read (Some number) ∷ earlier) e
read-more number earlier e h = (h.0, h.1, or-right (nat_eq number h.0) (have_read h.0 earlier) h.2)

eq-self : (n : ℕ) → nat_eq n n ≡ true
eq-self n = by (eqb_tells n n)
  where
    by : (((nat_eq n n ≡ true) × (n ≡ n)) ⊎ ((nat_eq n n ≡ false) × (n ≢ n))) → nat_eq n n ≡ true
    by (inl u) = u.0
    by (inr u) = absurd (u.1 refl)

or-left : (a b : Bool) → a ≡ true → (a || b) ≡ true
or-left true b e = refl
or-left false b e = absurd (false≢true e)

-- the answer that was awaited
compared-read : (ours : Option ℕ) (number : ℕ) (earlier : List Call) → is_ours (compared ours number) ≡ true → HasRead (Read (Some number) ∷ earlier) (record { ours = first_of ours number; reading = compared ours number })
compared-read None number earlier e = (number, refl, or-left (nat_eq number number) (have_read number earlier) (eq-self number))
compared-read (Some n) number earlier e = by (nat_eq number n) refl e
  where
    by : (b : Bool) → nat_eq number n ≡ b → is_ours (if b then reading.Ours else reading.Over fault.Lost) ≡ true → HasRead (Read (Some number) ∷ earlier) (record { ours = Some n; reading = compared (Some n) number })
    by true is h = (n, refl, or-left (nat_eq number n) (have_read n earlier) is)
    by false is h = absurd (false≢true h)

read-some : (t number : ℕ) (r : Reading) (e : Epoch) (earlier : List Call) → e.reading ≡ r → is_ours (read_at t (Some number) r e).reading ≡ true → (is_ours r ≡ true → HasRead earlier e) → HasRead (Read (Some number) ∷ earlier) (read_at t (Some number) r e)
read-some t number reading.Unread e earlier at h before = absurd (false≢true (sym (ap (λ (x : Reading). is_ours x) at) ∙ h))
read-some t number (reading.Asked since) e earlier at h before = compared-read e.ours number earlier h
read-some t number reading.Ours e earlier at h before = read-more number earlier e (before refl)
read-some t number (reading.Waits since again) e earlier at h before = absurd (false≢true (sym (ap (λ (x : Reading). is_ours x) at) ∙ h))
read-some t number (reading.Over cause) e earlier at h before = absurd (false≢true (sym (ap (λ (x : Reading). is_ours x) at) ∙ h))

read-none : (t : ℕ) (r : Reading) (e : Epoch) (earlier : List Call) → e.reading ≡ r → is_ours (read_at t None r e).reading ≡ true → (is_ours r ≡ true → HasRead earlier e) → HasRead (Read None ∷ earlier) (read_at t None r e)
read-none t reading.Unread e earlier at h before = absurd (false≢true (sym (ap (λ (x : Reading). is_ours x) at) ∙ h))
read-none t (reading.Asked since) e earlier at h before = absurd (false≢true h)
read-none t reading.Ours e earlier at h before = before refl
read-none t (reading.Waits since again) e earlier at h before = absurd (false≢true (sym (ap (λ (x : Reading). is_ours x) at) ∙ h))
read-none t (reading.Over cause) e earlier at h before = absurd (false≢true (sym (ap (λ (x : Reading). is_ours x) at) ∙ h))

-- by each call
does : (call : Call) (earlier : List Call) (old new : Files) → DoesEpoch call old new → (is_ours old.epoch.reading ≡ true → HasRead earlier old.epoch) → is_ours new.epoch.reading ≡ true → HasRead (call ∷ earlier) new.epoch
does (Begin c head) earlier old new d before h = (let x = before (ap (λ (e : Epoch). is_ours e.reading) (sym d) ∙ h) in (x.0, ap (λ (e : Epoch). e.ours) d ∙ x.1, x.2))
does (Resume standing) earlier old new d before h = (let x = before (ap (λ (e : Epoch). is_ours e.reading) (sym d) ∙ h) in (x.0, ap (λ (e : Epoch). e.ours) d ∙ x.1, x.2))
does (Put c turn) earlier old new d before h = (let x = before (ap (λ (e : Epoch). is_ours e.reading) (sym d) ∙ h) in (x.0, ap (λ (e : Epoch). e.ours) d ∙ x.1, x.2))
does (Close c journal) earlier old new d before h = (let x = before (ap (λ (e : Epoch). is_ours e.reading) (sym d) ∙ h) in (x.0, ap (λ (e : Epoch). e.ours) d ∙ x.1, x.2))
does (Answered c ch) earlier old new d before h = (let x = before (ap (λ (e : Epoch). is_ours e.reading) (sym d) ∙ h) in (x.0, ap (λ (e : Epoch). e.ours) d ∙ x.1, x.2))
does (Read (Some number)) earlier old new d before h =
    subst (λ (e : Epoch). HasRead (Read (Some number) ∷ earlier) e) (sym d)
    (read-some old.table.time number old.epoch.reading old.epoch earlier refl (ap (λ (e : Epoch). is_ours e.reading) (sym d) ∙ h) before)
does (Read None) earlier old new d before h =
    subst (λ (e : Epoch). HasRead (Read None ∷ earlier) e) (sym d)
    (read-none old.table.time old.epoch.reading old.epoch earlier refl (ap (λ (e : Epoch). is_ours e.reading) (sym d) ∙ h) before)
does (Next now (Some x)) earlier old new d before h =
    let t = time_at now old in
    let e = epoch_at now old in
    let was = before (passed-ours t old.epoch.reading (behind-ours (reads_epoch x) t e (ap (λ (z : Epoch). is_ours z.reading) (sym d) ∙ h))) in
    (was.0, ap (λ (z : Epoch). z.ours) d ∙ behind-same (reads_epoch x) t e ∙ was.1, was.2)
does (Next now None) earlier old new d before h =
    absurd (false≢true (sym (rested-not (epoch_at now old).reading) ∙ ap (λ (z : Epoch). is_ours z.reading) (sym d) ∙ h))
does Other earlier old new d before h = (let x = before (d.1 h) in (x.0, d.0 ∙ x.1, x.2))

all-calls : (calls : List Call) (first last : Files) → Calls calls first last → is_ours first.epoch.reading ≡ false → is_ours last.epoch.reading ≡ true → HasRead calls last.epoch
all-calls [] first last run not_yet h = absurd (false≢true (sym not_yet ∙ ap (λ (f : Files). is_ours f.epoch.reading) (sym run) ∙ h))
all-calls (call ∷ earlier) first last run not_yet h = does call earlier run.0 last run.2.2 (all-calls earlier first run.0 run.1 not_yet) h

pub law : NoTurnGoesBeforeItsEpoch
law calls first last now run not_yet h = all-calls calls first last run not_yet (passed-ours (time_at now last) last.epoch.reading h)
