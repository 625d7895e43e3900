-- Where nothing is to be asked of a file, and nothing is awaited, all that was put to it is kept.
use Rattle.std.proofs.Common.{◌≡◌, ◌≤◌, ◌<◌, ℕ, ◌+◌, Bool, true, false, List, [], ◌∷◌, ◌++◌, length, zero, suc, drop, Option, Some, None, refl, sym, ◌∙◌, ap, subst, arith, inl, inr}
use Rattle.std.specs.Prelude.{◌⊎◌, ◌&&◌, ◌||◌, not, if◌then◌else◌, is_some, nat_le, nat_lt, decimal}
use Rattle.std.proofs.lemmas.Bool.{false≢true, leb-false}
use Rattle.std.proofs.lemmas.List.{append-nil}
use Rattle.std.proofs.lemmas.Option.{none-some}
use Rattle.floor_machine.specs.declared.event.Event.{Event}
use Rattle.floor_machine.specs.declared.event.Event.TheVariants as event
use Rattle.floor_room.specs.Text.{line, lines}
use Rattle.floor_keep.specs.declared.ending.Left.TheVariants as left
use Rattle.floor_keep.specs.declared.keeping.Syncing.{Syncing}
use Rattle.floor_keep.specs.declared.keeping.Syncing.TheVariants as syncing
use Rattle.floor_keep.specs.declared.kept.KeptFault.TheVariants as fault
use Rattle.floor_kept.specs.Laws.{Turn, turns_lines}
use Rattle.floor_kept.specs.Writing.{note_lines, turn_lines}
use Rattle.floor_keeping.specs.Calls.{steps_of}
use Rattle.floor_keeping.specs.Epochs as epoch
use Rattle.floor_keeping.specs.Files.{IsDone, epoch_at, file_at, passed, time_at, until_at}
use Rattle.floor_keeping.specs.Kept.{KeptFile, asked_of, has_text}
use Rattle.floor_keeping.specs.Laws.{AllIsKept, IsAtRest, IsFront, IsWaiting, WhatWasPutIsKept, events_behind}
use Rattle.floor_keeping.specs.Runs.{Past, Step, Put, Close, Next as Nexts, Answered, asking, begun, last_turn, putting, step, steps, synced_at}
use Rattle.floor_keeping.specs.State as state
use Rattle.floor_keeping.specs.State.{asks_in_turn, asks_the_disk, behind_front, has_come, is_append, is_closing, is_done, is_kept, is_open, is_something, next_behind, to_ask, wants_sync, with_events, written}
use Rattle.floor_keeping.specs.declared.epoch.Reading.{Reading}
use Rattle.floor_keeping.specs.declared.epoch.Reading.TheVariants as reading
use Rattle.floor_keeping.specs.declared.kept.Change.{Change}
use Rattle.floor_keeping.specs.declared.kept.Change.TheVariants as change
use Rattle.floor_keeping.specs.declared.policy.Outcome.{Outcome}
use Rattle.floor_keeping.specs.declared.policy.Policy.{Policy}
use Rattle.floor_keeping.specs.declared.state.Asked.{Asked}
use Rattle.floor_keeping.specs.declared.state.Asked.TheVariants as asked
use Rattle.floor_keeping.specs.declared.state.Course.{Course}
use Rattle.floor_keeping.specs.declared.state.Course.TheVariants as course
use Rattle.floor_keeping.specs.declared.state.End.TheVariants as end
use Rattle.floor_keeping.specs.declared.state.Front.{Front}
use Rattle.floor_keeping.specs.declared.state.Front.TheVariants as front
use Rattle.floor_keeping.specs.declared.state.State.{State}
use Rattle.floor_keeping.proofs.Calm.{Calm, calm_begun, calm_cut, calm_emptied, calm_failed, calm_given_up, calm_renamed, calm_spoiled, or-left, same}
use Rattle.floor_keeping.proofs.Fronts as fronts
use Rattle.floor_keeping.proofs.Owned as owned
use Rattle.floor_keeping.proofs.Turns.{lines_both}

-- the disk ---------------------------------------------------------------------------------------

-- Of a file that is kept, for which the disk is to be asked no more: it has all that stands there, or is being asked for it.
record IsOnDisk (p : Policy) (past : Past) : Type 0 where
  pub has : asks_the_disk p.syncing ≡ true → is_kept past.file.state.course ≡ true → past.file.state.sync_at ≡ None → past.file.state.synced ≡ None
      → (past.synced ≡ past.texts) × (asks_in_turn p.syncing ≡ true → past.file.state.kept ≡ past.file.state.written)
  pub asked : asks_the_disk p.syncing ≡ true → is_kept past.file.state.course ≡ true → past.file.state.sync_at ≡ None → (m : ℕ) → past.file.state.synced ≡ Some m
      → (past.asked ≡ past.texts) × (m ≡ past.file.state.written)
  pub at_once : asks_in_turn p.syncing ≡ true → (t : ℕ) → past.file.state.sync_at ≡ Some t → t ≡ 0

some-same : (a b : ℕ) → Some a ≡ Some b → a ≡ b
some-same a b e = ap (λ (o : Option ℕ). or o) e
  where
    or : Option ℕ → ℕ
    or None = a
    or (Some x) = x

-- what isn't changed but what was put
disk_same : (p : Policy) (past next : Past) → next.texts ≡ past.texts → next.asked ≡ past.asked → next.synced ≡ past.synced → Calm past.file.state (record next.file.state { sent = past.file.state.sent; events = past.file.state.events }) → IsOnDisk p past → IsOnDisk p next
disk_same p past next texts asked synced c i = record {
  has = λ d k e o. let g = c.goes_on k in let h = i.has d g.0 (sym c.sync_at ∙ e) (sym g.1 ∙ o) in (synced ∙ h.0 ∙ sym texts, λ t. c.kept ∙ h.1 t ∙ sym c.written);
  asked = λ d k e m o. let g = c.goes_on k in let h = i.asked d g.0 (sym c.sync_at ∙ e) m (sym g.1 ∙ o) in (asked ∙ h.0 ∙ sym texts, h.1 ∙ sym c.written);
  at_once = λ t u e. i.at_once t u (sym c.sync_at ∙ e);
}

-- a file to which a turn was put
put_calm : (s : State) (n : ℕ) (c : Course) → is_open s.course ≡ true → Calm s (record s { course = c })
put_calm s n c e = record {
  written = refl;
  sent = refl;
  events = refl;
  kept = refl;
  sync_at = refl;
  synced = λ m h. h;
  alive = λ k. (or-left (is_kept s.course) (is_append s.asked) (or-left (is_open s.course) (is_closing s.course) e), refl);
  goes_on = λ k. (or-left (is_open s.course) (is_closing s.course) e, refl);
}

disk_putting : (p : Policy) (t : Turn) (c : Course) (past : Past) → IsOnDisk p past → IsOnDisk p (putting t (fronts.put_to t c past.file) past)
disk_putting p t c past i = by (is_open past.file.state.course) refl
  where
    by : (b : Bool) → is_open past.file.state.course ≡ b → IsOnDisk p (if b then record past { file = fronts.put_to t c past.file; turns = past.turns ++ t ∷ [] } else past)
    by false e = i
    by true e =
        disk_same p past (record past { file = fronts.put_to t c past.file; turns = past.turns ++ t ∷ [] }) refl refl refl
        (put_calm past.file.state (length t.journal) c e) i

-- what is asked
wait_calm : (s : State) (a : Asked) (sent reported : ℕ) → is_append s.asked ≡ is_append a → Calm s (record s { asked = a; reported = reported })
wait_calm s a sent reported e = record {
  written = refl;
  sent = refl;
  events = refl;
  kept = refl;
  sync_at = refl;
  synced = λ m h. h;
  alive = λ k. (ap (λ (b : Bool). is_kept s.course || b) e ∙ k, sym e);
  goes_on = λ k. (k, refl);
}

disk_asking : (p : Policy) (a : Asked) (past : Past) → IsOnDisk p past → IsOnDisk p (asking a past)
disk_asking p asked.Nothing past i = i
disk_asking p asked.Begin past i = record { has = i.has; asked = i.asked; at_once = i.at_once }
disk_asking p asked.Cut past i = record { has = i.has; asked = i.asked; at_once = i.at_once }
disk_asking p asked.Append past i = record { has = i.has; asked = i.asked; at_once = i.at_once }
disk_asking p asked.Sync past i = record {
  has = λ d k e o. absurd (none-some past.file.state.written (sym o));
  asked = λ d k e m o. (refl, some-same m past.file.state.written (sym o));
  at_once = λ t u e. absurd (none-some u e);
}
disk_asking p asked.Rename past i = record { has = i.has; asked = i.asked; at_once = i.at_once }
disk_asking p asked.Spoil past i = record { has = i.has; asked = i.asked; at_once = i.at_once }
disk_asking p asked.Empty past i = record { has = i.has; asked = i.asked; at_once = i.at_once }
disk_asking p asked.Report past i = record { has = i.has; asked = i.asked; at_once = i.at_once }
disk_asking p asked.End past i = i

-- what is answered
disk_quiet : (p : Policy) (s : State) (past : Past) → Calm past.file.state s → IsOnDisk p past → IsOnDisk p (fronts.answered_of s (past.texts ++ []) past.synced past)
disk_quiet p s past c i = disk_same p past (fronts.answered_of s (past.texts ++ []) past.synced past) (append-nil past.texts) refl refl
    (record {
      written = c.written;
      sent = refl;
      events = refl;
      kept = c.kept;
      sync_at = c.sync_at;
      synced = c.synced;
      alive = c.alive;
      goes_on = c.goes_on;
    }) i

-- behind an Append the disk is to be asked
sync_some : (x : Syncing) (before : Option ℕ) (now : ℕ) → asks_the_disk x ≡ true → state.sync_time x before now ≡ None → ⊥
sync_some syncing.Second None now d e = none-some (state.later now 1000000) (sym e)
sync_some syncing.Second (Some t) now d e = none-some t (sym e)
sync_some syncing.Turn before now d e = none-some 0 (sym e)
sync_some syncing.Never before now d e = false≢true d

sync_zero : (x : Syncing) (before : Option ℕ) (now t : ℕ) → asks_in_turn x ≡ true → state.sync_time x before now ≡ Some t → t ≡ 0
sync_zero syncing.Second before now t d e = absurd (false≢true d)
sync_zero syncing.Turn before now t d e = some-same t 0 (sym e)
sync_zero syncing.Never before now t d e = absurd (false≢true d)

disk_appended : (p : Policy) (now : ℕ) (o : Outcome) (past : Past) → IsOnDisk p past → IsOnDisk p (step p (Answered now (change.Appended o)) past)
disk_appended p now o past i = by (is_append past.file.state.asked) (is_done o)
  where
    s : State
    s = past.file.state

    by : (a d : Bool) → IsOnDisk p (fronts.answered_of (if not a then s else if d then written p now s else state.failed p fault.CannotWrite s) (past.texts ++ (if a then (if d then past.file.out else []) else [])) past.synced past)
    by false d = disk_quiet p s past (same s) i
    by true false = disk_quiet p (state.failed p fault.CannotWrite s) past (calm_failed p fault.CannotWrite s) i
    by true true = record {
      has = λ d k e z. absurd (sync_some p.syncing s.sync_at now d e);
      asked = λ d k e m z. absurd (sync_some p.syncing s.sync_at now d e);
      at_once = λ t u e. sync_zero p.syncing s.sync_at now u t e;
    }

disk_synced : (p : Policy) (now : ℕ) (o : Outcome) (past : Past) → IsOnDisk p past → IsOnDisk p (step p (Answered now (change.Synced o)) past)
disk_synced p now o past i = by past.file.state.synced (is_done o) refl
  where
    s : State
    s = past.file.state

    failed : (b : Bool) → is_kept s.course ≡ b → IsOnDisk p (fronts.answered_of (if b then record s { synced = None; course = state.failing p fault.CannotSync } else record s { synced = None }) (past.texts ++ []) past.synced past)
    failed true e = record {
      has = λ d k h z. absurd (false≢true (sym (not_kept p.or_stop) ∙ k));
      asked = λ d k h m z. absurd (none-some m z);
      at_once = i.at_once;
    }
      where
        not_kept : (b : Bool) → is_kept (if b then course.Over (end.Unkept fault.CannotSync left.Resumes) else course.Renaming fault.CannotSync) ≡ false
        not_kept true = refl
        not_kept false = refl
    failed false e = record {
      has = λ d k h z. absurd (false≢true (sym e ∙ k));
      asked = λ d k h m z. absurd (none-some m z);
      at_once = i.at_once;
    }

    by : (m : Option ℕ) (d : Bool) → s.synced ≡ m → IsOnDisk p (fronts.answered_of (state.synced_as p d m s) (past.texts ++ []) (if d then synced_at m past else past.synced) past)
    by None true e = disk_quiet p s past (same s) i
    by None false e = disk_quiet p s past (same s) i
    by (Some m) false e = failed (is_kept s.course) refl
    by (Some m) true e = record {
      has = λ d k h z. let g = i.asked d k h m e in (g.0 ∙ sym (append-nil past.texts), λ t. rw t g.1);
      asked = λ d k h n z. absurd (none-some n z);
      at_once = i.at_once;
    }

disk_answered : (p : Policy) (now : ℕ) (c : Change) (past : Past) → IsOnDisk p past → IsOnDisk p (step p (Answered now c) past)
disk_answered p now (change.Begun o) past i = disk_quiet p (state.begun o past.file.state) past (calm_begun o past.file.state) i
disk_answered p now (change.Cut o) past i = disk_quiet p (state.cut p o past.file.state) past (calm_cut p o past.file.state) i
disk_answered p now (change.Appended o) past i = disk_appended p now o past i
disk_answered p now (change.Synced o) past i = disk_synced p now o past i
disk_answered p now (change.Renamed o) past i = disk_quiet p (state.renamed p o past.file.state) past (calm_renamed p o past.file.state) i
disk_answered p now (change.Spoiled o) past i = disk_quiet p (state.spoiled o past.file.state) past (calm_spoiled o past.file.state) i
disk_answered p now (change.Emptied o) past i = disk_quiet p (state.emptied o past.file.state) past (calm_emptied o past.file.state) i
disk_answered p now (change.GivenUp cause) past i = disk_quiet p (state.given_up p cause past.file.state) past (calm_given_up p cause past.file.state) i

disk_step : (p : Policy) (s : Step) (past : Past) → IsOnDisk p past → IsOnDisk p (step p s past)
disk_step p (Put t) past i = disk_putting p t past.file.state.course past i
disk_step p (Close journal) past i = disk_putting p (last_turn journal) course.Closing past i
disk_step p (Nexts now) past i = disk_asking p (asked_of p now past.file) past i
disk_step p (Answered now c) past i = disk_answered p now c past i

disk_steps : (p : Policy) (ss : List Step) (past : Past) → IsOnDisk p past → IsOnDisk p (steps p ss past)
disk_steps p [] past i = i
disk_steps p (s ∷ ss) past i = disk_steps p ss (step p s past) (disk_step p s past i)

-- the text ---------------------------------------------------------------------------------------

both-none : (a b : List ℕ) → a ++ b ≡ [] → (a ≡ []) × (b ≡ [])
both-none [] b e = (refl, e)
both-none (x ∷ a) b e = absurd (cons-none e)
  where
    cons-none : x ∷ (a ++ b) ≡ [] → ⊥
    cons-none h = cc

-- a line isn't empty
line-none : (place : ℕ) (e : Event) → line place e ≡ [] → ⊥
line-none place (event.Join user) h = let g = (both-none (decimal place) _ h).1 in cc
line-none place (event.Message n bytes) h = let g = (both-none (decimal place) _ h).1 in cc
line-none place (event.Took n k) h = let g = (both-none (decimal place) _ h).1 in cc
line-none place (event.Leave n) h = let g = (both-none (decimal place) _ h).1 in cc
line-none place (event.Revoke request) h = let g = (both-none (decimal place) _ h).1 in cc
line-none place event.Close h = let g = (both-none (decimal place) _ h).1 in cc
line-none place (event.AddUser user) h = let g = (both-none (decimal place) _ h).1 in cc
line-none place (event.AddFloor floor) h = let g = (both-none (decimal place) _ h).1 in cc
line-none place (event.SetChair floor chair) h = let g = (both-none (decimal place) _ h).1 in cc
line-none place (event.Say user bytes) h = let g = (both-none (decimal place) _ h).1 in cc

lines-none : (place : ℕ) (es : List Event) → lines place es ≡ [] → es ≡ []
lines-none place [] h = refl
lines-none place (e ∷ es) h = absurd (line-none place e (both-none (line place e) (lines (place + 1) es) h).0)

drop-none : (n : ℕ) (es : List Event) → drop n es ≡ [] → length es ≤ n
drop-none n [] h = omega arith
drop-none zero (e ∷ es) h = absurd (none h)
  where
    none : e ∷ es ≡ [] → ⊥
    none h = cc
drop-none (suc n) (e ∷ es) h = let l = drop-none n es h in omega (arith, l)

-- turns that add no text have no more events
text-none : (n : ℕ) (ts : List Turn) → turns_lines n ts ≡ [] → events_behind n ts ≤ n
text-none n [] h = omega arith
text-none n (t ∷ ts) h =
    let here = both-none (turn_lines n t.journal t.notes) (turns_lines (length t.journal) ts) h in
    let events = both-none (lines (n + 1) (drop n t.journal)) (note_lines (length t.journal + 1) t.notes) here.0 in
    let few : length t.journal ≤ n = drop-none n t.journal (lines-none (n + 1) (drop n t.journal) events.0) in
    let rest = text-none (length t.journal) ts here.1 in
    omega (arith, few, rest)

has-none : (text : List ℕ) → has_text text ≡ false → text ≡ []
has-none [] h = refl
has-none (x ∷ xs) h = absurd (some h)
  where
    some : has_text (x ∷ xs) ≡ false → ⊥
    some e = let l = leb-false 1 (length (x ∷ xs)) e in omega (arith, l)

-- nothing is to be asked -------------------------------------------------------------------------

-- what that says of a file of which nothing is awaited
record IsIdle (now : ℕ) (f : KeptFile) : Type 0 where
  pub reported : nat_lt f.state.reported f.state.kept ≡ false
  pub late : has_come f.state.sync_at now ≡ false
  pub text : has_text f.next ≡ false

idle : (p : Policy) (now : ℕ) (f : KeptFile) → is_something (asked_of p now f) ≡ false → IsAtRest f → IsIdle now f
idle p now f nothing rest = by (nat_lt s.reported s.kept) (wants_sync p now s) refl refl (sym (ap (λ (x : Bool). x) nothing) ∙ refl)
  where
    s : State
    s = f.state

    text : (x : Front) (t : Bool) → is_something (behind_front x t asked.Nothing) ≡ false → t ≡ false
    text front.New t h = absurd (false≢true (sym h))
    text (front.Torn stands) t h = absurd (false≢true (sym h))
    text front.Whole true h = absurd (false≢true (sym h))
    text front.Whole false h = refl

    going : (q : Asked) (x : Course) → q ≡ asked.Nothing → is_open x ≡ true → is_something (next_behind q (to_ask (has_text f.next) s x)) ≡ false → has_text f.next ≡ false
    going q x none opened h = at x opened (subst (λ (a : Asked). is_something (next_behind a (to_ask (has_text f.next) s x)) ≡ false) none h)
      where
        at : (x : Course) → is_open x ≡ true → is_something (to_ask (has_text f.next) s x) ≡ false → has_text f.next ≡ false
        at course.GoesOn o e = text s.front (has_text f.next) e
        at course.Closing o e = absurd (false≢true o)
        at (course.Renaming cause) o e = absurd (false≢true o)
        at (course.Spoiling cause) o e = absurd (false≢true o)
        at (course.Emptying cause) o e = absurd (false≢true o)
        at (course.Over x) o e = absurd (false≢true o)

    -- it is kept, and no Sync is out
    late : (k z h l : Bool) → k ≡ true → z ≡ false → (k && not z && (h || l)) ≡ false → h ≡ false
    late true false true l a b e = absurd (false≢true (sym e))
    late true false false l a b e = refl
    late false z h l a b e = absurd (false≢true a)
    late true true h l a b e = absurd (false≢true (sym b))

    by : (a b : Bool) → nat_lt s.reported s.kept ≡ a → wants_sync p now s ≡ b → false ≡ is_something (if a then asked.Report else if b then asked.Sync else next_behind s.asked (to_ask (has_text f.next) s s.course)) → IsIdle now f
    by true b e g h = absurd (false≢true h)
    by false true e g h = absurd (false≢true h)
    by false false e g h = record {
      reported = e;
      late =
          late (is_kept s.course) (is_some s.synced) (has_come s.sync_at now) (is_closing s.course && asks_the_disk p.syncing && is_some s.sync_at) (or-left (is_open s.course) (is_closing s.course) rest.opened)
          (ap (λ (o : Option ℕ). is_some o) rest.synced) g;
      text = going s.asked s.course rest.asked rest.opened (sym h);
    }

all-kept : (p : Policy) (now events : ℕ) (past : Past) → IsFront p events past → IsOnDisk p past → IsIdle now past.file → IsAtRest past.file → AllIsKept p now events past
all-kept p now events past f d idle rest = record {
  written = f.written.bytes_are ∙ text ∙ sym (ap (λ (ts : List Turn). turns_lines events ts) f.parts);
  kept = by (asks_in_turn p.syncing) refl;
  reported = idle.reported;
  in_turn = λ t. (disk t).0;
  once_a_second = λ a. second a g.sync_at refl;
}
  where
    g : State
    g = past.file.state

    kept : is_kept g.course ≡ true
    kept = or-left (is_open g.course) (is_closing g.course) rest.opened

    not_append : is_append g.asked ≡ false
    not_append = ap (λ (a : Asked). is_append a) rest.asked

    w : IsWaiting past.file f.behind
    w = f.waiting (or-left (is_kept g.course) (is_append g.asked) kept)

    none : w.sent ≡ []
    none = w.idle not_append

    from : events_behind g.written w.sent ≡ g.written
    from = ap (λ (ts : List Turn). events_behind g.written ts) none

    nothing : turns_lines g.written w.next ≡ []
    nothing = ap (λ (n : ℕ). turns_lines n w.next) (sym from) ∙ sym w.waits.bytes_are ∙ has-none past.file.next idle.text

    behind : f.behind ≡ w.next
    behind = w.parts ∙ ap (λ (ts : List Turn). ts ++ w.next) none

    text : turns_lines events f.done ≡ turns_lines events (f.done ++ f.behind)
    text =
        sym (append-nil (turns_lines events f.done))
        ∙ ap (λ (l : List ℕ). turns_lines events f.done ++ l) (sym nothing ∙ ap (λ (n : ℕ). turns_lines n w.next) f.written.count_is)
        ∙ sym (lines_both events f.done w.next)
        ∙ ap (λ (ts : List Turn). turns_lines events (f.done ++ ts)) (sym behind)

    few : g.events ≤ g.written
    few = let h = text-none g.written w.next nothing in let e = w.waits.count_is ∙ ap (λ (n : ℕ). events_behind n w.next) from in omega (arith, h, e)

    -- with the disk asked in each turn it is to be asked at once, or no more
    turn_disk : (x : Syncing) → asks_in_turn x ≡ true → asks_the_disk x ≡ true
    turn_disk syncing.Second h = refl
    turn_disk syncing.Turn h = refl
    turn_disk syncing.Never h = h

    no_more : asks_in_turn p.syncing ≡ true → g.sync_at ≡ None
    no_more h = on g.sync_at refl
      where
        on : (o : Option ℕ) → g.sync_at ≡ o → g.sync_at ≡ None
        on None e = e
        on (Some n) e =
            let late : nat_le n now ≡ false = sym (ap (λ (o : Option ℕ). has_come o now) e) ∙ idle.late in
            let l = leb-false n now late in
            let z = d.at_once h n e in
            absurd (omega (arith, l, z))

    disk : asks_in_turn p.syncing ≡ true → (past.synced ≡ past.texts) × (asks_in_turn p.syncing ≡ true → g.kept ≡ g.written)
    disk h = d.has (turn_disk p.syncing h) kept (no_more h) rest.synced

    by : (b : Bool) → asks_in_turn p.syncing ≡ b → g.events ≤ g.kept
    by true e = let k = (disk e).1 e in omega (arith, k, few)
    by false e = let k = f.at_once e in omega (arith, k, few)

    second : asks_the_disk p.syncing ≡ true → (o : Option ℕ) → g.sync_at ≡ o → (past.synced ≡ past.texts) ⊎ ((t : ℕ) × (g.sync_at ≡ Some t) × (now < t))
    second a None e = inl (d.has a kept e rest.synced).0
    second a (Some n) e = inr (n, e, leb-false n now (sym (ap (λ (o : Option ℕ). has_come o now) e) ∙ idle.late))

disk_begun : (p : Policy) (f : KeptFile) → f.state.sync_at ≡ None → f.state.synced ≡ None → f.state.kept ≡ f.state.written → IsOnDisk p (begun f)
disk_begun p f time out e = record {
  has = λ d k s z. (refl, λ t. e);
  asked = λ d k s m z. absurd (none-some m (sym out ∙ z));
  at_once = λ t u z. absurd (none-some u (sym time ∙ z));
}

-- behind whatever calls --------------------------------------------------------------------------

-- an epoch that is ours or may be read isn't lost
free-not_over : (now : ℕ) (r : Reading) → epoch.is_free now r ≡ true → epoch.is_over r ≡ false
free-not_over now reading.Unread e = refl
free-not_over now (reading.Asked since) e = refl
free-not_over now reading.Ours e = refl
free-not_over now (reading.Waits since again) e = refl
free-not_over now (reading.Over cause) e = absurd (false≢true e)

pub law : WhatWasPutIsKept
law c now events front head f calls first before last run does is not_it there rest locked free =
    all-kept p until events past (fronts.law p events front course.GoesOn head ss) (disk_steps p ss (begun begin) (disk_begun p begin refl refl refl)) (subst (λ (x : KeptFile). IsIdle until x) its (idle p until f nothing rest))
    (subst (λ (x : KeptFile). IsAtRest x) its rest)
  where
    begin : KeptFile
    begin = record { state = with_events events front course.GoesOn; head = head; out = []; next = [] }

    p : Policy
    p = first.table.policy

    until : ℕ
    until = until_at now before

    ss : List Step
    ss = steps_of c calls first before run

    past : Past
    past = steps p ss (begun begin)

    stood : file_at before c ≡ Some f
    stood = sym (does.1.0 c) ∙ there

    its : f ≡ past.file
    its = owned.law c begin f calls first before run is not_it stood

    done : IsDone (passed now before)
    done = does.1.1 (free-not_over (time_at now before) (epoch_at now before).reading free)

    nothing : is_something (asked_of p until f) ≡ false
    nothing = subst (λ (x : Policy). is_something (asked_of x until f) ≡ false) (owned.same-policy calls first before run) ((done.nothing locked free).1 c f stood)
