-- Of what was put to a file a front stands in it, step by step.
use Rattle.std.proofs.Common.{◌≡◌, ℕ, Bool, true, false, List, [], ◌∷◌, ◌++◌, length, refl, sym, ◌∙◌, ap, subst, append_assoc}
use Rattle.std.specs.Prelude.{not, if◌then◌else◌, nat_lt, Option, Some, None}
use Rattle.std.proofs.lemmas.Bool.{false≢true}
use Rattle.std.proofs.lemmas.List.{append-nil}
use Rattle.std.proofs.lemmas.Option.{none-some}
use Rattle.floor_keep.specs.declared.kept.KeptFault.TheVariants as fault
use Rattle.floor_kept.specs.Laws.{Turn}
use Rattle.floor_kept.specs.Writing.{turn_lines}
use Rattle.floor_keeping.specs.Kept.{KeptFile, asked_of, has_text, kept_lent, while_new}
use Rattle.floor_keeping.specs.Laws.{IsFront, IsOfTurns, WhatIsKeptIsWritten, events_behind}
use Rattle.floor_keeping.specs.Runs.{Past, Step, Put, Close, Next, Answered, asking, begun, last_turn, putting, step, steps, synced_at}
use Rattle.floor_keeping.specs.State as state
use Rattle.floor_keeping.specs.State.{asks_in_turn, is_append, is_begin, is_cut, is_done, is_empty, is_kept, is_open, is_rename, is_spoil, next_behind, to_ask, unless_synced, wants_sync, with_events, written}
use Rattle.floor_keeping.specs.declared.kept.Change.{Change}
use Rattle.floor_keeping.specs.declared.kept.Change.TheVariants as change
use Rattle.floor_keeping.specs.declared.policy.Outcome.{Outcome}
use Rattle.floor_keeping.specs.declared.policy.Policy.{Policy}
use Rattle.floor_keeping.specs.declared.state.Asked.{Asked}
use Rattle.floor_keeping.specs.declared.state.Asked.TheVariants as asked
use Rattle.floor_keeping.specs.declared.state.Course.{Course}
use Rattle.floor_keeping.specs.declared.state.Course.TheVariants as course
use Rattle.floor_keeping.specs.declared.state.Front.{Front}
use Rattle.floor_keeping.specs.declared.state.State.{State}
use Rattle.floor_keeping.proofs.Calm.{Calm, calm_begun, calm_cut, calm_emptied, calm_failed, calm_given_up, calm_renamed, calm_spoiled, calm_unsynced, lives, or-first, or-left, or-right, same}
use Rattle.floor_keeping.proofs.Turns.{of_both, of_none, of_one, of_same}

-- What stood there when the Sync was asked that is out is what a front of the turns adds.
pub record IsPending (events : ℕ) (past : Past) (done : List Turn) (m : ℕ) : Type 0 where
  pub front : List Turn
  pub later : List Turn
  pub parts : done ≡ front ++ later
  pub are : IsOfTurns events past.asked m front

pub record IsSound (p : Policy) (events : ℕ) (past : Past) : Type 0 where
  pub front : IsFront p events past
  pub pending : (m : ℕ) → past.file.state.synced ≡ Some m → IsPending events past front.done m

-- what is put ---------------------------------------------------------------------------------------

-- a file to which a turn was put, and of which this becomes
abbrev pub put_to : Turn → Course → KeptFile → KeptFile
put_to t c f = record f {
  state = record f.state { events = length t.journal; course = c };
  next = f.next ++ turn_lines f.state.events t.journal t.notes;
}

open-kept : (c : Course) → is_open c ≡ true → is_kept c ≡ true
open-kept c e = rw e refl

sound_put : (p : Policy) (n : ℕ) (t : Turn) (c : Course) (past : Past) → lives past.file.state ≡ true → IsSound p n past
    → IsSound p n (record past { file = put_to t c past.file; turns = past.turns ++ t ∷ [] })
sound_put p n t c past from i =
    let f = i.front in
    let w = f.waiting from in
    let g = past.file in
    record {
      front = record {
        done = f.done;
        behind = f.behind ++ t ∷ [];
        parts = ap (λ (ts : List Turn). ts ++ t ∷ []) f.parts ∙ append_assoc f.done f.behind (t ∷ []);
        written = f.written;
        waiting = λ h. record {
          sent = w.sent;
          next = w.next ++ t ∷ [];
          parts = ap (λ (ts : List Turn). ts ++ t ∷ []) w.parts ∙ append_assoc w.sent w.next (t ∷ []);
          out = w.out;
          idle = w.idle;
          waits = of_both (events_behind g.state.written w.sent) g.state.events (length t.journal) g.next (turn_lines g.state.events t.journal t.notes) w.next (t ∷ []) w.waits (of_one g.state.events t);
        };
        at_once = f.at_once;
        on_disk = f.on_disk;
        later = f.later;
        on_disk_parts = f.on_disk_parts;
        synced = f.synced;
      };
      pending = λ m e. let q = i.pending m e in record { front = q.front; later = q.later; parts = q.parts; are = q.are };
    }

sound_putting : (p : Policy) (n : ℕ) (t : Turn) (c : Course) (past : Past) → IsSound p n past → IsSound p n (putting t (put_to t c past.file) past)
sound_putting p n t c past i = by (is_open past.file.state.course) refl
  where
    by : (b : Bool) → is_open past.file.state.course ≡ b → IsSound p n (if b then record past { file = put_to t c past.file; turns = past.turns ++ t ∷ [] } else past)
    by true e = sound_put p n t c past (or-left (is_kept past.file.state.course) (is_append past.file.state.asked) (open-kept past.file.state.course e)) i
    by false e = i

-- what is asked -------------------------------------------------------------------------------------

next-append : (q x : Asked) → is_append (next_behind q x) ≡ true → is_append x ≡ true
next-append asked.Nothing x h = h
next-append asked.Begin x h = absurd (false≢true h)
next-append asked.Cut x h = absurd (false≢true h)
next-append asked.Append x h = absurd (false≢true h)
next-append asked.Sync x h = absurd (false≢true h)
next-append asked.Rename x h = absurd (false≢true h)
next-append asked.Spoil x h = absurd (false≢true h)
next-append asked.Empty x h = absurd (false≢true h)
next-append asked.Report x h = absurd (false≢true h)
next-append asked.End x h = absurd (false≢true h)

-- it is asked of the system, one answer at a time
abbrev is_deed : Asked → Bool
is_deed asked.Nothing = false
is_deed asked.Begin = true
is_deed asked.Cut = true
is_deed asked.Append = true
is_deed asked.Sync = false
is_deed asked.Rename = true
is_deed asked.Spoil = true
is_deed asked.Empty = true
is_deed asked.Report = false
is_deed asked.End = false

free-behind : (q x : Asked) → is_deed (next_behind q x) ≡ true → is_append q ≡ false
free-behind asked.Nothing x h = refl
free-behind asked.Begin x h = refl
free-behind asked.Cut x h = refl
free-behind asked.Append x h = absurd (false≢true h)
free-behind asked.Sync x h = refl
free-behind asked.Rename x h = refl
free-behind asked.Spoil x h = refl
free-behind asked.Empty x h = refl
free-behind asked.Report x h = refl
free-behind asked.End x h = refl

free : (a b : Bool) (q x : Asked) → is_deed (if a then asked.Report else if b then asked.Sync else next_behind q x) ≡ true → is_append q ≡ false
free true b q x h = absurd (false≢true h)
free false true q x h = absurd (false≢true h)
free false false q x h = free-behind q x h

append-alive : (t : Bool) (s : State) (c : Course) → is_append (to_ask t s c) ≡ true → is_kept c ≡ true
append-alive t s course.GoesOn h = refl
append-alive t s course.Closing h = refl
append-alive t s (course.Renaming cause) h = absurd (false≢true h)
append-alive t s (course.Spoiling cause) h = absurd (false≢true h)
append-alive t s (course.Emptying cause) h = absurd (false≢true h)
append-alive t s (course.Over e) h = absurd (false≢true (sym (ending s.synced) ∙ h))
  where
    ending : (o : Option ℕ) → is_append (unless_synced o asked.End) ≡ false
    ending None = refl
    ending (Some m) = refl

alive : (a b : Bool) (q : Asked) (t : Bool) (s : State) (c : Course) → is_append (if a then asked.Report else if b then asked.Sync else next_behind q (to_ask t s c)) ≡ true → is_kept c ≡ true
alive true b q t s c h = absurd (false≢true h)
alive false true q t s c h = absurd (false≢true h)
alive false false q t s c h = append-alive t s c (next-append q (to_ask t s c) h)

-- another answer than that of an Append is awaited
sound_await : (p : Policy) (n : ℕ) (a : Asked) (past : Past) → is_append a ≡ false → is_append past.file.state.asked ≡ false → IsSound p n past
    → IsSound p n (record past { file = record past.file { state = record past.file.state { asked = a } } })
sound_await p n a past not_one was i =
    let f = i.front in
    record {
      front = record {
        done = f.done;
        behind = f.behind;
        parts = f.parts;
        written = f.written;
        waiting = λ h. let w = f.waiting (or-left (is_kept past.file.state.course) (is_append past.file.state.asked) (or-first (is_kept past.file.state.course) (is_append a) not_one h)) in record {
          sent = w.sent;
          next = w.next;
          parts = w.parts;
          out = λ e. absurd (false≢true (sym not_one ∙ e));
          idle = λ e. w.idle was;
          waits = w.waits;
        };
        at_once = f.at_once;
        on_disk = f.on_disk;
        later = f.later;
        on_disk_parts = f.on_disk_parts;
        synced = f.synced;
      };
      pending = λ m e. let q = i.pending m e in record { front = q.front; later = q.later; parts = q.parts; are = q.are };
    }

-- what waits is out
sound_append : (p : Policy) (n : ℕ) (past : Past) → is_kept past.file.state.course ≡ true → is_append past.file.state.asked ≡ false → IsSound p n past → IsSound p n (asking asked.Append past)
sound_append p n past is was i =
    let f = i.front in
    let w = f.waiting (or-left (is_kept past.file.state.course) (is_append past.file.state.asked) is) in
    let g = past.file in
    let none = w.idle was in
    let waits : IsOfTurns g.state.written g.next g.state.events w.next =
    of_same (events_behind g.state.written w.sent) g.state.written g.state.events g.state.events g.next g.next w.next (sym (ap (λ (ts : List Turn). events_behind g.state.written ts) none)) refl refl w.waits in
    record {
      front = record {
        done = f.done;
        behind = f.behind;
        parts = f.parts;
        written = f.written;
        waiting = λ h. record {
          sent = w.next;
          next = [];
          parts = w.parts ∙ ap (λ (ts : List Turn). ts ++ w.next) none ∙ sym (append-nil w.next);
          out = λ e. waits;
          idle = λ e. absurd (false≢true (sym e));
          waits = record { bytes_are = refl; count_is = waits.count_is };
        };
        at_once = f.at_once;
        on_disk = f.on_disk;
        later = f.later;
        on_disk_parts = f.on_disk_parts;
        synced = f.synced;
      };
      pending = λ m e. let q = i.pending m e in record { front = q.front; later = q.later; parts = q.parts; are = q.are };
    }

some-same : (a b : ℕ) → Some a ≡ Some b → a ≡ b
some-same a b e = ap (λ (o : Option ℕ). or_zero o) e
  where
    or_zero : Option ℕ → ℕ
    or_zero None = 0
    or_zero (Some x) = x

-- the disk is asked for what stands there
sound_sync : (p : Policy) (n : ℕ) (past : Past) → IsSound p n past → IsSound p n (asking asked.Sync past)
sound_sync p n past i =
    let f = i.front in
    record {
      front = record {
        done = f.done;
        behind = f.behind;
        parts = f.parts;
        written = f.written;
        waiting = λ h. let w = f.waiting h in record { sent = w.sent; next = w.next; parts = w.parts; out = w.out; idle = w.idle; waits = w.waits };
        at_once = f.at_once;
        on_disk = f.on_disk;
        later = f.later;
        on_disk_parts = f.on_disk_parts;
        synced = f.synced;
      };
      pending = λ m e. record {
        front = f.done;
        later = [];
        parts = sym (append-nil f.done);
        are = subst (λ (k : ℕ). IsOfTurns n past.texts k f.done) (some-same past.file.state.written m e) f.written;
      };
    }

sound_report : (p : Policy) (n : ℕ) (past : Past) → IsSound p n past → IsSound p n (asking asked.Report past)
sound_report p n past i =
    let f = i.front in
    record {
      front = record {
        done = f.done;
        behind = f.behind;
        parts = f.parts;
        written = f.written;
        waiting = λ h. let w = f.waiting h in record { sent = w.sent; next = w.next; parts = w.parts; out = w.out; idle = w.idle; waits = w.waits };
        at_once = f.at_once;
        on_disk = f.on_disk;
        later = f.later;
        on_disk_parts = f.on_disk_parts;
        synced = f.synced;
      };
      pending = λ m e. let q = i.pending m e in record { front = q.front; later = q.later; parts = q.parts; are = q.are };
    }

sound_asking : (p : Policy) (n : ℕ) (a : Asked) (past : Past) → (is_deed a ≡ true → is_append past.file.state.asked ≡ false) → (is_append a ≡ true → is_kept past.file.state.course ≡ true) → IsSound p n past
    → IsSound p n (asking a past)
sound_asking p n asked.Nothing past was is i = i
sound_asking p n asked.Begin past was is i = sound_await p n asked.Begin past refl (was refl) i
sound_asking p n asked.Cut past was is i = sound_await p n asked.Cut past refl (was refl) i
sound_asking p n asked.Append past was is i = sound_append p n past (is refl) (was refl) i
sound_asking p n asked.Sync past was is i = sound_sync p n past i
sound_asking p n asked.Rename past was is i = sound_await p n asked.Rename past refl (was refl) i
sound_asking p n asked.Spoil past was is i = sound_await p n asked.Spoil past refl (was refl) i
sound_asking p n asked.Empty past was is i = sound_await p n asked.Empty past refl (was refl) i
sound_asking p n asked.Report past was is i = sound_report p n past i
sound_asking p n asked.End past was is i = i

sound_next : (p : Policy) (n now : ℕ) (past : Past) → IsSound p n past → IsSound p n (asking (asked_of p now past.file) past)
sound_next p n now past i =
    let s = past.file.state in
    let t = has_text past.file.next in
    sound_asking p n (asked_of p now past.file) past
    (λ h. free (nat_lt s.reported s.kept) (wants_sync p now s) s.asked (to_ask t s s.course) h)
    (λ h. alive (nat_lt s.reported s.kept) (wants_sync p now s) s.asked t s s.course h) i

-- what is answered ----------------------------------------------------------------------------------

lent-same : (a : Asked) (bytes : List ℕ) → is_append a ≡ true → kept_lent a bytes ≡ bytes
lent-same asked.Nothing bytes h = absurd (false≢true h)
lent-same asked.Begin bytes h = refl
lent-same asked.Cut bytes h = absurd (false≢true h)
lent-same asked.Append bytes h = refl
lent-same asked.Sync bytes h = absurd (false≢true h)
lent-same asked.Rename bytes h = absurd (false≢true h)
lent-same asked.Spoil bytes h = absurd (false≢true h)
lent-same asked.Empty bytes h = absurd (false≢true h)
lent-same asked.Report bytes h = absurd (false≢true h)
lent-same asked.End bytes h = absurd (false≢true h)

-- a file of which this is known now
abbrev pub answered_of : State → List ℕ → List ℕ → Past → Past
answered_of s texts synced past = record past {
  file = record past.file { state = s; head = while_new s.front past.file.head; out = kept_lent s.asked past.file.out };
  texts = texts;
  synced = synced;
}

sound_calm : (p : Policy) (n : ℕ) (s : State) (texts : List ℕ) (past : Past) → texts ≡ past.texts → Calm past.file.state s → IsSound p n past → IsSound p n (answered_of s texts past.synced past)
sound_calm p n s texts past nothing c i =
    let f = i.front in
    let g = past.file in
    record {
      front = record {
        done = f.done;
        behind = f.behind;
        parts = f.parts;
        written = of_same n n g.state.written s.written past.texts texts f.done refl nothing c.written f.written;
        waiting = λ h. let k = c.alive h in let w = f.waiting k.0 in record {
          sent = w.sent;
          next = w.next;
          parts = w.parts;
          out = λ e. of_same g.state.written s.written g.state.sent s.sent g.out (kept_lent s.asked g.out) w.sent c.written (lent-same s.asked g.out e) c.sent (w.out (sym k.1 ∙ e));
          idle = λ e. w.idle (sym k.1 ∙ e);
          waits = of_same (events_behind g.state.written w.sent) (events_behind s.written w.sent) g.state.events s.events g.next g.next w.next
              (ap (λ (m : ℕ). events_behind m w.sent) c.written) refl c.events w.waits;
        };
        at_once = λ h. c.kept ∙ f.at_once h ∙ sym c.written;
        on_disk = f.on_disk;
        later = f.later;
        on_disk_parts = f.on_disk_parts;
        synced = λ h. of_same n n g.state.kept s.kept past.synced past.synced f.on_disk refl refl c.kept (f.synced h);
      };
      pending = λ m e. let q = i.pending m (c.synced m e) in record { front = q.front; later = q.later; parts = q.parts; are = q.are };
    }

sound_quiet : (p : Policy) (n : ℕ) (s : State) (past : Past) → Calm past.file.state s → IsSound p n past → IsSound p n (answered_of s (past.texts ++ []) past.synced past)
sound_quiet p n s past c i = sound_calm p n s (past.texts ++ []) past (append-nil past.texts) c i

-- what was out stands there
sound_written : (p : Policy) (n now : ℕ) (past : Past) → is_append past.file.state.asked ≡ true → IsSound p n past → IsSound p n (answered_of (written p now past.file.state) (past.texts ++ past.file.out) past.synced past)
sound_written p n now past out i =
    let f = i.front in
    let g = past.file in
    let w = f.waiting (or-right (is_kept past.file.state.course) (is_append past.file.state.asked) out) in
    let o = w.out out in
    record {
      front = record {
        done = f.done ++ w.sent;
        behind = w.next;
        parts = f.parts ∙ ap (λ (ts : List Turn). f.done ++ ts) w.parts ∙ sym (append_assoc f.done w.sent w.next);
        written = of_both n g.state.written g.state.sent past.texts g.out f.done w.sent f.written o;
        waiting = λ h. record {
          sent = [];
          next = w.next;
          parts = refl;
          out = λ a. absurd (false≢true a);
          idle = λ a. refl;
          waits = of_same (events_behind g.state.written w.sent) g.state.sent g.state.events g.state.events g.next g.next w.next o.count_is refl refl w.waits;
        };
        at_once = λ h. rw h refl;
        on_disk = f.on_disk;
        later = f.later ++ w.sent;
        on_disk_parts = ap (λ (ts : List Turn). ts ++ w.sent) f.on_disk_parts ∙ append_assoc f.on_disk f.later w.sent;
        synced = λ h. of_same n n g.state.kept (if asks_in_turn p.syncing then g.state.kept else g.state.sent) past.synced past.synced f.on_disk refl refl (rw h refl) (f.synced h);
      };
      pending = λ m a. let q = i.pending m a in record {
        front = q.front;
        later = q.later ++ w.sent;
        parts = ap (λ (ts : List Turn). ts ++ w.sent) q.parts ∙ append_assoc q.front q.later w.sent;
        are = q.are;
      };
    }

sound_appended : (p : Policy) (n now : ℕ) (o : Outcome) (past : Past) → IsSound p n past → IsSound p n (step p (Answered now (change.Appended o)) past)
sound_appended p n now o past i = by (is_append past.file.state.asked) (is_done o) refl
  where
    by : (a d : Bool) → is_append past.file.state.asked ≡ a
        → IsSound p n (answered_of (if not a then past.file.state else if d then written p now past.file.state else state.failed p fault.CannotWrite past.file.state)
        (past.texts ++ (if a then (if d then past.file.out else []) else [])) past.synced past)
    by false d e = sound_quiet p n past.file.state past (same past.file.state) i
    by true true e = sound_written p n now past e i
    by true false e = sound_quiet p n (state.failed p fault.CannotWrite past.file.state) past (calm_failed p fault.CannotWrite past.file.state) i

-- the disk has what stood there
sound_on_disk : (p : Policy) (n m : ℕ) (past : Past) → past.file.state.synced ≡ Some m → IsSound p n past
    → IsSound p n (answered_of (record past.file.state { synced = None; kept = if asks_in_turn p.syncing then m else past.file.state.kept }) (past.texts ++ []) past.asked past)
sound_on_disk p n m past at i =
    let f = i.front in
    let g = past.file in
    let q = i.pending m at in
    record {
      front = record {
        done = f.done;
        behind = f.behind;
        parts = f.parts;
        written = of_same n n g.state.written g.state.written past.texts (past.texts ++ []) f.done refl (append-nil past.texts) refl f.written;
        waiting = λ h. let w = f.waiting h in record {
          sent = w.sent;
          next = w.next;
          parts = w.parts;
          out = λ e. of_same g.state.written g.state.written g.state.sent g.state.sent g.out (kept_lent g.state.asked g.out) w.sent refl (lent-same g.state.asked g.out e) refl (w.out e);
          idle = w.idle;
          waits = w.waits;
        };
        at_once = λ h. rw h (f.at_once h);
        on_disk = q.front;
        later = q.later;
        on_disk_parts = q.parts;
        synced = λ h. of_same n n m (if asks_in_turn p.syncing then m else g.state.kept) past.asked past.asked q.front refl refl (rw h refl) q.are;
      };
      pending = λ k e. absurd (none-some k e);
    }

sound_synced : (p : Policy) (n now : ℕ) (o : Outcome) (past : Past) → IsSound p n past → IsSound p n (step p (Answered now (change.Synced o)) past)
sound_synced p n now o past i = by past.file.state.synced (is_done o) refl
  where
    by : (m : Option ℕ) (d : Bool) → past.file.state.synced ≡ m
        → IsSound p n (answered_of (state.synced_as p d m past.file.state) (past.texts ++ []) (if d then synced_at m past else past.synced) past)
    by None true e = sound_quiet p n past.file.state past (same past.file.state) i
    by None false e = sound_quiet p n past.file.state past (same past.file.state) i
    by (Some m) true e = sound_on_disk p n m past e i
    by (Some m) false e =
        sound_quiet p n (state.unsynced p (record past.file.state { synced = None })) past (calm_unsynced p past.file.state) i

sound_answered : (p : Policy) (n now : ℕ) (c : Change) (past : Past) → IsSound p n past → IsSound p n (step p (Answered now c) past)
sound_answered p n now (change.Begun o) past i = sound_quiet p n (state.begun o past.file.state) past (calm_begun o past.file.state) i
sound_answered p n now (change.Cut o) past i = sound_quiet p n (state.cut p o past.file.state) past (calm_cut p o past.file.state) i
sound_answered p n now (change.Appended o) past i = sound_appended p n now o past i
sound_answered p n now (change.Synced o) past i = sound_synced p n now o past i
sound_answered p n now (change.Renamed o) past i = sound_quiet p n (state.renamed p o past.file.state) past (calm_renamed p o past.file.state) i
sound_answered p n now (change.Spoiled o) past i = sound_quiet p n (state.spoiled o past.file.state) past (calm_spoiled o past.file.state) i
sound_answered p n now (change.Emptied o) past i = sound_quiet p n (state.emptied o past.file.state) past (calm_emptied o past.file.state) i
sound_answered p n now (change.GivenUp cause) past i = sound_quiet p n (state.given_up p cause past.file.state) past (calm_given_up p cause past.file.state) i

-- steps ---------------------------------------------------------------------------------------------

sound_step : (p : Policy) (n : ℕ) (s : Step) (past : Past) → IsSound p n past → IsSound p n (step p s past)
sound_step p n (Put t) past i = sound_putting p n t past.file.state.course past i
sound_step p n (Close journal) past i = sound_putting p n (last_turn journal) course.Closing past i
sound_step p n (Next now) past i = sound_next p n now past i
sound_step p n (Answered now c) past i = sound_answered p n now c past i

sound_steps : (p : Policy) (n : ℕ) (ss : List Step) (past : Past) → IsSound p n past → IsSound p n (steps p ss past)
sound_steps p n [] past i = i
sound_steps p n (s ∷ ss) past i = sound_steps p n ss (step p s past) (sound_step p n s past i)

sound_begun : (p : Policy) (n : ℕ) (front : Front) (c : Course) (head : List ℕ) → IsSound p n (begun record { state = with_events n front c; head = head; out = []; next = [] })
sound_begun p n front c head = record {
  front = record {
    done = [];
    behind = [];
    parts = refl;
    written = of_none n;
    waiting = λ h. record {
      sent = [];
      next = [];
      parts = refl;
      out = λ e. absurd (false≢true e);
      idle = λ e. refl;
      waits = of_none n;
    };
    at_once = λ h. refl;
    on_disk = [];
    later = [];
    on_disk_parts = refl;
    synced = λ h. of_none n;
  };
  pending = λ m e. absurd (none-some m e);
}

pub law : WhatIsKeptIsWritten
law p n front c head ss = (sound_steps p n ss (begun record { state = with_events n front c; head = head; out = []; next = [] }) (sound_begun p n front c head)).front
