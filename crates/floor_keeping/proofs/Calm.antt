-- Answers by which nothing comes to stand in a file.
use Rattle.std.proofs.Common.{◌≡◌, ℕ, Bool, true, false, refl, sym, ◌∙◌}
use Rattle.std.specs.Prelude.{not, ◌||◌, if◌then◌else◌, Option, Some, None}
use Rattle.std.proofs.lemmas.Bool.{false≢true}
use Rattle.std.proofs.lemmas.Option.{none-some}
use Rattle.floor_keep.specs.declared.ending.Left.TheVariants as left
use Rattle.floor_keep.specs.declared.kept.KeptFault.{KeptFault}
use Rattle.floor_keep.specs.declared.kept.KeptFault.TheVariants as kept
use Rattle.floor_keeping.specs.State as state
use Rattle.floor_keeping.specs.State.{failed, failing, given_up, is_append, is_begin, is_closing, is_cut, is_done, is_empty, is_kept, is_open, is_rename, is_spoil, over, unsynced}
use Rattle.floor_keeping.specs.declared.policy.Outcome.{Outcome}
use Rattle.floor_keeping.specs.declared.policy.Policy.{Policy}
use Rattle.floor_keeping.specs.declared.state.Asked.{Asked}
use Rattle.floor_keeping.specs.declared.state.Asked.TheVariants as asked
use Rattle.floor_keeping.specs.declared.state.Course.{Course}
use Rattle.floor_keeping.specs.declared.state.Course.TheVariants as course
use Rattle.floor_keeping.specs.declared.state.End.{End}
use Rattle.floor_keeping.specs.declared.state.End.TheVariants as end
use Rattle.floor_keeping.specs.declared.state.Front.{Front}
use Rattle.floor_keeping.specs.declared.state.Front.TheVariants as front
use Rattle.floor_keeping.specs.declared.state.State.{State}

-- What was put to it is to be appended, or is being so.
abbrev pub lives : State → Bool
lives s = is_kept s.course || is_append s.asked

-- Nothing comes to stand in the file, no Append is asked, and one that is out stays so while it lives.
pub record Calm (s t : State) : Type 0 where
  pub written : t.written ≡ s.written
  pub sent : t.sent ≡ s.sent
  pub events : t.events ≡ s.events
  pub kept : t.kept ≡ s.kept
  pub sync_at : t.sync_at ≡ s.sync_at
  pub synced : (m : ℕ) → t.synced ≡ Some m → s.synced ≡ Some m
  pub alive : lives t ≡ true → (lives s ≡ true) × (is_append t.asked ≡ is_append s.asked)
  pub goes_on : is_kept t.course ≡ true → (is_kept s.course ≡ true) × (t.synced ≡ s.synced)

pub same : (s : State) → Calm s s
same s = record {
  written = refl;
  sent = refl;
  events = refl;
  kept = refl;
  sync_at = refl;
  synced = λ m e. e;
  alive = λ h. (h, refl);
  goes_on = λ h. (h, refl);
}

pub or-left : (a b : Bool) → a ≡ true → (a || b) ≡ true
or-left true b e = refl
or-left false b e = absurd (false≢true e)

pub or-right : (a b : Bool) → b ≡ true → (a || b) ≡ true
or-right true b e = refl
or-right false b e = e

pub or-first : (a b : Bool) → b ≡ false → (a || b) ≡ true → a ≡ true
or-first true b e h = refl
or-first false b e h = absurd (false≢true (sym e ∙ h))

pub or-second : (a b : Bool) → a ≡ false → (a || b) ≡ true → b ≡ true
or-second true b e h = absurd (false≢true (sym e))
or-second false b e h = h

-- no answer is awaited any more
idle : (s : State) (f : Front) (c : Course) → (is_kept c ≡ true → (is_kept s.course ≡ true) × (is_append s.asked ≡ false)) → Calm s (record s { asked = asked.Nothing; front = f; course = c })
idle s f c h = record {
  written = refl;
  sent = refl;
  events = refl;
  kept = refl;
  sync_at = refl;
  synced = λ m e. e;
  alive = λ k. let g = h (or-first (is_kept c) false refl k) in (or-left (is_kept s.course) (is_append s.asked) g.0, sym g.1);
  goes_on = λ k. ((h k).0, refl);
}

ended : (s : State) (f : Front) (c : Course) → is_kept c ≡ false → Calm s (record s { asked = asked.Nothing; front = f; course = c })
ended s f c h = idle s f c (λ k. absurd (false≢true (sym h ∙ k)))

calm_over : (e : End) (s : State) → Calm s (over e s)
calm_over e s = ended s s.front (course.Over e) refl

not_kept : (p : Policy) (cause : KeptFault) → is_kept (failing p cause) ≡ false
not_kept p cause = by p.or_stop
  where
    by : (b : Bool) → is_kept (if b then course.Over (end.Unkept cause left.Resumes) else course.Renaming cause) ≡ false
    by true = refl
    by false = refl

pub calm_failed : (p : Policy) (cause : KeptFault) (s : State) → Calm s (failed p cause s)
calm_failed p cause s = ended s s.front (failing p cause) (not_kept p cause)

-- it is kept no more, and what is awaited is awaited still
given : (p : Policy) (cause : KeptFault) (s : State) (o : Option ℕ) → is_kept s.course ≡ true → ((m : ℕ) → o ≡ Some m → s.synced ≡ Some m) → Calm s (record s { synced = o; course = failing p cause })
given p cause s o was out = record {
  written = refl;
  sent = refl;
  events = refl;
  kept = refl;
  sync_at = refl;
  synced = out;
  alive = λ k. (or-left (is_kept s.course) (is_append s.asked) was, refl);
  goes_on = λ k. absurd (false≢true (sym (not_kept p cause) ∙ k));
}

pub calm_given_up : (p : Policy) (cause : KeptFault) (s : State) → Calm s (given_up p cause s)
calm_given_up p cause s = by (is_open s.course) refl
  where
    by : (b : Bool) → is_open s.course ≡ b → Calm s (if b then record s { course = failing p cause } else s)
    by true e = given p cause s s.synced (or-left (is_open s.course) (is_closing s.course) e) (λ m h. h)
    by false e = same s

-- what isn't an Append
apart : (f : Asked → Bool) → f asked.Append ≡ false → (q : Asked) → f q ≡ true → is_append q ≡ false
apart f h asked.Nothing e = refl
apart f h asked.Begin e = refl
apart f h asked.Cut e = refl
apart f h asked.Append e = absurd (false≢true (sym h ∙ e))
apart f h asked.Sync e = refl
apart f h asked.Rename e = refl
apart f h asked.Spoil e = refl
apart f h asked.Empty e = refl
apart f h asked.Report e = refl
apart f h asked.End e = refl

pub calm_begun : (o : Outcome) (s : State) → Calm s (state.begun o s)
calm_begun o s = by (is_begin s.asked) (is_done o) refl
  where
    by : (b d : Bool) → is_begin s.asked ≡ b
        → Calm s (if not b then s else if d then record s { asked = asked.Nothing; front = front.Whole } else over (end.Unkept kept.CannotWrite left.Missing) s)
    by false d e = same s
    by true true e = idle s front.Whole s.course (λ k. (k, apart is_begin refl s.asked e))
    by true false e = calm_over (end.Unkept kept.CannotWrite left.Missing) s

pub calm_cut : (p : Policy) (o : Outcome) (s : State) → Calm s (state.cut p o s)
calm_cut p o s = by (is_cut s.asked) (is_done o) refl
  where
    by : (b d : Bool) → is_cut s.asked ≡ b → Calm s (if not b then s else if d then record s { asked = asked.Nothing; front = front.Whole } else failed p kept.CannotWrite s)
    by false d e = same s
    by true true e = idle s front.Whole s.course (λ k. (k, apart is_cut refl s.asked e))
    by true false e = calm_failed p kept.CannotWrite s

pub calm_renamed : (p : Policy) (o : Outcome) (s : State) → Calm s (state.renamed p o s)
calm_renamed p o s = by (is_rename s.asked) refl
  where
    rested : is_rename s.asked ≡ true → Calm s (record s { asked = asked.Nothing })
    rested e = idle s s.front s.course (λ k. (k, apart is_rename refl s.asked e))

    closed : (d : Bool) → Calm s (if d then over end.Closed s else failed p kept.CannotWrite s)
    closed true = calm_over end.Closed s
    closed false = calm_failed p kept.CannotWrite s

    renaming : (cause : KeptFault) (d : Bool)
        → Calm s (if d then over (end.Unkept cause left.Renamed) s else record s { asked = asked.Nothing; course = course.Spoiling cause })
    renaming cause true = calm_over (end.Unkept cause left.Renamed) s
    renaming cause false = ended s s.front (course.Spoiling cause) refl

    at : (c : Course) → is_rename s.asked ≡ true → Calm s (state.renamed_at p o c s)
    at course.GoesOn e = rested e
    at course.Closing e = closed (is_done o)
    at (course.Renaming cause) e = renaming cause (is_done o)
    at (course.Spoiling cause) e = rested e
    at (course.Emptying cause) e = rested e
    at (course.Over x) e = rested e

    by : (b : Bool) → is_rename s.asked ≡ b → Calm s (if b then state.renamed_at p o s.course s else s)
    by true e = at s.course e
    by false e = same s

pub calm_spoiled : (o : Outcome) (s : State) → Calm s (state.spoiled o s)
calm_spoiled o s = by (is_spoil s.asked) refl
  where
    rested : is_spoil s.asked ≡ true → Calm s (record s { asked = asked.Nothing })
    rested e = idle s s.front s.course (λ k. (k, apart is_spoil refl s.asked e))

    spoiling : (cause : KeptFault) (d : Bool)
        → Calm s (if d then over (end.Unkept cause left.Spoiled) s else record s { asked = asked.Nothing; course = course.Emptying cause })
    spoiling cause true = calm_over (end.Unkept cause left.Spoiled) s
    spoiling cause false = ended s s.front (course.Emptying cause) refl

    at : (c : Course) → is_spoil s.asked ≡ true → Calm s (state.spoiled_at o c s)
    at course.GoesOn e = rested e
    at course.Closing e = rested e
    at (course.Renaming cause) e = rested e
    at (course.Spoiling cause) e = spoiling cause (is_done o)
    at (course.Emptying cause) e = rested e
    at (course.Over x) e = rested e

    by : (b : Bool) → is_spoil s.asked ≡ b → Calm s (if b then state.spoiled_at o s.course s else s)
    by true e = at s.course e
    by false e = same s

pub calm_emptied : (o : Outcome) (s : State) → Calm s (state.emptied o s)
calm_emptied o s = by (is_empty s.asked) refl
  where
    rested : is_empty s.asked ≡ true → Calm s (record s { asked = asked.Nothing })
    rested e = idle s s.front s.course (λ k. (k, apart is_empty refl s.asked e))

    at : (c : Course) → is_empty s.asked ≡ true → Calm s (state.emptied_at o c s)
    at course.GoesOn e = rested e
    at course.Closing e = rested e
    at (course.Renaming cause) e = rested e
    at (course.Spoiling cause) e = rested e
    at (course.Emptying cause) e = calm_over (end.Unkept cause (if is_done o then left.Emptied else left.Stands)) s
    at (course.Over x) e = rested e

    by : (b : Bool) → is_empty s.asked ≡ b → Calm s (if b then state.emptied_at o s.course s else s)
    by true e = at s.course e
    by false e = same s

-- a Sync failed
pub calm_unsynced : (p : Policy) (s : State) → Calm s (unsynced p (record s { synced = None }))
calm_unsynced p s = by (is_kept s.course) refl
  where
    by : (b : Bool) → is_kept s.course ≡ b
        → Calm s (if b then record s { synced = None; course = failing p kept.CannotSync } else record s { synced = None })
    by true e = given p kept.CannotSync s None e (λ m h. absurd (none-some m h))
    by false e = record {
      written = refl;
      sent = refl;
      events = refl;
      kept = refl;
      sync_at = refl;
      synced = λ m h. absurd (none-some m h);
      alive = λ k. (k, refl);
      goes_on = λ k. absurd (false≢true (sym e ∙ k));
    }
