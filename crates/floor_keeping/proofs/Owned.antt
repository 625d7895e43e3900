-- A conference's file is what its own steps make of it.
use Rattle.std.proofs.Common.{◌≡◌, ◌≢◌, ℕ, Bool, true, false, List, [], ◌∷◌, ◌++◌, length, refl, sym, ◌∙◌, ap, subst, inl, inr}
use Rattle.std.specs.Prelude.{◌⊎◌, ◌||◌, nat_eq, Option, Some, None, is_some}
use Rattle.std.specs.Option.{option_map}
use Rattle.std.proofs.lemmas.Bool.{false≢true}
use Rattle.std.proofs.lemmas.Bool.Decides.{eqb_tells}
use Rattle.std.proofs.lemmas.Option.{none-some}
use Rattle.floor_machine.specs.declared.event.Event.{Event}
use Rattle.floor_kept.specs.Laws.{Turn}
use Rattle.floor_keeping.specs.Calls.{Call, Calls, Begin, Resume, Put, Close, Answered, Read, Next, Other, DoesFiles, begin_it, begins_it, of_conference, of_it, step_of, steps_of}
use Rattle.floor_keeping.specs.Deeds.{conference_of, deed_of, end_of}
use Rattle.floor_keeping.specs.Files.{Files, file_at, until_at}
use Rattle.floor_keeping.specs.Kept.{KeptFile, ask, asked_of, changed, close, put}
use Rattle.floor_keeping.specs.Laws.{EachFileIsItsOwn}
use Rattle.floor_keeping.specs.Runs.{Past, Step, begun, last_turn, putting, step, steps}
use Rattle.floor_keeping.specs.Runs as one
use Rattle.floor_keeping.specs.State.{is_open}
use Rattle.floor_keeping.specs.Table.{Asks, AsksOf, SameFiles, SameOthers, Took, left_by}
use Rattle.floor_keeping.specs.declared.deed.Deed.{Deed}
use Rattle.floor_keeping.specs.declared.kept.Change.{Change}
use Rattle.floor_keeping.specs.declared.policy.Policy.{Policy}
use Rattle.floor_keeping.specs.declared.state.Asked.{Asked}
use Rattle.floor_keeping.specs.declared.state.Asked.TheVariants as asked
use Rattle.floor_keeping.specs.declared.state.Course.{Course}
use Rattle.floor_keeping.specs.declared.state.Course.TheVariants as course
use Rattle.floor_keeping.specs.declared.state.State.{State}

some-same : (f g : KeptFile) → Some f ≡ Some g → f ≡ g
some-same f g e = ap (λ (o : Option KeptFile). or o) e
  where
    or : Option KeptFile → KeptFile
    or None = f
    or (Some x) = x

number-same : (a b : ℕ) → Some a ≡ Some b → a ≡ b
number-same a b e = ap (λ (o : Option ℕ). or o) e
  where
    or : Option ℕ → ℕ
    or None = a
    or (Some x) = x

deed-same : (d e : Deed) → Some d ≡ Some e → d ≡ e
deed-same d e h = ap (λ (o : Option Deed). or o) h
  where
    or : Option Deed → Deed
    or None = d
    or (Some x) = x

steps-both : (p : Policy) (xs ys : List Step) (past : Past) → steps p (xs ++ ys) past ≡ steps p ys (steps p xs past)
steps-both p [] ys past = refl
steps-both p (x ∷ xs) ys past = steps-both p xs ys (step p x past)

-- by a call a file became this, by these steps
record Becomes (p : Policy) (ss : List Step) (before : Option KeptFile) (g : KeptFile) : Type 0 where
  pub file : KeptFile
  pub there : before ≡ Some file
  pub are : (past : Past) → past.file ≡ file → (steps p ss past).file ≡ g

stays : (p : Policy) (before after : Option KeptFile) (g : KeptFile) → after ≡ before → after ≡ Some g → Becomes p [] before g
stays p before after g same is = record { file = g; there = sym same ∙ is; are = λ past e. e }

-- of a step of one conference's
of_other : (p : Policy) (k c : ℕ) (s : Step) (old new : ℕ → Option KeptFile) (g : KeptFile) → SameOthers k old new → new c ≡ Some g → (nat_eq k c ≡ true → k ≡ c → Becomes p (s ∷ []) (old c) g)
    → Becomes p (of_it (nat_eq k c) s) (old c) g
of_other p k c s old new g others is mine = by (eqb_tells k c)
  where
    by : (((nat_eq k c ≡ true) × (k ≡ c)) ⊎ ((nat_eq k c ≡ false) × (k ≢ c))) → Becomes p (of_it (nat_eq k c) s) (old c) g
    by (inl u) = subst (λ (b : Bool). Becomes p (of_it b s) (old c) g) (sym u.0) (mine u.0 u.1)
    by (inr u) = subst (λ (b : Bool). Becomes p (of_it b s) (old c) g) (sym u.0) (stays p (old c) (new c) g (others c u.0) is)

-- what was put
open-file : (t : Turn) (f : KeptFile) (past : Past) → is_open past.file.state.course ≡ true → (putting t f past).file ≡ f
open-file t f past e = rw e refl

put-becomes : (p : Policy) (k c : ℕ) (t : Turn) (old new : ℕ → Option KeptFile) (g : KeptFile) → Took (put t.journal t.notes) (length t.journal) old new k → new c ≡ Some g → Becomes p (of_it (nat_eq k c) (one.Put t)) (old c) g
put-becomes p k c t old new g took is = of_other p k c (one.Put t) old new g took.others is (λ e same. record {
  file = took.file;
  there = ap (λ (i : ℕ). old i) (sym same) ∙ took.there;
  are = λ past h.
      open-file t (put t.journal t.notes past.file) past (ap (λ (f : KeptFile). is_open f.state.course) h ∙ took.opened)
      ∙ ap (λ (f : KeptFile). put t.journal t.notes f) h
      ∙ some-same (put t.journal t.notes took.file) g (sym took.here ∙ ap (λ (i : ℕ). new i) same ∙ is);
})

close-becomes : (p : Policy) (k c : ℕ) (journal : List Event) (old new : ℕ → Option KeptFile) (g : KeptFile) → Took (close journal) (length journal) old new k → new c ≡ Some g → Becomes p (of_it (nat_eq k c) (one.Close journal)) (old c) g
close-becomes p k c journal old new g took is = of_other p k c (one.Close journal) old new g took.others is (λ e same. record {
  file = took.file;
  there = ap (λ (i : ℕ). old i) (sym same) ∙ took.there;
  are = λ past h.
      open-file (last_turn journal) (close journal past.file) past (ap (λ (f : KeptFile). is_open f.state.course) h ∙ took.opened)
      ∙ ap (λ (f : KeptFile). close journal f) h
      ∙ some-same (close journal took.file) g (sym took.here ∙ ap (λ (i : ℕ). new i) same ∙ is);
})

-- what was answered
answered-file : (p : Policy) (now : ℕ) (ch : Change) (o : Option KeptFile) (g : KeptFile) → option_map (changed p now ch) o ≡ Some g → Becomes p (one.Answered now ch ∷ []) o g
answered-file p now ch None g e = absurd (none-some g e)
answered-file p now ch (Some f) g e = record {
  file = f;
  there = refl;
  are = λ past h. ap (λ (x : KeptFile). changed p now ch x) h ∙ some-same (changed p now ch f) g e;
}

answered-becomes : (p : Policy) (now k c : ℕ) (ch : Change) (old new : ℕ → Option KeptFile) (g : KeptFile) → new k ≡ option_map (changed p now ch) (old k) → SameOthers k old new → new c ≡ Some g
    → Becomes p (of_it (nat_eq k c) (one.Answered now ch)) (old c) g
answered-becomes p now k c ch old new g here others is = of_other p k c (one.Answered now ch) old new g others is
    (λ e same. answered-file p now ch (old c) g (sym (subst (λ (i : ℕ). new i ≡ option_map (changed p now ch) (old i)) same here) ∙ is))

-- what was asked
of-end : (k : ℕ) (c : Course) (d : Deed) → end_of k c ≡ Some d → conference_of d ≡ Some k
of-end k course.GoesOn d e = absurd (none-some d e)
of-end k course.Closing d e = absurd (none-some d e)
of-end k (course.Renaming cause) d e = absurd (none-some d e)
of-end k (course.Spoiling cause) d e = absurd (none-some d e)
of-end k (course.Emptying cause) d e = absurd (none-some d e)
of-end k (course.Over x) d e = sym (ap (λ (y : Deed). conference_of y) (deed-same _ d e))

of-deed : (k : ℕ) (a : Asked) (s : State) (d : Deed) → deed_of k a s ≡ Some d → conference_of d ≡ Some k
of-deed k asked.Nothing s d e = absurd (none-some d e)
of-deed k asked.Begin s d e = sym (ap (λ (y : Deed). conference_of y) (deed-same _ d e))
of-deed k asked.Cut s d e = sym (ap (λ (y : Deed). conference_of y) (deed-same _ d e))
of-deed k asked.Append s d e = sym (ap (λ (y : Deed). conference_of y) (deed-same _ d e))
of-deed k asked.Sync s d e = sym (ap (λ (y : Deed). conference_of y) (deed-same _ d e))
of-deed k asked.Rename s d e = sym (ap (λ (y : Deed). conference_of y) (deed-same _ d e))
of-deed k asked.Spoil s d e = sym (ap (λ (y : Deed). conference_of y) (deed-same _ d e))
of-deed k asked.Empty s d e = sym (ap (λ (y : Deed). conference_of y) (deed-same _ d e))
of-deed k asked.Report s d e = sym (ap (λ (y : Deed). conference_of y) (deed-same _ d e))
of-deed k asked.End s d e = of-end k s.course d e

left-asked : (a : Asked) (f g : KeptFile) → left_by a f ≡ Some g → ask a f ≡ g
left-asked asked.Nothing f g e = some-same f g e
left-asked asked.Begin f g e = some-same (ask asked.Begin f) g e
left-asked asked.Cut f g e = some-same (ask asked.Cut f) g e
left-asked asked.Append f g e = some-same (ask asked.Append f) g e
left-asked asked.Sync f g e = some-same (ask asked.Sync f) g e
left-asked asked.Rename f g e = some-same (ask asked.Rename f) g e
left-asked asked.Spoil f g e = some-same (ask asked.Spoil f) g e
left-asked asked.Empty f g e = some-same (ask asked.Empty f) g e
left-asked asked.Report f g e = some-same (ask asked.Report f) g e
left-asked asked.End f g e = absurd (none-some g e)

asked-becomes : (p : Policy) (c now k : ℕ) (d : Deed) (old new : ℕ → Option KeptFile) (g : KeptFile) → AsksOf p now old new k d → new c ≡ Some g → Becomes p (of_it (nat_eq k c) (one.Next now)) (old c) g
asked-becomes p c now k d old new g a is = of_other p k c (one.Next now) old new g a.others is (λ e same. record {
  file = a.file;
  there = ap (λ (i : ℕ). old i) (sym same) ∙ a.there;
  are = λ past h.
      ap (λ (f : KeptFile). ask (asked_of p now f) f) h
      ∙ left-asked (asked_of p now a.file) a.file g (sym a.here ∙ ap (λ (i : ℕ). new i) same ∙ is);
})

next-becomes : (p : Policy) (c now : ℕ) (d : Deed) (old new : ℕ → Option KeptFile) (g : KeptFile) → (is_some (conference_of d) ≡ true → Asks p now old new d) → (conference_of d ≡ None → SameFiles old new) → new c ≡ Some g
    → Becomes p (of_conference c (one.Next now) (conference_of d)) (old c) g
next-becomes p c now d old new g asks same is = by (conference_of d) refl
  where
    by : (o : Option ℕ) → conference_of d ≡ o → Becomes p (of_conference c (one.Next now) o) (old c) g
    by None e = stays p (old c) (new c) g (same e c) is
    by (Some k) e =
        let a = asks (ap (λ (o : Option ℕ). is_some o) e) in
        let its : a.0 ≡ k = number-same a.0 k (sym (of-deed a.0 (asked_of p now a.1.file) a.1.file.state d a.1.asked) ∙ e) in
        subst (λ (i : ℕ). Becomes p (of_it (nat_eq i c) (one.Next now)) (old c) g) its (asked-becomes p c now a.0 d old new g a.1 is)

other-file : (p : Policy) (k c : ℕ) (old new : ℕ → Option KeptFile) (g : KeptFile) → SameOthers k old new → nat_eq k c ≡ false → new c ≡ Some g → Becomes p [] (old c) g
other-file p k c old new g others e is = stays p (old c) (new c) g (others c e) is

-- by each call
becomes : (p : Policy) (c : ℕ) (call : Call) (old new : Files) (g : KeptFile) → DoesFiles p call old new → begins_it c call ≡ false → file_at new c ≡ Some g → Becomes p (step_of c old call) (file_at old c) g
becomes p c (Begin k head) old new g does not_it is = other-file p k c (file_at old) (file_at new) g does.1 not_it is
becomes p c (Resume standing) old new g does not_it is = other-file p standing.conference c (file_at old) (file_at new) g does.1 not_it is
becomes p c (Put k turn) old new g does not_it is = put-becomes p k c turn (file_at old) (file_at new) g does is
becomes p c (Close k journal) old new g does not_it is = close-becomes p k c journal (file_at old) (file_at new) g does is
becomes p c (Answered k ch) old new g does not_it is = answered-becomes p old.table.time k c ch (file_at old) (file_at new) g does.0 does.1 is
becomes p c (Read number) old new g does not_it is = stays p (file_at old c) (file_at new c) g (does c) is
becomes p c (Next now (Some d)) old new g does not_it is = next-becomes p c (until_at now old) d (file_at old) (file_at new) g does.0 does.1 is
becomes p c (Next now None) old new g does not_it is = stays p (file_at old c) (file_at new c) g (does.0 c) is
becomes p c Other old new g does not_it is = stays p (file_at old c) (file_at new c) g (does c) is

pub same-policy : (calls : List Call) (first last : Files) → Calls calls first last → last.table.policy ≡ first.table.policy
same-policy [] first last run = ap (λ (f : Files). f.table.policy) run
same-policy (call ∷ earlier) first last run = run.2.0 ∙ same-policy earlier first run.0 run.1

or-false : (a b : Bool) → (a || b) ≡ false → (a ≡ false) × (b ≡ false)
or-false true b e = absurd (false≢true (sym e))
or-false false b e = (refl, e)

pub law : EachFileIsItsOwn
law c f g [] first last run is not_it there = sym (some-same f g (sym is ∙ ap (λ (x : Files). file_at x c) (sym run) ∙ there))
law c f g (call ∷ earlier) first last run is not_it there =
    let apart = or-false (begins_it c call) (begin_it c earlier) not_it in
    let does : DoesFiles first.table.policy call run.0 last = subst (λ (p : Policy). DoesFiles p call run.0 last) (same-policy earlier first run.0 run.1) run.2.1 in
    let b = becomes first.table.policy c call run.0 last g does apart.0 there in
    let before = law c f b.file earlier first run.0 run.1 is apart.1 b.there in
    sym (ap (λ (x : Past). x.file) (steps-both first.table.policy (steps_of c earlier first run.0 run.1) (step_of c run.0 call) (begun f))
    ∙ b.are (steps first.table.policy (steps_of c earlier first run.0 run.1) (begun f)) (sym before))
