use Rattle.std.proofs.Common.{◌≡◌, ◌<◌, ◌≤◌, ℕ, ◌+◌, List, Option, Some, drop, length, nat_eq, ap, arith, sym, subst, ◌∙◌, inl, inr}
use Rattle.std.specs.Prelude.{◌⊎◌, IfSome}
use Rattle.std.specs.Map.{lookup}
use Rattle.std.proofs.lemmas.Bool.{false≢true}
use Rattle.floor_keeping.specs.Kept.{KeptFile}
use Rattle.floor_keeping.specs.Table.{IsBy}
use Rattle.floor_keeping.specs.declared.state.State.{State}
use Rattle.floor_keeping.proofs.Listing.{look-end, soonest-goes}
use Rattle.floor_keeping.proofs.turn.soonest_in.Goals.{in-Some, in_default}
use Rattle.floor_keeping.proofs.turn.soonest_in.Goals as goal

-- what was taken into account up to this place
abbrev Counts : List (ℕ × KeptFile) → ℕ → ℕ → Option ℕ → Type 0
Counts files now i soonest =
    IfSome soonest (λ at. now < at) ×
    ((c t : ℕ) (f : KeptFile) → lookup (nat_eq c) files ≡ Some f → f.state.sync_at ≡ Some t → now < t → IsBy t soonest ⊎ (lookup (nat_eq c) (drop i files) ≡ Some f))

pub loop-index-preserved : goal.loop-index-preserved
loop-index-preserved c = elim c.match-get_index.branch [
  | in-Some w ↦
      subst (Counts c.args.files.now.entries c.args.now (c.loop-index.index + 1)) (sym w.soonest-is) (
        w.sooner-soonest.ensures.later c.loop-index.invariant.0,
        soonest-goes c.args.now w.in-Some._conference.now c.loop-index.index w.in-Some.file.now c.args.files.now.entries c.loop-index.soonest w.sooner-soonest.result (sym w.in-Some.ensures.entry)
            w.sooner-soonest.ensures.one
            (λ t is late. w.sooner-soonest.ensures.other t (ap (λ (s : State). s.sync_at) w.state.ensures.value ∙ is) late)
            c.loop-index.invariant.1,
      )
  | in_default w ↦ (let len = c.len-index-end.ensures.len in let within = c.loop-index-test.true in absurd (false≢true (w.in_default.ensures.found.1 (omega (arith, len, within)))))
]

pub returns-clause-first : goal.returns-clause-first
returns-clause-first c = λ k t f at is late. by k t f (c.loop-index.invariant.1 k t f at is late)
  where
    by : (k t : ℕ) (f : KeptFile) → (IsBy t c.loop-index.soonest) ⊎ (lookup (nat_eq k) (drop c.loop-index.index c.args.files.now.entries) ≡ Some f) → IsBy t c.loop-index.soonest
    by k t f (inl b) = b
    by k t f (inr e) =
        let behind : length c.args.files.now.entries ≤ c.loop-index.index = (let len = c.len-index-end.ensures.len in let end = c.loop-index-test.false in omega (arith, len, end)) in
        absurd (look-end k c.loop-index.index f c.args.files.now.entries behind e)

pub returns-clause-later : goal.returns-clause-later
returns-clause-later c = c.loop-index.invariant.0
