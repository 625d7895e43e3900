use Rattle.std.proofs.Common.{◌≤◌, ◌+◌, ◌++◌, List, drop, arith, length, refl, ap, subst, sym, ◌∙◌}
use Rattle.std.proofs.Common.{drop_of_length-le}
use Rattle.floor_hub.specs.declared.connection.Place.{Place}
use Rattle.floor_hub.specs.declared.step.Answer.{Answer}
use Rattle.floor_hub.specs.steps.Running.{IsRunning}
use Rattle.floor_hub.specs.World.{turn, nothing}
use Rattle.floor_hub.specs.Runs.{answers, run}
use Rattle.floor_hub.proofs.GoesOn.{ends, goes_on, item_next, runs_on}
use Rattle.floor_hub.proofs.Advancing.{starts}
use Rattle.floor_hub.proofs.running.run.Goals as goal

pub loop-item-init : goal.loop-item-init
loop-item-init c = (
  nothing,
  subst (λ (ps : List Place). IsRunning c.new-hub.result ps nothing) (sym c.new-places.ensures.items) (starts c.new-hub.result c.new-hub.ensures.value c.new-hub.ensures.remembered),
  ap (λ (xs : List Answer). xs ++ answers nothing c.args.steps.now) c.new-answers.ensures.items,
  refl,
)

pub loop-item-preserved : goal.loop-item-preserved
loop-item-preserved c =
    let w = c.loop-item.invariant.0 in
    let t = c.in_ok-answer.ensures w c.loop-item.invariant.1 in
    let next = item_next c.args.steps.now c.loop-item.item-index c.item-item.result c.item-item.is (omega arith) in (
      (turn w c.item-item.result).world,
      t.0,
      rw c.in-Ok.ensures.items (goes_on w c.loop-item.answers.items (answers nothing c.args.steps.now) (drop c.loop-item.item-index c.args.steps.now) (drop (c.loop-item.item-index + 1) c.args.steps.now)
          c.item-item.result c.in_ok-answer.answer next t.1 c.loop-item.invariant.2),
      runs_on w (run nothing c.args.steps.now) (drop c.loop-item.item-index c.args.steps.now) (drop (c.loop-item.item-index + 1) c.args.steps.now) c.item-item.result next c.loop-item.invariant.3,
    )

pub returns-in-Ok-entries : goal.returns-in-Ok-entries
returns-in-Ok-entries c =
    let w = c.loop-item.invariant.0 in
    let past : length c.args.steps.now ≤ c.loop-item.item-index = omega arith in
    let e = ends c.args.steps.now (drop c.loop-item.item-index c.args.steps.now) w c.loop-item.answers.items c.in-Ok-entries.queued.items (drop_of_length-le c.args.steps.now past)
    c.loop-item.invariant.2 c.loop-item.invariant.3 (c.in-Ok-entries.ensures.value w (subst (λ (ps : List Place). IsRunning c.loop-item.hub ps c.loop-item.invariant.0) (sym c.deref.ensures.value) c.loop-item.invariant.1)) in
    record { value = record { answers = c.from_vec.ensures ∙ e.0; queued = c.from_vec-in-Ok-entries.ensures ∙ e.1 } }
