use Rattle.std.proofs.Common.{◌≡◌, ℕ, ◌+◌, ◌-◌, ◌<◌, length, drop, map, subst, arith}
use Rattle.floor_machine.specs.Change.{decided_at}
use Rattle.floor_machine.proofs.Verdicts.{words-begun, words-next}
use Rattle.floor_machine.proofs.change.chair_action.set_words.Goals as goal

pub loop-place-init : goal.loop-place-init
loop-place-init c = (c.requires, λ k all. words-begun c.args.requests.now c.args.request k c.args.verdicts.now (omega arith))

pub loop-place-preserved : goal.loop-place-preserved
loop-place-preserved c =
    let q = c.args.requests.now in
    let vs = c.args.verdicts.now in
    let at : ℕ = length vs - 1 - c.loop-place.place in (
      λ i d within. c.set_floor.ensures.still c.args.request _ (c.loop-place.invariant.0 i d within),
      λ k left.
          let here : at ≡ k = omega arith in
          let within : at < length vs = omega arith in
          let P : ℕ → Type 0 = λ j. c.set_floor.new.self ≡ record q { ongoing = map (decided_at c.args.request (drop j vs)) q.ongoing } in
          subst P here
          (words-next q c.loop-place.requests c.set_floor.new.self c.args.request vs at _ c.word_of.result within (c.loop-place.invariant.1 (at + 1) (omega arith)) c.word_of.ensures c.set_floor.ensures.next),
    )

pub returns : goal.returns
returns c = c.loop-place.invariant.1 0 (omega arith)
