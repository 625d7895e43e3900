use Rattle.std.proofs.Common.{◌≡◌, ◌+◌, ◌∷◌, ◌++◌, List, drop, subst, ap, ◌∙◌, eq-eqb, arith}
use Rattle.floor_datagram.specs.Fragments.{joined, payload_of, head_of}
use Rattle.floor_datagram.specs.declared.fragments.Range.{Range}
use Rattle.floor_datagram.proofs.Joining.{joined-more, written-more, front-range}
use Rattle.floor_datagram.proofs.fragments.join.Goals as goal

pub loop-range-preserved : goal.loop-range-preserved
loop-range-preserved c =
    let before = c.loop-range.invariant in
    let begins : c.range-item.result.offset ≡ c.loop-range.at = omega arith in
    let front = front-range c.deref-range-items.result.now c.loop-range.range-index c.range-item.result c.loop-range-test.true c.range-item.is in
    let ends : c.from-in-loop-range.result + c.from-in-loop-range-2.result ≡ c.range-item.result.offset + c.range-item.result.units = omega arith in (
      before.0 ++ c.range-item.result.body,
      written-more (head_of c.args.fragment.now) before.0 c.loop-range.message.items c.extend_from_slice-in-loop-range.new.self.items c.range-item.result.body
          before.1 (c.in_ok-extend_from_slice-2.ensures.items ∙ ap (λ l. c.loop-range.message.items ++ l) c.as_slice.ensures),
      joined-more c.loop-range.at (payload_of c.args.fragment.now) (c.from-in-loop-range.result + c.from-in-loop-range-2.result)
          (joined 0 (payload_of c.args.fragment.now) c.args.ranges.now.items)
          before.0 (drop c.loop-range.range-index c.args.ranges.now.items) c.range-item.result (drop (c.loop-range.range-index + 1) c.args.ranges.now.items)
          before.2 (subst (λ (l : List Range). drop c.loop-range.range-index l ≡ c.range-item.result ∷ drop (c.loop-range.range-index + 1) l) c.deref-range-items.ensures.value front)
          (eq-eqb c.range-item.result.offset c.loop-range.at begins) ends,
    )
