use Rattle.std.proofs.Common.{◌≡◌, false, sym, ◌∙◌, ap, arith, length}
use Rattle.std.specs.Prelude.{◌==◌}
use Rattle.std.proofs.lemmas.Bool.Decides.{nat_tests}
use Rattle.floor_wire.specs.Seen.{attr_seen}
use Rattle.floor_message.proofs.Reasons.{named_by_others, named_by_other_floors}
use Rattle.floor_message.proofs.format.status_info.is_named.Goals as goal

pub loop-left-preserved-else-floor-named : goal.loop-left-preserved-else-floor-named
loop-left-preserved-else-floor-named c =
    let other : (c.args.floor == c.in-Some-group_of.named) ≡ false = grind (arith, nat_tests) in
    record {
      named = named_by_other_floors c.args.floor c.loop-left.left c.loop-left.rest c.next.new.self (attr_seen c.in-Some.attr) _ c.loop-left-test.true c.in-Some.ensures (sym c.in-Some-group_of.ensures) other
          ∙ c.loop-left.invariant.named;
      fewer = omega (arith, c.loop-left.invariant.fewer, ap length c.in-Some.ensures, c.loop-left-test.true);
    }

pub loop-left-preserved : goal.loop-left-preserved
loop-left-preserved c = record {
  named = named_by_others c.args.floor c.loop-left.left c.loop-left.rest c.next.new.self (attr_seen c.in-Some.attr) c.loop-left-test.true c.in-Some.ensures (sym c.in_default-group_of.ensures)
      ∙ c.loop-left.invariant.named;
  fewer = omega (arith, c.loop-left.invariant.fewer, ap length c.in-Some.ensures, c.loop-left-test.true);
}
