use Rattle.std.proofs.Common.{nat_eq}
use Rattle.indexmap.specs.IndexMap.{get}
use Rattle.floor_keeping.proofs.Listing.{waking-begins, waking-ends, waking-goes}
use Rattle.floor_keeping.proofs.turn.wake_in.Goals as goal

pub loop-conference-init : goal.loop-conference-init
loop-conference-init c = λ before time was past on h. waking-begins c.args.policy before time was c.args.now (get nat_eq c.args.files.now) c.args.line.now past on h

pub loop-conference-preserved : goal.loop-conference-preserved
loop-conference-preserved c = λ before time was past on h.
    let first = c.in-Some.ensures.first in
    waking-goes c.args.policy time was c.args.now c.in-Some.conference first.0 (get nat_eq c.args.files.now) c.loop-conference.line c.next_woken.new.self c.stand_in.new.line first.1 first.2 first.3
    c.in-Some.ensures.left.0 c.in-Some.ensures.left.1 c.stand_in.ensures.here c.stand_in.ensures.others c.stand_in.ensures.short c.stand_in.ensures.wakings
    (c.loop-conference.invariant before time was past on h)

pub returns : goal.returns
returns c = record {
  listed = λ before time was past on h.
      waking-ends c.args.policy time was c.args.now (get nat_eq c.args.files.now) c.loop-conference.line c.next_woken.new.self past c.in_default.ensures.none.0 c.in_default.ensures.none.1
      (c.loop-conference.invariant before time was past on h);
}
