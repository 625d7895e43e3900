use Rattle.std.proofs.Common.{◌++◌, List, ap, ◌∙◌}
use Rattle.floor_script.specs.declared.waiting.Taken.{Taken}
use Rattle.floor_script.proofs.Emptying.{due_none, due_some, empties_one}
use Rattle.floor_script.proofs.waiting.take_fast.Goals as goal

pub returns-then-parcels-eq0 : goal.returns-then-parcels-eq0
returns-then-parcels-eq0 c = record {
  took = empties_one c.args.conference c.args.connection c.in_ok-parcels.parcels _ _ _ _ _ _ c.status-status.ensures.kept c.in_ok-parcels.ensures.took
      (due_none c.args.connection c.in_ok-parcels.parcels c.args.taken.now.items c.if-parcels-eq0.true);
}

pub returns : goal.returns
returns c = record {
  took = empties_one c.args.conference c.args.connection c.in_ok-parcels.parcels _ _ _ _ _ _ c.status-status.ensures.kept c.in_ok-parcels.ensures.took
      (c.in_ok-push.ensures.items ∙ ap (λ (l : List Taken). c.args.taken.now.items ++ l) (due_some c.args.connection c.in_ok-parcels.parcels c.if-parcels-eq0.false));
}
