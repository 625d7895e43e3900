use Rattle.std.proofs.Common.{ℕ, Option, ap, subst, ◌∙◌}
use Rattle.floor_machine.specs.declared.act.Act.TheVariants.{AddFloor}
use Rattle.floor_ffi.specs.Called.{Acting}
use Rattle.floor_ffi.specs.Numbers.{number_of}
use Rattle.floor_ffi.proofs.acting.add_floor.Goals as goal

pub returns : goal.returns
returns c =
    let P : Option ℕ → Type 0 = λ o. Acting c.args.conference (AddFloor record { id = c.args.id; room = c.args.room; chair = o }) c.args.hub.now c.admin.new.self c.admin.result in
    let acting : P c.chair_of-chair.result = record {
      next = c.admin.ensures.next;
      room = c.admin.ensures.room;
      connections = c.admin.ensures.connections;
      left = c.admin.ensures.left;
      concerned = c.admin.ensures.concerned;
      forgotten = c.admin.ensures.forgotten;
    } in
    record { gives = (c.admin.result, c.number.ensures.value ∙ ap number_of c.outcome_of.ensures.value, subst P c.chair_of-chair.ensures.value acting) }
