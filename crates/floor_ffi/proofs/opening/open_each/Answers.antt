use Rattle.std.proofs.Common.{◌∷◌, ◌++◌, [], List, refl, sym, ap, ◌∙◌, append_assoc, length-append, arith}
use Rattle.std.specs.Prelude.{Ok, Err}
use Rattle.std.specs.Vec.Iter.{into_iter_items}
use Rattle.floor_config.specs.Configuration.{Configuration}
use Rattle.floor_ffi.specs.Called.{Opening}
use Rattle.floor_ffi.specs.declared.outcome.Outcome.TheVariants.{Refused}
use Rattle.floor_ffi.proofs.Opens.{opening-is, opens-more, opens-until}
use Rattle.floor_ffi.proofs.opening.open_each.Goals as goal

pub loop-config-init : goal.loop-config-init
loop-config-init c = record { all = sym c.into_iter-config-iterator.ensures.into_iter_gives.0; opened = refl; opens = refl }

pub loop-config-preserved : goal.loop-config-preserved
loop-config-preserved c =
    let before = c.loop-config.invariant in
    let opening : Opening c.in-Some.config c.loop-config.hub c.open.new.self c.open.result = record {
      next = c.open.ensures.next;
      took = c.open.ensures.took;
      connections = c.open.ensures.connections;
      left = c.open.ensures.left;
      concerned = c.open.ensures.concerned;
      forgotten = c.open.ensures.forgotten;
    } in
    record {
      all = before.all
          ∙ ap (λ (cs : List Configuration). c.loop-config.yielded ++ cs) c.in-Some.ensures.steps.0
          ∙ sym (append_assoc c.loop-config.yielded (c.in-Some.config ∷ []) (into_iter_items c.next.new.self));
      opened = omega (arith, before.opened, length-append c.loop-config.yielded (c.in-Some.config ∷ []));
      opens = opens-more c.loop-config.yielded c.in-Some.config c.args.hub.now c.loop-config.hub c.open.new.self before.opens
          (opening-is c.in-Some.config c.loop-config.hub c.open.new.self c.open.result (Ok tt) c.in-Ok.is opening);
    }

pub returns-in-Err : goal.returns-in-Err
returns-in-Err c =
    let before = c.loop-config.invariant in
    let opening : Opening c.in-Some.config c.loop-config.hub c.open.new.self c.open.result = record {
      next = c.open.ensures.next;
      took = c.open.ensures.took;
      connections = c.open.ensures.connections;
      left = c.open.ensures.left;
      concerned = c.open.ensures.concerned;
      forgotten = c.open.ensures.forgotten;
    } in
    record {
      opens = (
        Refused c.in-Err.refusal,
        c.number.ensures.value,
        opens-until c.args.configs.items c.loop-config.yielded (into_iter_items c.next.new.self) c.in-Some.config c.args.hub.now c.loop-config.hub c.open.new.self c.in-Err.refusal c.loop-config.opened
            (before.all ∙ ap (λ (cs : List Configuration). c.loop-config.yielded ++ cs) c.in-Some.ensures.steps.0) before.opened before.opens
            (opening-is c.in-Some.config c.loop-config.hub c.open.new.self c.open.result (Err c.in-Err.refusal) c.in-Err.is opening),
      );
    }
