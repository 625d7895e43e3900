use Rattle.std.proofs.Common.{ap, false, sym, ◌∙◌}
use Rattle.std.specs.Prelude.{Option, is_none}
use Rattle.std.specs.Option.{option_map_or}
use Rattle.floor_loop.specs.Loop.{Outgoing}
use Rattle.floor_loop.specs.steps.Changed.{mark_of, marked}
use Rattle.floor_loop.proofs.Altering.{changed-is, changed-none}
use Rattle.floor_loop.proofs.changing.mark_in.Goals as goal

pub returns-in-Some : goal.returns-in-Some
returns-in-Some c =
    let h = c.get_mut.follows.holds c.set.new.self in
    record {
      next = h.0 ∙ changed-is (marked c.args.mark c.args.time) c.args.number c.args.outgoing.now.entries c.in-Some.one.now c.set.new.self (sym c.in-Some.ensures.value) c.set.ensures.next;
      value = c.set.ensures.value ∙ ap (λ (z : Option Outgoing). option_map_or (λ o. is_none (mark_of c.args.mark o)) z false) c.in-Some.ensures.value;
    }

pub returns-in-None : goal.returns-in-None
returns-in-None c =
    record {
      next = ap (λ m. m.entries) c.get_mut.follows.holds-at-none ∙ sym (changed-none (marked c.args.mark c.args.time) c.args.number c.args.outgoing.now.entries (sym c.in-None.ensures.value));
      value = ap (λ (z : Option Outgoing). option_map_or (λ o. is_none (mark_of c.args.mark o)) z false) c.in-None.ensures.value;
    }
