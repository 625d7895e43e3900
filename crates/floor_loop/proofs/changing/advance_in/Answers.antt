use Rattle.std.proofs.Common.{ap, drop, sym, ◌∙◌}
use Rattle.std.specs.Prelude.{Option, option_and_then}
use Rattle.floor_loop.specs.Loop.{Outgoing}
use Rattle.floor_loop.specs.steps.Changed.{whole_of, wrote_of}
use Rattle.floor_loop.proofs.Altering.{changed-is, changed-none}
use Rattle.floor_loop.proofs.changing.advance_in.Goals as goal

pub advance-requires : goal.advance-requires
advance-requires c = c.requires c.in-Some.one.now (sym c.in-Some.ensures.value)

pub returns-in-Some : goal.returns-in-Some
returns-in-Some c =
    let h = c.get_mut.follows.holds c.advance.new.self in
    record {
      next = h.0 ∙ changed-is (wrote_of c.args.count) c.args.number c.args.outgoing.now.entries c.in-Some.one.now c.advance.new.self (sym c.in-Some.ensures.value) c.advance.ensures.next;
      value = c.advance.ensures.value ∙ ap (λ (z : Option Outgoing). option_and_then (λ o. whole_of (drop c.args.count o.rest) o.parcels) z) c.in-Some.ensures.value;
    }

pub returns-in-None : goal.returns-in-None
returns-in-None c =
    record {
      next = ap (λ m. m.entries) c.get_mut.follows.holds-at-none ∙ sym (changed-none (wrote_of c.args.count) c.args.number c.args.outgoing.now.entries (sym c.in-None.ensures.value));
      value = ap (λ (z : Option Outgoing). option_and_then (λ o. whole_of (drop c.args.count o.rest) o.parcels) z) c.in-None.ensures.value;
    }
