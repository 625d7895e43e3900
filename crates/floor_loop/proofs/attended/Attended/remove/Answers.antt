use Rattle.std.proofs.Common.{◌≡◌, ◌≤◌, ℕ, List, subst, sym, nat_eq}
use Rattle.indexmap.specs.IndexMap.{swap_remove_entry}
use Rattle.floor_loop.specs.declared.outgoing.Mark.{Mark}
use Rattle.floor_loop.specs.declared.outgoing.Mark.TheVariants.{Ready, Ends, Fails}
use Rattle.floor_loop.specs.Loop.{Outgoing}
use Rattle.floor_loop.specs.steps.Listed.{deadline, places}
use Rattle.floor_loop.proofs.Listing.{listed-removed, places-removed}
use Rattle.floor_loop.proofs.attended.Attended.remove.Goals as goal

fewer : (mark : Mark) (number : ℕ) (es fs : List (ℕ × Outgoing)) → fs ≡ swap_remove_entry (nat_eq number) es → places mark fs ≤ places mark es
fewer mark number es fs next = subst (λ (z : List (ℕ × Outgoing)). places mark z ≤ places mark es) (sym next) (places-removed mark (nat_eq number) es)

pub invariant_of-self : goal.invariant_of-self
invariant_of-self c =
    let es = c.self.inside.outgoing.entries in
    let fs = c.swap_remove-gone.new.self.entries in
    let gone = c.swap_remove-gone.ensures.updates.1 in
    let others = c.swap_remove-gone.ensures.updates.2 in
    record {
      ready = listed-removed Ready es fs c.args.number c.self.inside.time c.self.inside.ready gone others (fewer Ready c.args.number es fs c.swap_remove-gone.ensures.entries) c.self.invariant.ready;
      ending = listed-removed Ends es fs c.args.number (deadline c.self.inside.time) c.self.inside.ending gone others (fewer Ends c.args.number es fs c.swap_remove-gone.ensures.entries) c.self.invariant.ending;
      failed = listed-removed Fails es fs c.args.number c.self.inside.time c.self.inside.failed gone others (fewer Fails c.args.number es fs c.swap_remove-gone.ensures.entries) c.self.invariant.failed;
    }
