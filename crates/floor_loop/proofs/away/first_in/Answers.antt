use Rattle.std.proofs.Common.{◌≡◌, ◌+◌, ◌≤◌, suc, ap, arith, length, refl, subst, sym, ◌∙◌, Some, nat_eq}
use Rattle.std.specs.Prelude.{Option, IfSome}
use Rattle.indexmap.specs.IndexMap.{get}
use Rattle.floor_loop.specs.declared.line.Entry.{Entry}
use Rattle.floor_loop.specs.steps.Soonest.{end_of, sooner, soonest_to}
use Rattle.floor_loop.proofs.Soonest.{first-least, if-none-first, sooner-one}
use Rattle.floor_loop.proofs.away.first_in.Goals as goal

pub loop-place-init : goal.loop-place-init
loop-place-init c = record { is = refl; found = tt }

pub loop-place-preserved : goal.loop-place-preserved
loop-place-preserved c =
    let es = c.args.stays.now.entries in
    let next : suc c.loop-place.place ≡ c.loop-place.place + 1 = omega arith in
    record {
      is = c.sooner-first.ensures.value ∙ ap (λ (x : Option Entry). sooner x c.entry_at.result) c.loop-place.invariant.is ∙ ap (sooner (soonest_to es c.loop-place.place)) c.entry_at.ensures.value ∙ ap (soonest_to es) next;
      found = subst (λ (r : Option Entry). IfSome r (λ e. end_of (get nat_eq c.args.stays.now) e.number ≡ Some e.time)) (sym c.sooner-first.ensures.value)
          (sooner-one (λ e. end_of (get nat_eq c.args.stays.now) e.number ≡ Some e.time) c.loop-place.first c.entry_at.result c.loop-place.invariant.found c.entry_at.ensures.found);
    }

pub returns : goal.returns
returns c =
    let es = c.args.stays.now.entries in
    let all : length es ≤ c.loop-place.place = omega arith in
    record {
      found = c.loop-place.invariant.found;
      first = first-least c.loop-place.first es c.loop-place.place all c.loop-place.invariant.is;
      none = if-none-first c.loop-place.first es c.loop-place.place all c.loop-place.invariant.is;
    }
