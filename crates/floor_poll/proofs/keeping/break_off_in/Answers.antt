use Rattle.std.proofs.Common.{ap, refl, subst, sym, ◌∙◌, nat_eq, Some}
use Rattle.std.specs.Prelude.{Option, IsSome}
use Rattle.std.specs.Option.{option_map}
use Rattle.indexmap.specs.IndexMap.{get}
use Rattle.floor_poll.specs.declared.places.Places.{Places}
use Rattle.floor_poll.specs.Told.{broken_off}
use Rattle.floor_poll.proofs.keeping.break_off_in.Goals as goal

pub returns-in-Some : goal.returns-in-Some
returns-in-Some c =
    let h = c.get_mut.follows.holds c.break_off.new.self in
    let is = c.in-Some.ensures.value in
    record {
      here = (h.3 (subst (λ (z : Option Places). IsSome z) is refl)).1
          ∙ ap (λ (z : Places). Some z) c.break_off.ensures.next
          ∙ ap (option_map broken_off) is;
    }

pub returns-in-None : goal.returns-in-None
returns-in-None c =
    let is = c.in-None.ensures.value in
    record { here = ap (λ m. get nat_eq m c.args.conference) c.get_mut.follows.holds-at-none ∙ sym is ∙ ap (option_map broken_off) is }
