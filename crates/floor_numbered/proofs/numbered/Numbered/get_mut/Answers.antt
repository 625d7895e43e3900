use Rattle.std.proofs.Common.{refl, subst, sym, ◌∙◌}
use Rattle.std.specs.Cmp.{nat_eq_equiv}
use Rattle.std.specs.List.{IsDistinct}
use Rattle.std.specs.Prelude.{nat_eq}
use Rattle.indexmap.proofs.CallerLemmas.{index_map_len-with_value_at, keys-with_value_at, updates-with_value_at}
use Rattle.floor_numbered.proofs.Placing.{changed-there, value-there}
use Rattle.floor_numbered.proofs.numbered.Numbered.get_mut.Goals as goal

pub returns-in-Some : goal.returns-in-Some
returns-in-Some g c =
    let m = c.self.inside.map in
    let i = c.in-Some.place in
    let number = c.args.number in
    let found = c.in-Some.ensures.found in
    let unique = c.get_index_mut.ensures.unique in
    let there = found.1 in
    rw (← c.self.view_is) (
      (
        refl,
        λ w. (
          changed-there m.entries i number found.0 unique there w,
          keys-with_value_at m i w,
          index_map_len-with_value_at m i w,
          (λ _. updates-with_value_at m i w nat_eq_equiv unique number found.0 there),
          subst (IsDistinct nat_eq) (sym (keys-with_value_at m i w)) unique,
          refl,
          refl,
        ),
        refl,
      ),
      record { writes_back = tt; value = c.get_index_mut.ensures.value ∙ value-there m.entries i number found.0 unique there },
    )
