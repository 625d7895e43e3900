use Rattle.std.proofs.Common.{◌∙◌, sym, ap}
use Rattle.std.proofs.lemmas.List.Edits.{map_over_more}
use Rattle.floor_config.specs.Building.{without_empty_texts}
use Rattle.floor_config.proofs.building.without_empty_texts.Goals as goal

pub loop-user-preserved : goal.loop-user-preserved
loop-user-preserved c =
    let within = rw (c.deref_mut-user-items.ensures.value, c.into_vec-items.ensures) at c.loop-user-test.true in
    rw (c.drop_empty_texts.ensures ∙ ap without_empty_texts (sym c.user-item.is))
    (map_over_more without_empty_texts c.args.users c.loop-user.user-items c.loop-user.user-index c.user-item.result within c.loop-user.invariant c.user-item.is)
