use Rattle.std.proofs.Common.{◌≡◌, ◌∙◌, sym, ap, true, get_or}
use Rattle.std.proofs.lemmas.List.Elements.{All-more}
use Rattle.floor_config.specs.declared.users.User.{User}
use Rattle.floor_config.specs.Configuration.{IsUser}
use Rattle.floor_config.specs.Building.{user_fits, without_empty_texts}
use Rattle.floor_config.proofs.Limits.{passes_more}
use Rattle.floor_config.proofs.building.all_users_fit.Goals as goal

pub loop-user-preserved : goal.loop-user-preserved
loop-user-preserved c =
    let one : user_fits (get_or c.args.users.now c.loop-user.user-index c.user-item.result) ≡ true =
    ap user_fits (sym c.user-item.is) ∙ (sym c.user_fits.ensures.value ∙ c.if-not-user_fits.false) in
    record {
      pass = passes_more user_fits c.args.users.now c.loop-user.user-index c.user-item.result c.loop-user-test.true c.loop-user.invariant.pass one;
      fits =
          All-more (λ (u : User). IsUser (without_empty_texts u)) c.args.users.now c.loop-user.user-index c.user-item.result c.loop-user-test.true c.loop-user.invariant.fits
          (rw (sym c.user-item.is) (c.user_fits.ensures.fits c.if-not-user_fits.false));
    }
