use Rattle.std.proofs.Common.{◌≡◌, ◌<◌, length, false}
use Rattle.floor_config.specs.Lookup.{is_user}
use Rattle.floor_config.proofs.KeptAfter.{kept_user}
use Rattle.floor_config.proofs.config.Config.user_fault.Goals as goal

pub returns-clause-kept : goal.returns-clause-kept
returns-clause-kept c =
    let room : length c.args.self.now.users < 256 = rw c.users.ensures.value at c.if-users-ge-MAX_USERS.false in
    let free : is_user c.args.self.now c.args.user.now.id ≡ false = rw c.is_user.ensures.value at c.if-is_user.false in
    λ none. kept_user c.args.self.now c.args.user.now c.users.ensures.kept (c.user_is_within.ensures.fits c.if-not-user_is_within.false) room free
