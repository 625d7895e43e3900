use Rattle.std.proofs.Common.{◌≡◌, true}
use Rattle.floor_config.specs.Limits.{is_known}
use Rattle.floor_config.proofs.KeptAfter.{kept_chair}
use Rattle.floor_config.proofs.config.Config.chair_fault.Goals as goal

pub returns-clause-kept : goal.returns-clause-kept
returns-clause-kept c =
    let known : is_known c.args.self.now.users c.args.chair ≡ true = rw (c.is_known.ensures, c.users.ensures.value) at c.if-not-is_known.false in
    λ none. kept_chair c.args.self.now c.args.floor c.args.chair c.floors.ensures.kept known
