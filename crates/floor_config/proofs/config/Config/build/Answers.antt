use Rattle.std.proofs.Common.{arith, ◌≤◌}
use Rattle.floor_config.proofs.Plain.{IsConfiguration-plain}
use Rattle.floor_config.proofs.config.Config.build.Goals as goal

pub of_parts-requires : goal.of_parts-requires
of_parts-requires c =
    let id : c.args.conference ≤ 4294967295 = omega arith in
    let most : c.args.limit ≤ 16 = omega arith in
    let least : 1 ≤ c.args.limit = omega arith in
    let conn_least : 1 ≤ c.args.connections = omega arith in
    let conn_most : c.args.connections ≤ 64 = omega arith in
    rw c.without_empty_texts-users.ensures
    (IsConfiguration-plain c.args.conference c.args.limit c.args.connections c.args.users c.args.floors id least most conn_least conn_most
    (rw c.as_slice.ensures at (c.users_fit.ensures.few c.if-not-users_fit.false))
    (rw c.as_slice.ensures at (c.users_fit.ensures.fits c.if-not-users_fit.false))
    (rw c.as_slice-2.ensures at (c.in_ok-has_double_user.ensures.differ c.if-branch.false))
    (rw c.as_slice-3.ensures at (c.floors_fit.ensures.few c.if-not-floors_fit.false))
    (rw c.as_slice-3.ensures at (c.floors_fit.ensures.fits c.if-not-floors_fit.false))
    (rw c.as_slice-4.ensures at (c.in_ok-has_double_floor.ensures.differ c.if-branch-2.false))
    (rw (c.are_known.ensures, c.as_slice-5.ensures, c.as_slice-6.ensures) at c.if-not-are_known.false))
