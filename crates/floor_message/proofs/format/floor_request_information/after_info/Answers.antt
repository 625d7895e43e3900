use Rattle.std.proofs.Common.{arith, refl, ◌∷◌, []}
use Rattle.floor_message.specs.Written.{info_attr, info_attrs}
use Rattle.floor_message.proofs.Rooms.{leaves_told, group_leaves, group_too_long}
use Rattle.floor_message.proofs.format.floor_request_information.after_info.Goals as goal

pub returns-in_err-left : goal.returns-in_err-left
returns-in_err-left c =
    let i = c.args.info.now in
    leaves_told (info_attr i ∷ []) c.args.room c.from_residual.result c.from_residual.ensures (group_too_long 15 i.request (info_attrs i) c.args.room c.in_err-left.ensures)

pub returns : goal.returns
returns c =
    let i = c.args.info.now in
    group_leaves 15 i.request (info_attrs i) c.args.room c.in_ok-left.left c.checked_sub.result (omega arith) refl (omega arith) c.in_ok-left.ensures c.checked_sub.ensures
