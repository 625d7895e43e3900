use Rattle.std.proofs.Common.{Some, map}
use Rattle.floor_message.specs.Written.{info_attr}
use Rattle.floor_message.proofs.Rooms.{leaves_more, leaves_stopped, leaves_told}
use Rattle.floor_message.proofs.format.floor_request_information.after_infos.Goals as goal

pub returns-in_err-left : goal.returns-in_err-left
returns-in_err-left c = leaves_told (map info_attr c.args.infos.now) c.args.room c.from_residual.result c.from_residual.ensures
    (leaves_stopped info_attr c.args.infos.now c.loop-info.info-index c.info-item.result c.info-item.result c.args.room c.loop-info.left c.loop-info-test.true c.info-item.is c.loop-info.invariant c.in_err-left.ensures)

pub loop-info-preserved : goal.loop-info-preserved
loop-info-preserved c =
    leaves_more info_attr c.args.infos.now c.loop-info.info-index c.info-item.result c.info-item.result c.args.room c.loop-info.left (Some c.in_ok-left.left) c.loop-info-test.true c.info-item.is c.loop-info.invariant c.in_ok-left.ensures
