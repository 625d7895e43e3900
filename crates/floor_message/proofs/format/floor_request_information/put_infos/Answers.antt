use Rattle.floor_message.specs.Written.{info_attr}
use Rattle.floor_message.proofs.Puts.{put_more, writable_at}
use Rattle.floor_message.proofs.format.floor_request_information.put_infos.Goals as goal

pub put_info-requires-clause-writable : goal.put_info-requires-clause-writable
put_info-requires-clause-writable c =
    writable_at info_attr c.args.infos.now c.loop-info.info-index c.info-item.result c.info-item.result c.loop-info-test.true c.info-item.is c.requires.writable

pub loop-info-preserved : goal.loop-info-preserved
loop-info-preserved c =
    put_more info_attr c.args.infos.now c.loop-info.info-index c.info-item.result c.info-item.result c.args.out.now c.loop-info.out c.put_info.new.out c.loop-info-test.true c.info-item.is c.loop-info.invariant c.in_ok-put_info.ensures
