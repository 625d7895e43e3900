use Rattle.std.proofs.Common.{◌<◌, ap, arith, length}
use Rattle.floor_follow.specs.Following.{unlisted}
use Rattle.floor_follow.proofs.Loops.{set-map_front}
use Rattle.floor_follow.proofs.follower.begin_list.Goals as goal

pub loop-conference-preserved : goal.loop-conference-preserved
loop-conference-preserved c =
    let within : c.loop-conference.conference-index < length c.args.conferences.now.items = omega (arith, ap length c.deref_mut-conference-items.ensures.value) in
    let within_now : c.loop-conference.conference-index < length c.loop-conference.conference-items = omega arith in
    set-map_front unlisted c.args.conferences.now.items c.loop-conference.conference-items c.loop-conference.conference-index _ _ within within_now
    c.unlist.ensures.next c.loop-conference.invariant
