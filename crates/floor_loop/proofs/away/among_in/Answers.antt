use Rattle.std.proofs.Common.{false, nat_eq}
use Rattle.indexmap.specs.IndexMap.{get}
use Rattle.floor_loop.specs.Away.{is_stay_of}
use Rattle.floor_loop.proofs.Gathering.{among-more}
use Rattle.floor_loop.proofs.away.among_in.Goals as goal

pub loop-one-preserved : goal.loop-one-preserved
loop-one-preserved c =
    among-more (λ l. is_stay_of c.args.user (get nat_eq c.args.stays.now l.number)) c.args.live.now c.loop-one.one-index record { number = 0; n = 0; is_cut = false }
    c.loop-one.back.items c.put_if.new.back.items c.is_of.result c.loop-one-test.true c.loop-one.invariant c.is_of.ensures.value c.in_ok-put_if.ensures.next
