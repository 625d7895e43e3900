use Rattle.std.proofs.Common.{[]}
use Rattle.floor_claims.proofs.Calling.{led-both}
use Rattle.floor_claims.proofs.run.speak.Goals as goal

pub returns : goal.returns
returns c =
    let n = c.args.number in
    record {
      led = led-both n c.args.hub.now c.come.new.hub c.fill.new.hub [] [] c.in_ok-other.ensures.led
          (led-both n c.come.new.hub c.hand_in.new.hub c.fill.new.hub [] [] c.in_ok-hand_in.ensures.led c.in_ok-fill.ensures.led);
    }
