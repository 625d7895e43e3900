use Rattle.std.proofs.Common.{[]}
use Rattle.floor_claims.specs.steps.Led.{Led}
use Rattle.floor_claims.proofs.Calling.{led-both, on-ok-of}
use Rattle.floor_claims.proofs.run.leave_and_return.Goals as goal

pub returns : goal.returns
returns c =
    let n = c.args.number in
    let a = c.args.hub.now in
    let e = c.fill.new.hub in
    let gone = led-both n a c.lose.new.hub c.drop_waiting.new.hub [] [] c.in_ok-lose.ensures.led c.in_ok-drop_waiting.ensures.led in
    let back = led-both n a c.drop_waiting.new.hub c.come.new.hub [] [] gone c.in_ok-_again.ensures.led in
    record { led = on-ok-of (Led n c.come.new.hub e []) (Led n a e []) c.fill.result (λ f. led-both n a c.come.new.hub e [] [] back f) c.fill.ensures.led }
