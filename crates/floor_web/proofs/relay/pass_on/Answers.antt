use Rattle.std.proofs.Common.{ℕ, List, ◌++◌, ap, ◌∙◌}
use Rattle.floor_web.specs.Frames.{frame_of, data_frame}
use Rattle.floor_web.proofs.Telling.{passing-more, passes_all}
use Rattle.floor_web.proofs.relay.pass_on.Goals as goal

pub loop-message-preserved-else-not-pass_one : goal.loop-message-preserved-else-not-pass_one
loop-message-preserved-else-not-pass_one c =
    let found = rw c.in-Ok-Some.field-0-is at c.in-Ok-Some.ensures.found in
    passing-more c.loop-message.context c.pass_one.new.context c.args.held.now c.loop-message.held c.next.new.self c.args.down.now.items c.loop-message.down.items c.pass_one.new.down.items c.in-Ok-Some.message
    c.loop-message.invariant found.0 c.in-Ok-Some.ensures.rest c.pass_one.ensures.context
    (c.pass_one.ensures.sent c.if-not-pass_one.false ∙ ap (λ (l : List ℕ). c.loop-message.down.items ++ frame_of (data_frame l)) c.bytes.ensures.value)

pub loop-message-preserved : goal.loop-message-preserved
loop-message-preserved c =
    let found = rw c.in-Ok-Some.field-0-is at c.in-Ok-Some.ensures.found in
    passing-more c.loop-message.context c.pass_one.new.context c.args.held.now c.loop-message.held c.next.new.self c.args.down.now.items c.loop-message.down.items c.pass_one.new.down.items c.in-Ok-Some.message
    c.loop-message.invariant found.0 c.in-Ok-Some.ensures.rest c.pass_one.ensures.context
    (c.pass_one.ensures.sent c.if-not-pass_one.false ∙ ap (λ (l : List ℕ). c.loop-message.down.items ++ frame_of (data_frame l)) c.bytes.ensures.value)

pub returns-in-Ok-None : goal.returns-in-Ok-None
returns-in-Ok-None c =
    let found = rw c.in-Ok-None.field-0-is at c.in-Ok-None.ensures.found in
    passes_all c.loop-message.context c.args.held.now c.loop-message.held c.next.new.self c.args.down.now.items c.loop-message.down.items c.loop-message.invariant
    found.0 found.1
