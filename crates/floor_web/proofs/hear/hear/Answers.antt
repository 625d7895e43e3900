use Rattle.std.proofs.Common.{ℕ, List, None, Some, subst}
use Rattle.std.specs.Prelude.{option_map}
use Rattle.websocket.specs.Connection.{Connection, read_step}
use Rattle.websocket.specs.declared.protocol.frame.codec.FrameStatus.TheVariants.{Complete}
use Rattle.websocket.specs.Content.{received_content}
use Rattle.websocket.specs.View.{Returns, ReadLeaves}
use Rattle.floor_web.specs.steps.Hearing.{Carries}
use Rattle.floor_web.proofs.Turns.{turn_takes, turn_ends, can_close}
use Rattle.floor_web.proofs.hear.hear.Goals as goal

pub returns-in-None : goal.returns-in-None
returns-in-None c =
    let returns = subst (λ (conn : Connection). Returns (read_step conn c.args.unread.now.items) c.read_frame.new.unread.items (Complete c.in-Ok-Complete.step)) c.requires (rw c.in-Ok-Complete.field-0-is at c.in-Ok-Complete.ensures.returns) in
    let leaves = subst (λ (conn : Connection). ReadLeaves (read_step conn c.args.unread.now.items) conn c.read_frame.new.context c.args.down.now.items c.read_frame.new.down.items) c.requires c.in-Ok-Complete.ensures.leaves in
    let carries = subst (λ (l : List ℕ). Carries (option_map (received_content l) c.in-Ok-Complete.step.message) c.args.up.now.items c.carry.new.up.items None) c.as_slice.ensures c.in-None.ensures in
    turn_takes c.args.unread.now.items c.read_frame.new.unread.items c.advance.new.self.items c.in-Ok-Complete.step c.read_frame.new.context
    c.args.up.now.items c.carry.new.up.items c.args.down.now.items c.read_frame.new.down.items returns leaves (rw c.in-Ok-Complete.field-0-is at c.in-Ok-Complete.ensures.keeps_rest) carries c.advance.ensures.items

pub close-requires : goal.close-requires
close-requires c =
    let returns = subst (λ (conn : Connection). Returns (read_step conn c.args.unread.now.items) c.read_frame.new.unread.items (Complete c.in-Ok-Complete.step)) c.requires (rw c.in-Ok-Complete.field-0-is at c.in-Ok-Complete.ensures.returns) in
    let leaves = subst (λ (conn : Connection). ReadLeaves (read_step conn c.args.unread.now.items) conn c.read_frame.new.context c.args.down.now.items c.read_frame.new.down.items) c.requires c.in-Ok-Complete.ensures.leaves in
    let carries = subst (λ (l : List ℕ). Carries (option_map (received_content l) c.in-Ok-Complete.step.message) c.args.up.now.items c.carry.new.up.items (Some c.in-Some.end)) c.as_slice.ensures c.in-Some.ensures in
    can_close c.args.unread.now.items c.read_frame.new.unread.items c.in-Ok-Complete.step c.read_frame.new.context
    c.args.up.now.items c.carry.new.up.items c.args.down.now.items c.read_frame.new.down.items c.in-Some.end returns leaves carries

pub returns-in-Ok-Complete : goal.returns-in-Ok-Complete
returns-in-Ok-Complete c =
    let returns = subst (λ (conn : Connection). Returns (read_step conn c.args.unread.now.items) c.read_frame.new.unread.items (Complete c.in-Ok-Complete.step)) c.requires (rw c.in-Ok-Complete.field-0-is at c.in-Ok-Complete.ensures.returns) in
    let leaves = subst (λ (conn : Connection). ReadLeaves (read_step conn c.args.unread.now.items) conn c.read_frame.new.context c.args.down.now.items c.read_frame.new.down.items) c.requires c.in-Ok-Complete.ensures.leaves in
    let carries = subst (λ (l : List ℕ). Carries (option_map (received_content l) c.in-Ok-Complete.step.message) c.args.up.now.items c.carry.new.up.items (Some c.in-Some.end)) c.as_slice.ensures c.in-Some.ensures in
    turn_ends c.args.unread.now.items c.read_frame.new.unread.items c.in-Ok-Complete.step c.read_frame.new.context
    c.args.up.now.items c.carry.new.up.items c.args.down.now.items c.read_frame.new.down.items c.close.new.down.items c.in-Some.end c.close.result returns leaves carries c.close.ensures

pub advance-requires : goal.advance-requires
advance-requires c =
    let keep = rw c.in-Ok-Complete.field-0-is at c.in-Ok-Complete.ensures.keeps_rest in
    rw c.read_frame.ensures.same_len keep.0
