use Rattle.std.proofs.Common.{◌≡◌, ℕ, ◌+◌, List, ◌∷◌, ◌++◌, drop, subst}
use Rattle.floor_datagram.specs.Session.{message, messages_take}
use Rattle.floor_datagram.proofs.Reading.{front-message, after-more, down-more, sent-more}
use Rattle.floor_datagram.proofs.session.Session.take_all.Goals as goal

pub loop-message-preserved : goal.loop-message-preserved
loop-message-preserved c =
    let before = c.loop-message.invariant in
    let found = front-message c.deref-message-items.result.now c.loop-message.message-index c.message-item.result c.loop-message-test.true c.message-item.is in
    let front = subst (λ (l : List (List ℕ)). drop c.loop-message.message-index l ≡ c.message-item.result ∷ drop (c.loop-message.message-index + 1) l) c.deref-message-items.ensures.value found in (
      before.0 ++ (message c.loop-message.self c.args.now c.message-item.result).down,
      sent-more c.args.down.now.items c.loop-message.down.items c.message.new.down.items before.0 (message c.loop-message.self c.args.now c.message-item.result).down
          before.1 c.in_ok-message.ensures.down,
      after-more (messages_take c.args.self.now c.args.now c.args.messages.now.items).after c.loop-message.self c.message.new.self c.args.now
          (drop c.loop-message.message-index c.args.messages.now.items) (drop (c.loop-message.message-index + 1) c.args.messages.now.items) c.message-item.result
          before.2 front c.in_ok-message.ensures.after,
      down-more (messages_take c.args.self.now c.args.now c.args.messages.now.items).down before.0 c.loop-message.self c.message.new.self c.args.now
          (drop c.loop-message.message-index c.args.messages.now.items) (drop (c.loop-message.message-index + 1) c.args.messages.now.items) c.message-item.result
          before.3 front c.in_ok-message.ensures.after,
    )
