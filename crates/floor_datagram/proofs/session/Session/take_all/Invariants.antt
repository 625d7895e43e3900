use Rattle.std.proofs.Common.{◌≡◌, List, ℕ, ◌++◌, drop}
use Rattle.floor_datagram.specs.Session.{messages_take}
use Rattle.floor_datagram.proofs.session.Session.take_all.Given as goal

abbrev pub invariant-loop-message : goal.invariant-loop-message
invariant-loop-message l = (sent : List (List ℕ))
    × (l.down.items ≡ l.initial.down.items ++ sent)
    × ((messages_take l.initial.self l.now l.messages.items).after ≡ (messages_take l.self l.now (drop l.message-index l.messages.items)).after)
    × ((messages_take l.initial.self l.now l.messages.items).down ≡ sent ++ (messages_take l.self l.now (drop l.message-index l.messages.items)).down)
