use Rattle.std.proofs.Common.{◌≡◌, ℕ, List, Some, None, ap}
use Rattle.floor_message.specs.Head.{response_head}
use Rattle.floor_message.specs.declared.head.Head.{Head}
use Rattle.floor_machine.specs.declared.decision.Sender.{Sender}
use Rattle.floor_machine.specs.declared.event.Event.TheVariants.{Say}
use Rattle.floor_machine.specs.Conference.{Conference}
use Rattle.floor_machine.specs.steps.Deciding.{IsMessageOf}
use Rattle.floor_machine.proofs.Tried.{whole_of-free}
use Rattle.floor_machine.proofs.machine.Machine.take_said.Goals as goal

-- who says a message for this user, under this head
abbrev speaker : ℕ → Head → Sender
speaker user head = record { n = None; user = user; head = head }

-- the message is one of nobody's
said-of : (s : Conference) (user : ℕ) (bytes : List ℕ) (head : Head) → head ≡ response_head bytes → IsMessageOf s (Say user bytes) (speaker user head) bytes
said-of s user bytes head is d decided = (ap (λ (h : Head). Some (speaker user h)) is, decided)

pub take_sent-requires-clause-whole : goal.take_sent-requires-clause-whole
take_sent-requires-clause-whole c = whole_of-free c.args.self.now (Say c.args.user c.args.frame.now) c.requires.free

pub returns-clause-tried : goal.returns-clause-tried
returns-clause-tried c =
    c.take_sent.ensures.tried (Say c.args.user c.args.frame.now)
    (said-of c.args.self.now.conference c.args.user c.args.frame.now c.response.result c.response.ensures) c.bytes-bytes.ensures.kept c.requires.free

pub returns-clause-said : goal.returns-clause-said
returns-clause-said c =
    c.take_sent.ensures.said (Say c.args.user c.args.frame.now)
    (said-of c.args.self.now.conference c.args.user c.args.frame.now c.response.result c.response.ensures)
