use Rattle.std.proofs.Common.{◌≡◌, ℕ, List, Some, subst, ap}
use Rattle.floor_message.specs.Head.{response_head}
use Rattle.floor_machine.specs.declared.decision.Decision.{Decision}
use Rattle.floor_machine.specs.declared.decision.Sender.{Sender}
use Rattle.floor_machine.specs.declared.event.Event.TheVariants.{Message}
use Rattle.floor_machine.specs.Conference.{Conference, user_of}
use Rattle.floor_machine.specs.Machine.{Machine}
use Rattle.floor_machine.specs.steps.Deciding.{IsDecided, IsMessageOf}
use Rattle.floor_machine.specs.steps.Serving.{conference_of}
use Rattle.floor_machine.proofs.Tried.{whole_of-free}
use Rattle.floor_machine.proofs.machine.Machine.take_message.Goals as goal

-- the message is one of this sender
message-of : (s : Conference) (n : ℕ) (bytes : List ℕ) (w : Sender) → w ≡ record { n = Some n; user = user_of s n; head = response_head bytes } → IsMessageOf s (Message n bytes) w bytes
message-of s n bytes w is d decided =
    let D : Sender → Type 0 = λ x. IsDecided s x.n x.user bytes d in
    (ap (λ (x : Sender). Some x) is, subst D is decided)

pub take_sent-requires-clause-whole : goal.take_sent-requires-clause-whole
take_sent-requires-clause-whole c = whole_of-free c.args.self.now (Message c.args.n c.args.frame.now) c.requires.free

pub returns-in-Ok : goal.returns-in-Ok
returns-in-Ok c =
    let w : Sender = c.sender-sender.result in
    let is : conference_of c.self.inside.state ≡ c.args.self.now.conference = ap (λ (x : Machine). x.conference) c.self.view_is in
    let E : Conference → Type 0 = λ x. w ≡ record { n = Some c.args.n; user = user_of x c.args.n; head = response_head c.args.frame.now } in
    record {
      tried = c.in-Ok.ensures.tried (Message c.args.n c.args.frame.now)
          (message-of c.args.self.now.conference c.args.n c.args.frame.now w (subst E is c.sender-sender.ensures)) c.bytes-bytes.ensures.kept c.requires.free;
    }

pub returns-in-Err : goal.returns-in-Err
returns-in-Err c =
    let w : Sender = c.sender-sender.result in
    let is : conference_of c.self.inside.state ≡ c.args.self.now.conference = ap (λ (x : Machine). x.conference) c.self.view_is in
    let E : Conference → Type 0 = λ x. w ≡ record { n = Some c.args.n; user = user_of x c.args.n; head = response_head c.args.frame.now } in
    record {
      tried = c.in-Err.ensures.tried (Message c.args.n c.args.frame.now)
          (message-of c.args.self.now.conference c.args.n c.args.frame.now w (subst E is c.sender-sender.ensures)) c.bytes-bytes.ensures.kept c.requires.free;
    }
