use Rattle.std.proofs.Common.{Option, Ok, subst}
use Rattle.floor_message.specs.Ask.{IsAnswer}
use Rattle.floor_message.specs.Binding.{binding_of}
use Rattle.floor_message.specs.declared.ask.Ask.{Ask}
use Rattle.floor_machine.specs.steps.Deciding.{heard}
use Rattle.floor_machine.proofs.Speaking.{heard-asks}
use Rattle.floor_machine.proofs.conference.State.decide.Goals as goal

pub decide_ask-requires : goal.decide_ask-requires
decide_ask-requires c =
    let bytes = c.args.frame.now in
    let n = c.args.sender.now.n in
    let b = binding_of record { conference = c.conference.result; user = c.args.sender.now.user; users = c.as_slice.result } in
    let P : Option Ask → Type 0 = λ o. IsAnswer (heard n bytes b) (Ok o) in
    c.what_is_asked_fits.ensures bytes b c.in-Ok-Some.ask (heard-asks n bytes b c.in-Ok-Some.ask (subst P c.in-Ok-Some.field-0-is c.in-Ok-Some.ensures.value))
