use Rattle.floor_hub.specs.Rooms.{refusal_in}
use Rattle.floor_hub.specs.Calls.{Fails}
use Rattle.floor_hub.specs.declared.step.Step.TheVariants.{Say}
use Rattle.floor_hub.specs.declared.step.Answer.TheVariants.{Said}
use Rattle.floor_hub.proofs.Advancing.{fails, further, whole_one}
use Rattle.floor_hub.proofs.running.say.Goals as goal

pub returns : goal.returns
returns c =
    λ places. further c.args.hub.now c.say.new.self (Say c.args.conference c.args.user c.args.message.now) (λ v. Said v)
    (λ w. Fails c.say.new.self w (Say c.args.conference c.args.user c.args.message.now)) c.say.result c.said.result places (λ v. tt) c.said.ensures.value c.say.ensures.next
    (λ w. fails c.say.new.self w (Say c.args.conference c.args.user c.args.message.now)) (whole_one _ (refusal_in c.say.result) _ c.args.conference c.args.hub.now c.say.new.self c.say.ensures.room c.say.ensures.forgotten)
