use Rattle.floor_hub.specs.declared.step.Step.TheVariants.{Say}
use Rattle.floor_loop.specs.Done.{AtMost}
use Rattle.floor_loop.specs.steps.Moved.{loop_of}
use Rattle.floor_loop.proofs.Calls.{moved-say}
use Rattle.floor_loop.proofs.Carrying.{carries-moved}
use Rattle.floor_loop.proofs.Moving.{fewer}
use Rattle.floor_loop.proofs.resuming.say.Goals as goal

pub returns : goal.returns
returns c =
    let old = loop_of c.args.hub.now c.args.attended.now in
    let new = loop_of c.say-said.new.self c.wake.new.attended in
    record {
      carries = carries-moved c.args.conference (AtMost 1 (Say c.args.conference c.args.user c.args.bytes.now)) old new
          (moved-say c.args.conference c.args.user c.args.bytes.now old new c.say-said.result c.say-said.ensures.next c.say-said.ensures.room c.say-said.ensures.connections c.say-said.ensures.concerned c.say-said.ensures.gathered c.wake.ensures.kept (fewer c.args.attended.now c.wake.new.attended c.wake.ensures.away) c.wake.ensures.woken);
    }
