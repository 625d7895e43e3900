use Rattle.std.proofs.Common.{subst, ℕ}
use Rattle.std.specs.Prelude.{OnOk, Result}
use Rattle.floor_hub.specs.Rooms.{Opens}
use Rattle.floor_hub.specs.declared.refusal.HubRefusal.{HubRefusal}
use Rattle.floor_hub.specs.declared.step.Step.TheVariants.{Open}
use Rattle.floor_loop.specs.Done.{AtMost}
use Rattle.floor_loop.specs.Loop.{outgoing_in}
use Rattle.floor_loop.specs.declared.resuming.ResumeRefusal.{ResumeRefusal}
use Rattle.floor_loop.specs.steps.Carried.{Carries}
use Rattle.floor_loop.specs.steps.Moved.{loop_of}
use Rattle.floor_loop.specs.steps.Replayed.{HasJournal}
use Rattle.floor_loop.proofs.Calls.{moved-open}
use Rattle.floor_loop.proofs.Carrying.{carries-both, carries-moved}
use Rattle.floor_loop.proofs.Resumed.{resumed-is}
use Rattle.floor_loop.proofs.Stepping.{keeps-refl}
use Rattle.floor_loop.proofs.resuming.resume.Goals as goal

pub returns-in-Err : goal.returns-in-Err
returns-in-Err c =
    let old = loop_of c.args.hub.now c.args.attended.now in
    let mid = loop_of c.open.new.self c.args.attended.now in
    let opened = carries-moved c.args.config.conference (AtMost 1 (Open c.args.config)) old mid (moved-open c.args.config old mid c.open.result c.open.ensures.next c.open.ensures.took c.open.ensures.connections c.open.ensures.left c.open.ensures.gathered (keeps-refl (outgoing_in c.args.attended.now)) (λ k s is. is)) in
    record { carries = opened; resumed = λ l. tt }

pub returns-in-Ok-replay_whole : goal.returns-in-Ok-replay_whole
returns-in-Ok-replay_whole c =
    let old = loop_of c.args.hub.now c.args.attended.now in
    let mid = loop_of c.open.new.self c.args.attended.now in
    let new = loop_of c.replay_whole.new.hub c.replay_whole.new.attended in
    let opened = carries-moved c.args.config.conference (AtMost 1 (Open c.args.config)) old mid (moved-open c.args.config old mid c.open.result c.open.ensures.next c.open.ensures.took c.open.ensures.connections c.open.ensures.left c.open.ensures.gathered (keeps-refl (outgoing_in c.args.attended.now)) (λ k s is. is)) in
    let opens : Opens c.args.config c.args.hub.now c.open.new.self = subst (λ (z : Result (Unit {0}) HubRefusal). OnOk z (Opens c.args.config c.args.hub.now c.open.new.self)) c.in-Ok.is c.open.ensures.took in
    let found : HasJournal c.replay_whole.new.hub c.conference-conference.result c.args.events.now =
    subst (λ (z : Result (Unit {0}) ResumeRefusal). OnOk z (HasJournal c.replay_whole.new.hub c.conference-conference.result c.args.events.now)) c.in-Ok-replay_whole.is c.replay_whole.ensures.found in
    record {
      carries = carries-both c.args.config.conference old mid new opened (subst (λ (n : ℕ). Carries n (loop_of c.open.new.self c.args.attended.now) (loop_of c.replay_whole.new.hub c.replay_whole.new.attended)) c.conference-conference.ensures.value c.replay_whole.ensures.carries);
      resumed = λ l.
          let was = opened.loop l in
          resumed-is c.open.new.self c.replay_whole.new.hub was.world c.args.config c.args.events.now was.stands opens.room c.replay_whole.ensures.carries.steps (subst (λ (n : ℕ). HasJournal c.replay_whole.new.hub n c.args.events.now) c.conference-conference.ensures.value found);
    }

pub returns-in-Err-replay_whole : goal.returns-in-Err-replay_whole
returns-in-Err-replay_whole c =
    let old = loop_of c.args.hub.now c.args.attended.now in
    let mid = loop_of c.open.new.self c.args.attended.now in
    let opened = carries-moved c.args.config.conference (AtMost 1 (Open c.args.config)) old mid (moved-open c.args.config old mid c.open.result c.open.ensures.next c.open.ensures.took c.open.ensures.connections c.open.ensures.left c.open.ensures.gathered (keeps-refl (outgoing_in c.args.attended.now)) (λ k s is. is)) in
    let ran = loop_of c.replay_whole.new.hub c.replay_whole.new.attended in
    record { carries = carries-both c.args.config.conference old ran (loop_of c.give_up.new.hub c.give_up.new.attended) (carries-both c.args.config.conference old mid ran opened (subst (λ (n : ℕ). Carries n (loop_of c.open.new.self c.args.attended.now) (loop_of c.replay_whole.new.hub c.replay_whole.new.attended)) c.conference-conference.ensures.value c.replay_whole.ensures.carries)) (subst (λ (n : ℕ). Carries n (loop_of c.replay_whole.new.hub c.replay_whole.new.attended) (loop_of c.give_up.new.hub c.give_up.new.attended)) c.conference-conference.ensures.value c.give_up.ensures.carries); resumed = λ l. tt }
