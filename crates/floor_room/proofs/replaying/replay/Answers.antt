use Rattle.std.proofs.Common.{◌≡◌, ◌<◌, ◌∙◌, length, take, ap, subst, arith}
use Rattle.std.proofs.lemmas.List.{take_all}
use Rattle.floor_machine.specs.Journal.{IsJournal}
use Rattle.std.specs.Prelude.{Err}
use Rattle.floor_room.specs.declared.replaying.StepFault.{StepFault}
use Rattle.floor_room.specs.Replay.{bytes_to}
use Rattle.floor_room.proofs.RunAgain.{bytes-Q, fault-at, run-few, run-more}
use Rattle.floor_room.proofs.replaying.replay.Goals as goal

pub step-requires-clause-few : goal.step-requires-clause-few
step-requires-clause-few c = run-few c.args.config.now (take c.loop-done.done c.args.events.now) c.loop-done.machine c.loop-done.invariant.next c.loop-done.invariant.journal

pub returns-in-Err-Unlawful-clause-fault : goal.returns-in-Err-Unlawful-clause-fault
returns-in-Err-Unlawful-clause-fault c =
    let within : c.loop-done.done < length c.args.events.now = omega arith in
    fault-at c.args.config.now c.args.events.now c.loop-done.done c.index-events-done.result c.loop-done.machine within c.index-events-done.is c.loop-done.invariant.journal c.loop-done.invariant.next
    (c.step.ensures.unlawful (c.in-Err-Unlawful.is ∙ ap (λ (f : StepFault). Err f) c.in-Err-Unlawful.field-0-is))

pub loop-done-preserved : goal.loop-done-preserved
loop-done-preserved c =
    let within : c.loop-done.done < length c.args.events.now = omega arith in
    let before = c.loop-done.invariant in
    let run = run-more c.args.config.now c.args.events.now c.loop-done.done c.index-events-done.result c.args.n c.loop-done.machine c.step.new.machine c.loop-done.bytes.items c.step.new.bytes.items
    within c.if-done-ge-MAX_EVENTS.false c.index-events-done.is (record { journal = before.journal; next = before.next; bytes_are = before.bytes })
    c.in-Ok.ensures.lawful c.in-Ok.ensures.next c.in-Ok.ensures.bytes in
    record { journal = run.journal; next = run.next; bytes = run.bytes_are }

pub returns-clause-value : goal.returns-clause-value
returns-clause-value c =
    let all : take c.loop-done.done c.args.events.now ≡ c.args.events.now = take_all c.loop-done.done c.args.events.now (omega arith) in
    c.loop-done.invariant.bytes
    ∙ ap (bytes_to c.args.n c.args.config.now) all
    ∙ bytes-Q c.args.config.now c.args.events.now c.args.n (subst (IsJournal c.args.config.now) all c.loop-done.invariant.journal)
