use Rattle.std.proofs.Common.{List, Some, None, Ok, subst, sym}
use Rattle.std.proofs.lemmas.Option.{none-some}
use Rattle.floor_machine.specs.declared.machine.Refusal.TheVariants.{Memory}
use Rattle.floor_room.specs.declared.refusal.RoomRefusal.TheVariants.{Refused as ByMachine}
use Rattle.floor_hub.specs.declared.refusal.HubRefusal.TheVariants.{ByRoom}
use Rattle.floor_hub.specs.declared.connection.Place.{Place}
use Rattle.floor_hub.specs.declared.step.Answer.TheVariants.{Attached}
use Rattle.floor_hub.specs.declared.step.Step.TheVariants.{Attach}
use Rattle.floor_hub.specs.Rooms.{by_broken}
use Rattle.floor_hub.specs.steps.Running.{Goes}
use Rattle.floor_hub.proofs.Advancing.{attached, unattached, whole_one}
use Rattle.floor_hub.proofs.running.attach.Goals as goal

pub returns-in-Ok-push : goal.returns-in-Ok-push
returns-in-Ok-push c =
    let x = c.in-Some.ensures.found in
    subst (λ (ps : List Place). Goes c.args.hub.now c.attach.new.self c.args.places.now.items ps (Attach c.args.conference c.args.user) (Ok (Attached c.in-Ok.number)))
    (sym c.in-Ok-push.ensures.items)
    (attached c.args.hub.now c.attach.new.self c.args.conference c.args.user c.in-Ok.number c.in-Some.place c.args.places.now.items x.0 c.in-Ok.ensures.next
    (whole_one by_broken None _ c.args.conference c.args.hub.now c.attach.new.self c.in-Ok.ensures.room c.attach.ensures.forgotten (λ w. none-some (ByRoom (ByMachine Memory)) w)) x.1 x.2 x.3)

pub returns-in-Err : goal.returns-in-Err
returns-in-Err c =
    unattached c.args.hub.now c.attach.new.self (Attach c.args.conference c.args.user) c.in-Err.refusal c.refused.result c.args.places.now.items c.refused.ensures.value c.in-Err.ensures.next
    (whole_one by_broken (Some c.in-Err.refusal) _ c.args.conference c.args.hub.now c.attach.new.self c.in-Err.ensures.room c.attach.ensures.forgotten)
