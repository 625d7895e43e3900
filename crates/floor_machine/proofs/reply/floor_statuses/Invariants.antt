use Rattle.std.proofs.Common.{◌≡◌, take, map, Some}
use Rattle.std.specs.Prelude.{All}
use Rattle.floor_message.specs.Shown.{IsShown}
use Rattle.floor_message.specs.declared.tell.Tell.TheVariants.{FloorStatus}
use Rattle.floor_machine.specs.Reply.{infos_on}
use Rattle.floor_machine.proofs.reply.floor_statuses.Given as goal

abbrev pub invariant-loop-floor : goal.invariant-loop-floor
invariant-loop-floor l = record {
  value : l.tells.items ≡ map (λ floor. FloorStatus (Some floor) (infos_on floor l.now)) (take l.floor-index l.floors);
  shown : All IsShown l.tells.items;
}
