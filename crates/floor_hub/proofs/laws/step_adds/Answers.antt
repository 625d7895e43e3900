use Rattle.floor_hub.proofs.Idle.{idle_stays}
use Rattle.floor_hub.proofs.Sent.{configuration_stays, step_adds}
use Rattle.floor_hub.proofs.laws.step_adds.Goals as goal

pub returns : goal.returns
returns c = record { events = step_adds; configuration = configuration_stays; idle = idle_stays }
