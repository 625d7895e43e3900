-- What a call of the hub has done to the worlds that it stands for.
use Rattle.std.specs.Prelude.{◌≡◌, ◌⊎◌}
use Rattle.floor_hub.specs.declared.step.Served.{Served}
use Rattle.floor_machine.specs.declared.machine.Refusal.TheVariants.{Memory, Broken}
use Rattle.floor_room.specs.declared.refusal.RoomRefusal.TheVariants.{Refused as ByMachine}
use Rattle.floor_hub.specs.declared.refusal.HubRefusal.{HubRefusal}
use Rattle.floor_hub.specs.declared.refusal.HubRefusal.TheVariants.{ByRoom, Memory as NoMemory}
use Rattle.floor_hub.specs.Hub.{Hub}
use Rattle.floor_hub.specs.declared.step.Step.{Step}
use Rattle.floor_hub.specs.declared.step.Answer.{Answer}
use Rattle.floor_hub.specs.declared.step.Answer.TheVariants.{Nothing, Refused, Served as HasServed}
use Rattle.floor_hub.specs.World.{IsIdle, World, turn}
use Rattle.floor_hub.specs.StandsFor.{StandsFor}

-- it was the step of the world, with this answer
abbrev pub Turns : Hub → World → Step → Answer → Type 0
Turns new w s answer = StandsFor new (turn w s).world × ((turn w s).answer ≡ answer)

-- memory was refused in the room, for a step that the world does: one that it refuses, or by which it finds no message, wants none; or
-- the room was broken before
abbrev pub IsWant : Answer → HubRefusal → Type 0
IsWant answer r = ((r ≡ ByRoom (ByMachine Memory)) × (¬ IsIdle answer)) ⊎ (r ≡ ByRoom (ByMachine Broken))

-- the room is broken, now or before, and of it nothing is said; or the step is refused so
abbrev pub Fails : Hub → World → Step → HubRefusal → Type 0
Fails new w s r = (IsWant (turn w s).answer r × StandsFor new w) ⊎ Turns new w s (Refused r)

-- memory was refused for a step that the world does, and nothing has changed; or the step is refused so
abbrev pub FailsSame : Hub → World → Step → HubRefusal → Type 0
FailsSame new w s r = (((r ≡ NoMemory) × (¬ IsIdle (turn w s).answer)) × StandsFor new w) ⊎ Turns new w s (Refused r)

-- what serving is answered by
abbrev pub answer_of : Served → Answer
answer_of Served.Nothing = Nothing
answer_of Served.Message = HasServed

-- memory was refused for a step that the world does: the connection is gone, and the room is broken; or the step is refused so
abbrev pub FailsGone : Hub → World → Step → HubRefusal → Type 0
FailsGone new w s r = (((r ≡ ByRoom (ByMachine Memory)) × (¬ IsIdle (turn w s).answer)) × StandsFor new (turn w s).world) ⊎ Turns new w s (Refused r)
