use Rattle.std.proofs.Common.{◌≡◌, ◌≤◌, drop}
use Rattle.floor_hub.specs.Members.{user_of}
use Rattle.floor_hub.proofs.gathering.user_of.Given as goal

-- the events behind those that were read have so many Joins to go
abbrev pub invariant-loop-event : goal.invariant-loop-event
invariant-loop-event l = (1 ≤ l.left) × (user_of (drop l.event-index l.events) l.left ≡ user_of l.events l.n)
