use Rattle.std.proofs.Common.{◌≡◌, ◌≤◌, length, take}
use Rattle.floor_poll.proofs.growth.copies_behind.Given as goal

-- so many are copied, and no bytes are counted where none is
abbrev pub invariant-loop-event : goal.invariant-loop-event
invariant-loop-event l = (l.events.items ≡ take l.event-index l.behind) × (length l.events.items ≤ 1000) × (l.event-index ≡ 0 → l.bytes ≡ 0)
