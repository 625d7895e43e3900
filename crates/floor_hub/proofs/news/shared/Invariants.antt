use Rattle.std.proofs.Common.{◌≡◌, take}
use Rattle.floor_hub.proofs.news.shared.Given as goal

-- so many stand there
abbrev pub invariant-loop-info : goal.invariant-loop-info
invariant-loop-info l = l.shared.items ≡ take l.info-index l.changed
