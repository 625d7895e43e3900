use Rattle.std.proofs.Common.{length}
use denote.Text.{Utf8}
use denote.Shadow.{shadow}
use Rattle.floor_kept.proofs.Bodies.{Read}
use Rattle.floor_kept.proofs.body.read_body.Given as goal

-- the lines before the rest are those of the entries
abbrev pub invariant-loop-line : goal.invariant-loop-line
invariant-loop-line l = shadow (Utf8 l.rest) × Read l.text l.entries.items l.rest l.place l.is_ended

abbrev pub decreases-loop-line : goal.decreases-loop-line
decreases-loop-line l = length l.rest
