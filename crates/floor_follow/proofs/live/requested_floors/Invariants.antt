use Rattle.std.proofs.Common.{◌≡◌, [], length}
use denote.Text.{Utf8}
use denote.Shadow.{shadow}
use Rattle.floor_words.specs.Words.{words}
use Rattle.floor_follow.specs.Live.{floors_of}
use Rattle.floor_follow.proofs.live.requested_floors.Given as goal

-- what the rest says behind the facts that were read is what the whole says
abbrev pub invariant-floors : goal.invariant-floors
invariant-floors l = shadow (Utf8 l.rest) × (floors_of l.head l.facts (words l.rest) ≡ floors_of l.head [] (words l.text))

abbrev pub decreases-floors : goal.decreases-floors
decreases-floors l = length (words l.rest)
