use Rattle.std.proofs.Common.{◌≡◌, length}
use denote.Text.{Utf8}
use denote.Shadow.{shadow}
use Rattle.floor_words.specs.Words.{words}
use Rattle.floor_follow.specs.Row.{requests, no_part}
use Rattle.floor_follow.proofs.row.requests.Given as goal

-- what the rest says behind the facts that were read is what the whole says
abbrev pub invariant-words : goal.invariant-words
invariant-words l = shadow (Utf8 l.rest) × (requests l.floor l.part l.facts (words l.rest) ≡ requests l.fn.floor no_part l.fn.first (words l.fn.text))

abbrev pub decreases-words : goal.decreases-words
decreases-words l = length (words l.rest)
