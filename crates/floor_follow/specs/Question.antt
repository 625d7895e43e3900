-- What is asked at the control socket, by its lines.
use Rattle.std.specs.Prelude.{ℕ, List, ◌++◌, codes, Some}
use Rattle.floor_control.specs.Laws.{printed}
use Rattle.floor_control.specs.declared.line.Line.{Line}
use Rattle.floor_control.specs.declared.line.Line.TheVariants as Asks
use Rattle.floor_follow.specs.declared.question.Question.{Question}
use Rattle.floor_follow.specs.declared.question.Question.TheVariants.{List as Listing, Floors, Users, Members, Words, Watch}

-- what the server reads it as
abbrev pub asked : Question → Line
asked Listing = Asks.List
asked (Floors c) = Asks.Floors c
asked (Users c) = Asks.Users c
asked (Members c) = Asks.Members c
asked (Words c) = Asks.Words c
asked (Watch c from) = Asks.Watch c (Some from)

-- its line, which the server reads back (floor_control)
abbrev pub question_line : Question → List ℕ
question_line q = printed (asked q) ++ codes "\n"
