-- How far the server is.
use Rattle.std.specs.Prelude.{Bool, true, false}
use Rattle.floor_turn.specs.declared.server.Course.{Course}
use Rattle.floor_turn.specs.declared.server.Course.TheVariants as course

-- it wasn't told to stop, and each port of its start could be had
abbrev pub is_serving : Course → Bool
is_serving course.Starting = true
is_serving course.Running = true
is_serving course.Stopping = false
is_serving course.Closing = false
is_serving course.Ended = false
