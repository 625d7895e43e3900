-- What follows from an accept.
use Rattle.std.specs.Prelude.{Bool, true, false, Result, Ok, Err}
use Rattle.floor_listen.specs.declared.accepting.TheConstants.{ACCEPT_AGAIN_MILLIS}
use Rattle.floor_listen.specs.declared.accepting.Accepting.{Accepting}
use Rattle.floor_listen.specs.declared.accepting.Accepting.TheVariants.{End, Start, Again}

-- a port that ends accepts no more; else what was accepted is started, and after a failure the port waits and accepts again
abbrev pub after_accept : {S E : Type 0} → Bool → Result S E → Accepting S
after_accept true accepted = End
after_accept false (Ok stream) = Start stream
after_accept false (Err error) = Again ACCEPT_AGAIN_MILLIS
