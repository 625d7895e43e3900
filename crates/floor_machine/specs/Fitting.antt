-- Each message that an event tells fits (RFC 8855, sections 5.1 and 5.2).
use Rattle.std.specs.Prelude.{ℕ, All}
use Rattle.floor_message.specs.Fits.{TellFits}
use Rattle.floor_machine.specs.declared.event.Event.{Event}
use Rattle.floor_machine.specs.Conference.{Conference}
use Rattle.floor_machine.specs.Next.{told}

-- each message that the event tells a member can be written
abbrev pub ToldFits : Conference → Event → Type 0
ToldFits s e = (n : ℕ) → All (λ message. TellFits message.tell) (told s e n)
