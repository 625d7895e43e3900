-- How much an event tells a member at most (RFC 8855, sections 8.1, 13.1.2 and 13.5).
use Rattle.std.specs.Prelude.{◌≤◌, ℕ, ◌+◌, ◌*◌, List, length}
use Rattle.floor_config.specs.Configuration.{Configuration, IsConfiguration}
use Rattle.floor_message.specs.Fits.{TellFits}
use Rattle.floor_machine.specs.Change.{IsLawful}
use Rattle.floor_machine.specs.Conference.{opening}
use Rattle.floor_machine.specs.declared.event.Event.{Event}
use Rattle.floor_machine.specs.declared.event.Event.TheVariants.{Say}
use Rattle.floor_machine.specs.Outgoing.{Outgoing, outgoing_bytes}
use Rattle.floor_machine.specs.Journal.{IsJournal, after, told_from}
use Rattle.floor_machine.specs.Next.{told}
use Rattle.floor_machine.specs.Reply.{reply}

-- Whatever may happen after a journal, a member is told at most a response, the statuses of 256 floor requests, and those of 32
-- floors. A FloorQuery alone is answered by more than one message, by 32 at most, and then nothing else is told.
abbrev pub ToldIsFew : Type 0
ToldIsFew = (config : Configuration) (es : List Event) (e : Event) (n : ℕ) → IsConfiguration config → IsJournal config es →
    IsLawful (after config es) e → length (told (after config es) e n) ≤ 1 + 256 + 32

-- so a journal calls for at most so many messages at a member for each of its events
abbrev pub CalledForIsFew : Type 0
CalledForIsFew = (config : Configuration) (es : List Event) (n : ℕ) → IsConfiguration config → IsJournal config es →
    length (told_from (opening config) es n) ≤ 289 * length es

-- a message that can be written has at most 12 bytes of header and 65,535 units of payload (section 5.1)
abbrev pub MessageIsShort : Type 0
MessageIsShort = (message : Outgoing) → TellFits message.tell → length (outgoing_bytes message) ≤ 12 + 4 * 65535

-- whatever is said for a user after a journal is answered by one message at most
abbrev pub SaidIsAnsweredOnce : Type 0
SaidIsAnsweredOnce = (config : Configuration) (es : List Event) (user : ℕ) (bytes : List ℕ) → IsConfiguration config → IsJournal config es →
    length (reply (after config es) (Say user bytes)) ≤ 1
