-- Whose conference something is asked of.
use Rattle.std.specs.Prelude.{ℕ, Option, Some, None}
use Rattle.floor_poll.specs.Fresh.{config_of}
use Rattle.floor_poll.specs.declared.mailbox.Asked.{Asked}
use Rattle.floor_poll.specs.declared.mailbox.Asked.TheVariants as asked

-- the conference to which something is to be done, where it is one's
abbrev pub conference_of : Asked → Option ℕ
conference_of (asked.Open fresh ports) = Some (config_of fresh).conference
conference_of (asked.Resume conference) = Some conference
conference_of (asked.Ports conference ports) = Some conference
conference_of (asked.Word conference key value) = Some conference
conference_of (asked.AddUser conference user port) = Some conference
conference_of (asked.Admin conference act) = Some conference
conference_of (asked.Leave conference n) = Some conference
conference_of (asked.Forget conference) = Some conference
conference_of (asked.Tell question) = None
conference_of asked.Begin = None
conference_of asked.Drain = None
conference_of asked.Stop = None
