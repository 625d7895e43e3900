-- What stands in a conference now: its configuration, what is shown of its ongoing requests, and how far its members are behind.
use Rattle.std.specs.Prelude.{ℕ, if◌then◌else◌, List, []}
use Rattle.floor_config.specs.Configuration.{Configuration}
use Rattle.floor_message.specs.declared.information.Info.{Info}
use Rattle.floor_machine.specs.Conference.{backlog}
use Rattle.floor_machine.specs.Reply.{infos}
use Rattle.floor_room.specs.Ledger.{Ledger, conference_of}

-- the configuration: that of the conference after the journal, and the one that it opened with where it is broken off
abbrev pub config_of : Ledger → Configuration
config_of l = if l.is_broken then l.config else (conference_of l).config

-- what is shown of the ongoing requests, ascending, and nothing where it is broken off
abbrev pub shown_of : Ledger → List Info
shown_of l = if l.is_broken then [] else infos (conference_of l)

-- how many messages were told to n and not acknowledged, and none where it is broken off
abbrev pub backlog_of : Ledger → ℕ → ℕ
backlog_of l n = if l.is_broken then 0 else backlog (conference_of l) n
