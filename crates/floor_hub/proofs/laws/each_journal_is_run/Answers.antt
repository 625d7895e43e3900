use Rattle.std.proofs.Common.{List, ap, ◌∙◌}
use Rattle.floor_machine.specs.declared.event.Event.{Event}
use Rattle.floor_machine.specs.Journal.{Q}
use Rattle.floor_hub.specs.Laws.{JournalsAreQueued}
use Rattle.floor_hub.specs.Runs.{steps_of}
use Rattle.floor_hub.proofs.Sent.{queued_is}
use Rattle.floor_hub.proofs.Stepping.{journals_are_events, journals_are_opened}
use Rattle.floor_hub.proofs.laws.each_journal_is_run.Goals as goal

-- what the steps of a journal queue is what their events, which are the journal, call for
journals_are_queued : JournalsAreQueued
journals_are_queued config es j n =
    queued_is config.conference config (steps_of config es) (journals_are_opened config es j) n ∙ ap (λ (l : List Event). Q config l n) (journals_are_events config es j)

pub returns : goal.returns
returns c = record { events = journals_are_events; configuration = journals_are_opened; queued = journals_are_queued }
