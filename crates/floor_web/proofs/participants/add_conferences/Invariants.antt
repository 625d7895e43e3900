use Rattle.std.proofs.Common.{◌≡◌, drop}
use Rattle.toml.specs.View.{items_view}
use Rattle.floor_web.specs.Participants.{bearers, behind_found, each, of_conference}
use Rattle.floor_web.proofs.participants.add_conferences.Given as goal

abbrev pub invariant-loop-table : goal.invariant-loop-table
invariant-loop-table l =
    behind_found (bearers l.participants.items) (each of_conference l.rest (items_view (drop l.table-index l.tables)))
    ≡ behind_found (bearers l.fn.participants.items) (each of_conference l.configs (items_view l.tables))
