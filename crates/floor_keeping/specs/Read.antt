-- What stands in the file of a kept conference is read as that conference with its first events.
use Rattle.std.specs.Prelude.{◌≡◌, ◌≤◌, ℕ, true, List, [], ◌++◌, length}
use Rattle.toml.specs.Data.{Members}
use Rattle.floor_config.specs.Configuration.{Configuration}
use Rattle.floor_machine.specs.declared.event.Event.{Event}
use Rattle.floor_kept.specs.Body.{is_one_line}
use Rattle.floor_kept.specs.File.{IsFile}
use Rattle.floor_kept.specs.Head.{IsHeadOf}
use Rattle.floor_kept.specs.Laws.{GoOn, IsReadAs, journal_behind}
use Rattle.floor_kept.specs.declared.entry.Entry.{Entry}
use Rattle.floor_keeping.specs.Kept.{begins}
use Rattle.floor_keeping.specs.Runs.{Past, Step, begun, steps}
use Rattle.floor_keeping.specs.declared.policy.Policy.{Policy}

-- The bytes are a file, read as this configuration and these events, and in no other way: the first of those of the journal that was put last. They are as many as
-- stand in the file, and so many as are kept are among them.
pub record IsKeptAs (config : Configuration) (bytes : List ℕ) (past : Past) : Type 0 where
  pub journal : List Event
  pub more : List Event
  pub first : journal_behind [] past.turns ≡ journal ++ more
  pub count : past.file.state.written ≡ length journal
  pub kept : past.file.state.kept ≤ length journal
  pub entries : List Entry
  pub head_lines : ℕ
  pub stands : ℕ
  pub file : IsFile bytes config entries head_lines stands
  pub read : IsReadAs bytes config journal

-- Of a conference that opens with this head, and isn't closed: its head, behind that the texts of which an Append was answered Done, one behind another, and behind those
-- whatever was torn.
abbrev pub WhatIsKeptIsRead : Type 0
WhatIsKeptIsRead =
    (p : Policy) (conference : Members) (head : List ℕ) (config : Configuration) (ss : List Step) (torn : List ℕ) → IsHeadOf conference head config → is_one_line torn ≡ true →
    let past = steps p ss (begun (begins head)) in
    GoOn [] past.turns → IsKeptAs config (head ++ (past.texts ++ torn)) past
