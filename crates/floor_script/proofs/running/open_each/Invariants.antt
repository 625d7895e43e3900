use Rattle.std.proofs.Common.{◌≡◌, ◌++◌, length}
use Rattle.std.specs.Vec.Iter.{into_iter_items, into_iter_len}
use Rattle.floor_script.specs.steps.Running.{opened_all}
use Rattle.floor_script.specs.steps.Standing.{Leads}
use Rattle.floor_script.proofs.running.open_each.Given as goal

-- so many conferences were opened
abbrev pub invariant-loop-config : goal.invariant-loop-config
invariant-loop-config l = record {
  all : l.fn.configs.items ≡ l.yielded ++ into_iter_items l.config-iterator;
  count : into_iter_len l.config-iterator ≡ length (into_iter_items l.config-iterator);
  opened : Leads (opened_all l.yielded) l.fn.conferences l.conferences;
}
