use Rattle.std.proofs.Common.{◌≡◌, take}
use Rattle.floor_config.specs.Reading.{ports}
use Rattle.floor_config.proofs.doubles.ports_of_conferences.Given as goal

abbrev pub invariant-loop-config : goal.invariant-loop-config
invariant-loop-config l = l.found.items ≡ ports (take l.config-index l.configs)
