use Rattle.std.proofs.Common.{◌≡◌, ◌++◌, string_bytes, take, flat_map}
use Rattle.floor_control.specs.Floors.{floor_line}
use Rattle.floor_poll.proofs.readers.add_floors.Given as goal

-- the lines of so many floors stand behind the text
abbrev pub invariant-loop-floor : goal.invariant-loop-floor
invariant-loop-floor l = string_bytes l.text ≡ string_bytes l.fn.text ++ flat_map (λ f. floor_line f l.shown) (take l.floor-index l.floors)
