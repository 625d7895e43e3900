use Rattle.floor_ffi.proofs.Numbered.{numbers-tell}
use Rattle.floor_ffi.proofs.laws.numbers_tell_outcomes.Goals as goal

pub returns : goal.returns
returns c = numbers-tell
