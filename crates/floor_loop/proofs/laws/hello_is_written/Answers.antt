use Rattle.floor_loop.specs.Examples.{hello_is_written}
use Rattle.floor_loop.proofs.laws.hello_is_written.Goals as goal

pub returns : goal.returns
returns c = hello_is_written
