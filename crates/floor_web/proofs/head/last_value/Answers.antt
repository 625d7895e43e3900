use Rattle.floor_web.specs.Head.{of_head}
use Rattle.floor_web.proofs.head.last_value.Goals as goal

pub returns-in-Ok-Complete : goal.returns-in-Ok-Complete
returns-in-Ok-Complete c =
    let found = rw c.in-Ok-Complete.field-0-is at c.in-Ok-Complete.ensures.complete in
    record { value = of_head found.0 _ found.1.reads (c.last_in.ensures.value found.0 found.1) }
