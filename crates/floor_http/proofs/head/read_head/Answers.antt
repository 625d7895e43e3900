use Rattle.std.proofs.Common.{ap}
use Rattle.std.specs.Prelude.{Some}
use Rattle.floor_http.specs.Heads.{by_head}
use Rattle.floor_http.proofs.head.read_head.Goals as goal

pub returns-in-Ok-Complete : goal.returns-in-Ok-Complete
returns-in-Ok-Complete c =
    let found = rw c.in-Ok-Complete.field-0-is at c.in-Ok-Complete.ensures.complete in
    record { value = by_head found.0 _ found.1.reads (ap Some (c.asked_in.ensures.value found.0 found.1)) }
