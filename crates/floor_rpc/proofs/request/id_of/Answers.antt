use Rattle.std.specs.Prelude.{codes}
use Rattle.json.specs.Value.{value_view}
use Rattle.json.proofs.Numbered.{HasNumbers-get}
use Rattle.floor_rpc.proofs.request.id_of.Goals as goal

pub read_id-requires : goal.read_id-requires
read_id-requires c = HasNumbers-get (codes "id") (value_view c.args.value.now) (value_view c.in-Some.id.now) c.requires c.in-Some.ensures
