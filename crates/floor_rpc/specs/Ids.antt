-- The id of a request, as JSON.
use Rattle.json.specs.Json as json
use Rattle.json.specs.Json.{Json}
use Rattle.floor_rpc.specs.declared.id.Id.{Id}
use Rattle.floor_rpc.specs.declared.id.Id.TheVariants.{Null, Number, Text}

abbrev pub id_json : Id → Json
id_json Null = json.null
id_json (Number s) = json.number s
id_json (Text s) = json.string s
