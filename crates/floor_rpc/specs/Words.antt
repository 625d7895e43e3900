-- Words that are kept beside a conference, as JSON: an object, in their order.
use Rattle.std.specs.Prelude.{List, [], ◌∷◌}
use Rattle.json.specs.Json as json
use Rattle.json.specs.Json.{Json, Members}
use Rattle.floor_rpc.specs.declared.answer.Word.{Word}

abbrev pub word_members : List Word → Members
word_members [] = json.no_members
word_members (w ∷ ws) = json.member w.key (json.string w.text) (word_members ws)

abbrev pub words_json : List Word → Json
words_json ws = json.object (word_members ws)
