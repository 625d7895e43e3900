-- Members that may be left out.
use Rattle.std.proofs.Common.{◌≡◌, ℕ, List, [], ◌∷◌, ◌++◌, refl, ap}
use Rattle.std.specs.Prelude.{Option, Some, None}
use Rattle.json.specs.Json.{Json, Members}
use Rattle.json.specs.Token as token
use Rattle.json.specs.Token.{Token}
use Rattle.json.specs.Tree.{json_tokens, members_tokens}
use Rattle.floor_rpc.specs.Json.{Fields, fields_tokens, member_where, members_of, value_tokens}

tokens_where : (key : List ℕ) (o : Option Json) (ms : Members) (ts : List Token) → members_tokens ms ≡ ts → members_tokens (member_where key o ms) ≡ value_tokens key o ++ ts
tokens_where key (Some j) ms ts e = ap (λ us. token.key key ∷ (json_tokens j ++ us)) e
tokens_where key None ms ts e = e

-- the tokens of the members that are there
pub members_tokens_of : (fs : Fields) → members_tokens (members_of fs) ≡ fields_tokens fs
unfolding members_of
members_tokens_of [] = refl
members_tokens_of (f ∷ fs) = tokens_where f.0 f.1 (members_of fs) (fields_tokens fs) (members_tokens_of fs)
