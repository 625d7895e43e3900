use Rattle.std.proofs.Common.{◌≡◌, ◌∷◌, [], ◌++◌, ◌∙◌, ap, sym}
use Rattle.json.specs.Token as token
use Rattle.json.specs.Tree.{json_tokens}
use Rattle.floor_rpc.specs.Json.{object_of}
use Rattle.floor_rpc.proofs.Chain.{on_ok, then_more}
use Rattle.floor_rpc.proofs.Fields.{members_tokens_of}
use Rattle.floor_rpc.proofs.value.write_nothing.Goals as goal

pub returns : goal.returns
returns c = record {
  took =
      on_ok _ (c.end_object.new.self.tokens ≡ c.args.writer.now.tokens ++ json_tokens (object_of [])) c.end_object.result (λ e. then_more c.args.writer.now.tokens c.begin_object.new.self.tokens c.end_object.new.self.tokens _ _ c.in_ok-begin_object.ensures.ok e
      ∙ ap (λ ts. c.args.writer.now.tokens ++ (token.begin_object ∷ ts)) (sym (members_tokens_of []))) c.end_object.ensures.ok;
  before = c.end_object.ensures.room.0 ∙ c.in_ok-begin_object.ensures.room.0;
}
