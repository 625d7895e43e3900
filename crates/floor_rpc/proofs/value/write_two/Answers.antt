use Rattle.std.proofs.Common.{◌≡◌, ◌∷◌, [], ◌++◌, ◌∙◌, ap, sym}
use Rattle.json.specs.Token as token
use Rattle.json.specs.Tree.{json_tokens}
use Rattle.floor_rpc.specs.Json.{given, two_members}
use Rattle.floor_rpc.proofs.Chain.{on_ok, then_more}
use Rattle.floor_rpc.proofs.Fields.{members_tokens_of}
use Rattle.floor_rpc.proofs.value.write_two.Goals as goal

pub returns : goal.returns
returns g c = record {
  took =
      on_ok _ (c.end_object.new.self.tokens ≡ c.args.writer.now.tokens ++ json_tokens (two_members c.args.key.now (g.A.ToJson.json c.args.value.now) c.args.other_key.now (g.B.ToJson.json c.args.other.now))) c.end_object.result (λ e. then_more c.args.writer.now.tokens c.begin_object.new.self.tokens c.end_object.new.self.tokens _ _ c.in_ok-begin_object.ensures.ok
      (then_more c.begin_object.new.self.tokens c.member.new.writer.tokens c.end_object.new.self.tokens _ _ c.in_ok-member.ensures.took
      (then_more c.member.new.writer.tokens c.member-2.new.writer.tokens c.end_object.new.self.tokens _ _ c.in_ok-member-2.ensures.took e))
      ∙ ap (λ ts. c.args.writer.now.tokens ++ (token.begin_object ∷ ts)) (sym (members_tokens_of (given c.args.key.now (g.A.ToJson.json c.args.value.now) ∷ given c.args.other_key.now (g.B.ToJson.json c.args.other.now) ∷ [])))) c.end_object.ensures.ok;
  before = c.end_object.ensures.room.0 ∙ c.in_ok-member-2.ensures.before ∙ c.in_ok-member.ensures.before ∙ c.in_ok-begin_object.ensures.room.0;
}
