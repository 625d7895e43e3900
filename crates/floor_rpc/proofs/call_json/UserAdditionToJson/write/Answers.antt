use Rattle.std.proofs.Common.{◌≡◌, ◌∷◌, ◌++◌, ◌∙◌, ap, sym}
use Rattle.std.specs.Prelude.{codes, option_map}
use Rattle.json.specs.Json as json
use Rattle.json.specs.Token as token
use Rattle.json.specs.Tree.{json_tokens}
use Rattle.floor_rpc.specs.CallsWritten.{user_addition_fields, user_addition_json}
use Rattle.floor_rpc.specs.Json.{value_tokens}
use Rattle.floor_rpc.proofs.Chain.{on_ok, then_more}
use Rattle.floor_rpc.proofs.Fields.{members_tokens_of}
use Rattle.floor_rpc.proofs.call_json.UserAdditionToJson.write.Goals as goal

pub returns : goal.returns
returns c = record {
  took =
      on_ok _ (c.end_object.new.self.tokens ≡ c.args.writer.now.tokens ++ json_tokens (user_addition_json c.args.self.now)) c.end_object.result (λ e. then_more c.args.writer.now.tokens c.begin_object.new.self.tokens c.end_object.new.self.tokens _ _ c.in_ok-begin_object.ensures.ok
      (then_more c.begin_object.new.self.tokens c.member.new.writer.tokens c.end_object.new.self.tokens _ _ c.in_ok-member.ensures.took
      (then_more c.member.new.writer.tokens c.optional_member.new.writer.tokens c.end_object.new.self.tokens _ _ c.in_ok-optional_member.ensures.took
      (then_more c.optional_member.new.writer.tokens c.optional_member-2.new.writer.tokens c.end_object.new.self.tokens _ _ c.in_ok-optional_member-2.ensures.took
      (then_more c.optional_member-2.new.writer.tokens c.optional_member-3.new.writer.tokens c.end_object.new.self.tokens _ _ c.in_ok-optional_member-3.ensures.took
      (then_more c.optional_member-3.new.writer.tokens c.optional_member-4.new.writer.tokens c.end_object.new.self.tokens _ _ (c.in_ok-optional_member-4.ensures.took ∙ ap (λ o. c.optional_member-3.new.writer.tokens ++ value_tokens (codes "proxy") (option_map json.boolean o)) c.then_some.ensures)
      (then_more c.optional_member-4.new.writer.tokens c.optional_member-5.new.writer.tokens c.end_object.new.self.tokens _ _ c.in_ok-optional_member-5.ensures.took e))))))
      ∙ ap (λ ts. c.args.writer.now.tokens ++ (token.begin_object ∷ ts)) (sym (members_tokens_of (user_addition_fields c.args.self.now)))) c.end_object.ensures.ok;
  before = c.end_object.ensures.room.0 ∙ c.in_ok-optional_member-5.ensures.before ∙ c.in_ok-optional_member-4.ensures.before ∙ c.in_ok-optional_member-3.ensures.before ∙ c.in_ok-optional_member-2.ensures.before ∙ c.in_ok-optional_member.ensures.before ∙ c.in_ok-member.ensures.before ∙ c.in_ok-begin_object.ensures.room.0;
}
