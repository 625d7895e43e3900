use Rattle.std.proofs.Common.{◌≡◌, ◌∷◌, ◌++◌, ◌∙◌, ap, sym}
use Rattle.json.specs.Token as token
use Rattle.json.specs.Tree.{json_tokens}
use Rattle.floor_rpc.specs.CallsWritten.{watched_fields, watched_json}
use Rattle.floor_rpc.proofs.Chain.{on_ok, then_more}
use Rattle.floor_rpc.proofs.Fields.{members_tokens_of}
use Rattle.floor_rpc.proofs.call_json.WatchedToJson.write.Goals as goal

pub returns : goal.returns
returns c = record {
  took =
      on_ok _ (c.end_object.new.self.tokens ≡ c.args.writer.now.tokens ++ json_tokens (watched_json c.args.self.now)) c.end_object.result (λ e. then_more c.args.writer.now.tokens c.begin_object.new.self.tokens c.end_object.new.self.tokens _ _ c.in_ok-begin_object.ensures.ok
      (then_more c.begin_object.new.self.tokens c.member.new.writer.tokens c.end_object.new.self.tokens _ _ c.in_ok-member.ensures.took
      (then_more c.member.new.writer.tokens c.optional_member.new.writer.tokens c.end_object.new.self.tokens _ _ c.in_ok-optional_member.ensures.took e))
      ∙ ap (λ ts. c.args.writer.now.tokens ++ (token.begin_object ∷ ts)) (sym (members_tokens_of (watched_fields c.args.self.now)))) c.end_object.ensures.ok;
  before = c.end_object.ensures.room.0 ∙ c.in_ok-optional_member.ensures.before ∙ c.in_ok-member.ensures.before ∙ c.in_ok-begin_object.ensures.room.0;
}
