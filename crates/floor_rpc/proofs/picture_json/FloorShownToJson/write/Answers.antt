use Rattle.std.proofs.Common.{◌≡◌, ◌++◌, ◌∙◌}
use Rattle.json.specs.Tree.{json_tokens}
use Rattle.floor_rpc.specs.Pictures.{floor_shown_json}
use Rattle.floor_rpc.proofs.Chain.{on_ok, then_more}
use Rattle.floor_rpc.proofs.picture_json.FloorShownToJson.write.Goals as goal

pub returns : goal.returns
returns c = record {
  took =
      on_ok _ (c.end_object.new.self.tokens ≡ c.args.writer.now.tokens ++ json_tokens (floor_shown_json c.args.self.now)) c.end_object.result (λ e. then_more c.args.writer.now.tokens c.begin_object.new.self.tokens c.end_object.new.self.tokens _ _ c.in_ok-begin_object.ensures.ok
      (then_more c.begin_object.new.self.tokens c.member.new.writer.tokens c.end_object.new.self.tokens _ _ c.in_ok-member.ensures.took
      (then_more c.member.new.writer.tokens c.member-2.new.writer.tokens c.end_object.new.self.tokens _ _ c.in_ok-member-2.ensures.took
      (then_more c.member-2.new.writer.tokens c.member-3.new.writer.tokens c.end_object.new.self.tokens _ _ c.in_ok-member-3.ensures.took
      (then_more c.member-3.new.writer.tokens c.member-4.new.writer.tokens c.end_object.new.self.tokens _ _ c.in_ok-member-4.ensures.took
      (then_more c.member-4.new.writer.tokens c.member-5.new.writer.tokens c.end_object.new.self.tokens _ _ c.in_ok-member-5.ensures.took
      (then_more c.member-5.new.writer.tokens c.member-6.new.writer.tokens c.end_object.new.self.tokens _ _ c.in_ok-member-6.ensures.took
      (then_more c.member-6.new.writer.tokens c.member-7.new.writer.tokens c.end_object.new.self.tokens _ _ c.in_ok-member-7.ensures.took e)))))))) c.end_object.ensures.ok;
  before = c.end_object.ensures.room.0 ∙ c.in_ok-member-7.ensures.before ∙ c.in_ok-member-6.ensures.before ∙ c.in_ok-member-5.ensures.before ∙ c.in_ok-member-4.ensures.before ∙ c.in_ok-member-3.ensures.before ∙ c.in_ok-member-2.ensures.before ∙ c.in_ok-member.ensures.before ∙ c.in_ok-begin_object.ensures.room.0;
}
