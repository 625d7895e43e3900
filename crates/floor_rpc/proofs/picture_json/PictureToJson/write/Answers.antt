use Rattle.std.proofs.Common.{◌≡◌, ◌∷◌, [], ◌++◌, ◌∙◌, ap}
use Rattle.std.specs.Prelude.{codes}
use Rattle.json.specs.Token as token
use Rattle.json.specs.Tree.{json_tokens}
use Rattle.floor_rpc.specs.Pictures.{picture_json}
use Rattle.floor_rpc.proofs.Chain.{on_ok, then_more}
use Rattle.floor_rpc.proofs.picture_json.PictureToJson.write.Goals as goal

pub returns : goal.returns
returns c = record {
  took =
      on_ok _ (c.end_object.new.self.tokens ≡ c.args.writer.now.tokens ++ json_tokens (picture_json c.args.self.now)) c.end_object.result (λ e. then_more c.args.writer.now.tokens c.begin_object.new.self.tokens c.end_object.new.self.tokens _ _ c.in_ok-begin_object.ensures.ok
      (then_more c.begin_object.new.self.tokens c.member.new.writer.tokens c.end_object.new.self.tokens _ _ c.in_ok-member.ensures.took
      (then_more c.member.new.writer.tokens c.text_member.new.writer.tokens c.end_object.new.self.tokens _ _ (c.in_ok-text_member.ensures.took ∙ ap (λ t. c.member.new.writer.tokens ++ (token.key (codes "phase") ∷ token.string t ∷ [])) c.name.ensures.value)
      (then_more c.text_member.new.writer.tokens c.member-2.new.writer.tokens c.end_object.new.self.tokens _ _ c.in_ok-member-2.ensures.took
      (then_more c.member-2.new.writer.tokens c.member-3.new.writer.tokens c.end_object.new.self.tokens _ _ c.in_ok-member-3.ensures.took
      (then_more c.member-3.new.writer.tokens c.member-4.new.writer.tokens c.end_object.new.self.tokens _ _ c.in_ok-member-4.ensures.took
      (then_more c.member-4.new.writer.tokens c.member-5.new.writer.tokens c.end_object.new.self.tokens _ _ c.in_ok-member-5.ensures.took
      (then_more c.member-5.new.writer.tokens c.member-6.new.writer.tokens c.end_object.new.self.tokens _ _ c.in_ok-member-6.ensures.took
      (then_more c.member-6.new.writer.tokens c.member-7.new.writer.tokens c.end_object.new.self.tokens _ _ c.in_ok-member-7.ensures.took
      (then_more c.member-7.new.writer.tokens c.member-8.new.writer.tokens c.end_object.new.self.tokens _ _ c.in_ok-member-8.ensures.took
      (then_more c.member-8.new.writer.tokens c.member-9.new.writer.tokens c.end_object.new.self.tokens _ _ c.in_ok-member-9.ensures.took
      (then_more c.member-9.new.writer.tokens c.member-10.new.writer.tokens c.end_object.new.self.tokens _ _ c.in_ok-member-10.ensures.took
      (then_more c.member-10.new.writer.tokens c.words_member.new.writer.tokens c.end_object.new.self.tokens _ _ c.in_ok-words_member.ensures.took e))))))))))))) c.end_object.ensures.ok;
  before = c.end_object.ensures.room.0 ∙ c.in_ok-words_member.ensures.before ∙ c.in_ok-member-10.ensures.before ∙ c.in_ok-member-9.ensures.before ∙ c.in_ok-member-8.ensures.before ∙ c.in_ok-member-7.ensures.before ∙ c.in_ok-member-6.ensures.before ∙ c.in_ok-member-5.ensures.before ∙ c.in_ok-member-4.ensures.before ∙ c.in_ok-member-3.ensures.before ∙ c.in_ok-member-2.ensures.before ∙ c.in_ok-text_member.ensures.before ∙ c.in_ok-member.ensures.before ∙ c.in_ok-begin_object.ensures.room.0;
}
