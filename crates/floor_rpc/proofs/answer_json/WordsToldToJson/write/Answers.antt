use Rattle.std.proofs.Common.{◌≡◌, ◌++◌, ◌∙◌}
use Rattle.json.specs.Tree.{json_tokens}
use Rattle.floor_rpc.specs.Answers.{words_told_json}
use Rattle.floor_rpc.proofs.Chain.{on_ok, then_more}
use Rattle.floor_rpc.proofs.answer_json.WordsToldToJson.write.Goals as goal

pub returns : goal.returns
returns c = record {
  took =
      on_ok _ (c.end_object.new.self.tokens ≡ c.args.writer.now.tokens ++ json_tokens (words_told_json c.args.self.now)) c.end_object.result (λ e. then_more c.args.writer.now.tokens c.begin_object.new.self.tokens c.end_object.new.self.tokens _ _ c.in_ok-begin_object.ensures.ok
      (then_more c.begin_object.new.self.tokens c.words_member.new.writer.tokens c.end_object.new.self.tokens _ _ c.in_ok-words_member.ensures.took e)) c.end_object.ensures.ok;
  before = c.end_object.ensures.room.0 ∙ c.in_ok-words_member.ensures.before ∙ c.in_ok-begin_object.ensures.room.0;
}
