use Rattle.std.proofs.Common.{◌≡◌, ◌++◌, ◌∙◌}
use Rattle.json.specs.Tree.{json_tokens}
use Rattle.floor_rpc.specs.Answers.{help_json}
use Rattle.floor_rpc.proofs.Chain.{on_ok, then_more}
use Rattle.floor_rpc.proofs.answer_json.write_help.Goals as goal

pub returns : goal.returns
returns c = record {
  took =
      on_ok _ (c.end_object.new.self.tokens ≡ c.args.writer.now.tokens ++ json_tokens help_json) c.end_object.result (λ e. then_more c.args.writer.now.tokens c.begin_object.new.self.tokens c.end_object.new.self.tokens _ _ c.in_ok-begin_object.ensures.ok
      (then_more c.begin_object.new.self.tokens c.key.new.self.tokens c.end_object.new.self.tokens _ _ c.in_ok-key.ensures.ok
      (then_more c.key.new.self.tokens c.write_items.new.writer.tokens c.end_object.new.self.tokens _ _ c.in_ok-write_items.ensures.took e))) c.end_object.ensures.ok;
  before = c.end_object.ensures.room.0 ∙ c.in_ok-write_items.ensures.before ∙ c.in_ok-key.ensures.room.0 ∙ c.in_ok-begin_object.ensures.room.0;
}
