use Rattle.std.proofs.Common.{◌≡◌, ◌∷◌, ◌++◌, ◌∙◌, ap}
use Rattle.json.specs.Token as token
use Rattle.json.specs.Tree.{json_tokens, members_tokens}
use Rattle.floor_rpc.specs.Words.{word_members, words_json}
use Rattle.floor_rpc.proofs.Chain.{on_ok, then_more}
use Rattle.floor_rpc.proofs.words.words_member.Goals as goal

pub returns : goal.returns
returns c = record {
  took =
      on_ok (c.write_words.new.writer.tokens ≡ c.begin_object.new.self.tokens ++ members_tokens (word_members c.as_slice.result.now))
      (c.write_words.new.writer.tokens ≡ c.args.writer.now.tokens ++ token.key c.args.name.now ∷ json_tokens (words_json c.args.words.now)) c.write_words.result
      (λ e. then_more c.args.writer.now.tokens c.key.new.self.tokens c.write_words.new.writer.tokens _ _ c.in_ok-key.ensures.ok
      (then_more c.key.new.self.tokens c.begin_object.new.self.tokens c.write_words.new.writer.tokens _ _ c.in_ok-begin_object.ensures.ok
      (e ∙ ap (λ ws. c.begin_object.new.self.tokens ++ members_tokens (word_members ws)) c.as_slice.ensures))) c.write_words.ensures.took;
  before = c.write_words.ensures.before ∙ c.in_ok-begin_object.ensures.room.0 ∙ c.in_ok-key.ensures.room.0;
}
