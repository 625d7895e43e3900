use Rattle.std.proofs.Common.{◌≡◌, ◌+◌, ◌∷◌, [], ◌++◌, drop, sym, ap, ◌∙◌, arith}
use Rattle.std.proofs.lemmas.List.{drop_more, append_assoc}
use Rattle.json.specs.Token as token
use Rattle.json.specs.Tree.{members_tokens}
use Rattle.floor_rpc.specs.Words.{word_members}
use Rattle.floor_rpc.proofs.words.write_words.Goals as goal

pub loop-word-preserved : goal.loop-word-preserved
loop-word-preserved c =
    let l = c.loop-word in
    let xs = c.args.words.now in
    let x = c.word-item.result in
    let here : drop l.word-index xs ≡ x ∷ drop (l.word-index + 1) xs = drop_more xs l.word-index x (omega arith) ∙ ap (λ y. y ∷ drop (l.word-index + 1) xs) (sym c.word-item.is) in
    let left = ap (λ ys. members_tokens (word_members ys)) here in
    let mine = token.key x.key ∷ token.string x.text ∷ [] in
    let done = c.in_ok-text_member.ensures in (
      ap (λ ts. ts ++ members_tokens (word_members (drop (l.word-index + 1) xs))) (grind (arith, done)) ∙ append_assoc l.writer.tokens mine _ ∙ ap (λ ts. l.writer.tokens ++ ts) (sym left) ∙ l.invariant.0,
      done.before ∙ l.invariant.1,
    )
