use Rattle.std.proofs.Common.{◌≡◌, ◌+◌, ◌∷◌, ℕ, Bool, List, drop, map, not, sym, ap, ◌∙◌, arith}
use Rattle.std.specs.List.{find, list_any}
use Rattle.std.specs.Str.{bytes_eq}
use Rattle.std.proofs.lemmas.List.{drop_all, drop_more}
use Rattle.json.specs.Strict.{keys}
use Rattle.json.specs.Value.{members_view}
use Rattle.floor_rpc.proofs.params.first_unknown_of.Goals as goal

pub loop-member-preserved : goal.loop-member-preserved
loop-member-preserved c =
    let xs = c.deref-member-items.result.now in
    let i = c.loop-member.member-index in
    let x = c.member-item.result in
    let unknown : List ℕ → Bool = λ key. not (list_any (λ name. bytes_eq name key) (map (λ name. name.now) c.args.names.now)) in
    let here : drop i xs ≡ x ∷ drop (i + 1) xs = drop_more xs i x (omega arith) ∙ ap (λ y. y ∷ drop (i + 1) xs) (sym c.member-item.is) in
    let left = ap (λ ys. find unknown (keys (members_view ys))) here in
    let invariant = c.loop-member.invariant in
    grind (arith, left, invariant)

pub returns-then-not-known : goal.returns-then-not-known
returns-then-not-known c =
    let xs = c.deref-member-items.result.now in
    let i = c.loop-member.member-index in
    let x = c.member-item.result in
    let unknown : List ℕ → Bool = λ key. not (list_any (λ name. bytes_eq name key) (map (λ name. name.now) c.args.names.now)) in
    let here : drop i xs ≡ x ∷ drop (i + 1) xs = drop_more xs i x (omega arith) ∙ ap (λ y. y ∷ drop (i + 1) xs) (sym c.member-item.is) in
    let left = ap (λ ys. find unknown (keys (members_view ys))) here in
    let invariant = c.loop-member.invariant in
    let all = ap (λ ys. find unknown (keys (members_view ys))) c.deref-member-items.ensures.value in
    grind (arith, left, invariant, all)

pub returns : goal.returns
returns c =
    let xs = c.deref-member-items.result.now in
    let unknown : List ℕ → Bool = λ key. not (list_any (λ name. bytes_eq name key) (map (λ name. name.now) c.args.names.now)) in
    ap (λ ys. find unknown (keys (members_view ys))) (sym (drop_all c.loop-member.member-index xs (omega arith)))
    ∙ c.loop-member.invariant ∙ ap (λ ys. find unknown (keys (members_view ys))) c.deref-member-items.ensures.value
