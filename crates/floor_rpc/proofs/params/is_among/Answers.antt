use Rattle.std.proofs.Common.{◌≡◌, ◌+◌, ◌||◌, ℕ, Bool, true, false, List, [], drop, get_or, map, sym, ap, ◌∙◌, arith}
use Rattle.std.specs.Borrow.{Bor}
use Rattle.std.specs.List.{list_any}
use Rattle.std.specs.Str.{bytes_eq}
use Rattle.std.proofs.lemmas.List.{drop_more}
use Rattle.floor_rpc.proofs.params.is_among.Goals as goal

pub loop-name-preserved : goal.loop-name-preserved
loop-name-preserved c =
    let xs = c.args.names.now in
    let i = c.loop-name.name-index in
    let among : List (Bor (List ℕ)) → Bool = λ ys. list_any (λ name. bytes_eq name c.args.key.now) (map (λ name. name.now) ys) in
    let here = ap among (drop_more xs i record { ref_ptr = (0, 0); now = [] } (omega arith)) in
    let other : bytes_eq (get_or xs i record { ref_ptr = (0, 0); now = [] }).now c.args.key.now ≡ false = sym c.eq.ensures ∙ c.if-eq.false in
    sym (here ∙ ap (λ b. b || among (drop (i + 1) xs)) other) ∙ c.loop-name.invariant

pub returns-then-eq : goal.returns-then-eq
returns-then-eq c =
    let xs = c.args.names.now in
    let i = c.loop-name.name-index in
    let among : List (Bor (List ℕ)) → Bool = λ ys. list_any (λ name. bytes_eq name c.args.key.now) (map (λ name. name.now) ys) in
    let here = ap among (drop_more xs i record { ref_ptr = (0, 0); now = [] } (omega arith)) in
    let same : bytes_eq (get_or xs i record { ref_ptr = (0, 0); now = [] }).now c.args.key.now ≡ true = sym c.eq.ensures ∙ c.if-eq.true in
    sym (sym c.loop-name.invariant ∙ here ∙ ap (λ b. b || among (drop (i + 1) xs)) same)
