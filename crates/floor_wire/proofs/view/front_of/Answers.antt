use Rattle.std.proofs.Common.{◌≡◌, ◌∷◌, ℕ, List, ◌∙◌, ap, sym, subst, drop, get_or, ◌/◌, ◌%◌}
use Rattle.std.specs.Prelude.{◌==◌}
use Rattle.std.specs.List.{slice_range}
use Rattle.std.proofs.lemmas.List.{take_rest}
use Rattle.floor_wire.specs.Fault.{padded, front_len}
use Rattle.floor_wire.specs.Seen.{body_seen}
use Rattle.floor_wire.specs.Spelling.{format_of}
use Rattle.floor_wire.specs.Views.{attrs_in, body_in, IsSpelled, IsContent}
use Rattle.floor_wire.specs.declared.attribute.Body.{Body}
use Rattle.floor_wire.proofs.Viewed.{front_content, front_others, front_shown}
use Rattle.floor_wire.proofs.view.front_of.Goals as goal

pub body_of-body-requires : goal.body_of-body-requires
body_of-body-requires c =
    let s = c.args.bytes.now in
    let len : front_len s ≡ c.from-len.result = sym c.from-len.ensures in
    let P : ℕ → Type 0 = λ n. IsContent (format_of (get_or s 0 0 / 2)) (slice_range s 2 n) in
    subst P len (front_content s c.requires.some c.requires.spelled)

pub returns-clause-value : goal.returns-clause-value
returns-clause-value c =
    let s = c.args.bytes.now in
    let n = c.from-len.result in
    let len : front_len s ≡ n = sym c.from-len.ensures in
    let kind = get_or s 0 0 / 2 in
    let shown = λ (b : Body) (t : List ℕ). record { kind = kind; must = get_or s 0 0 % 2 == 1; body = b } ∷ attrs_in t in
    front_shown s c.requires.some c.requires.spelled
    ∙ ap (λ m. shown (body_in (format_of kind) (slice_range s 2 m)) (drop (padded m) s)) len
    ∙ ap (λ b. shown b (drop (padded n) s)) (sym c.body_of-body.ensures)
    ∙ ap (λ t. shown (body_seen c.body_of-body.result) t) (sym (take_rest s (padded n)))

pub returns-clause-others : goal.returns-clause-others
returns-clause-others c =
    let s = c.args.bytes.now in
    let len : front_len s ≡ c.from-len.result = sym c.from-len.ensures in
    let P : ℕ → Type 0 = λ n. IsSpelled (drop (padded n) s) in
    subst (λ (t : List ℕ). IsSpelled t) (sym (take_rest s (padded c.from-len.result)))
    (subst P len (front_others s c.requires.some c.requires.spelled))
