use Rattle.std.proofs.Common.{◌≡◌, ◌∙◌, ap, sym, arith, drop}
use Rattle.std.proofs.lemmas.List.{take_rest}
use Rattle.floor_wire.specs.Spelling.{format_of, number_of}
use Rattle.floor_wire.specs.Spelled.{spelled}
use Rattle.floor_wire.specs.View.{attributes_of}
use Rattle.floor_wire.specs.Views.{attrs_in, body_in, or_none}
use Rattle.floor_wire.specs.declared.attribute.Body.TheVariants.{Group}
use Rattle.floor_wire.specs.declared.format.Format.TheVariants.{Grouped}
use Rattle.floor_wire.proofs.Viewed.{group_content, group_seen}
use Rattle.floor_wire.proofs.view.body_of.Goals as goal

pub returns-in-Grouped : goal.returns-in-Grouped
returns-in-Grouped c =
    let s = c.args.contents.now in
    let n = c.from_be_bytes-number.result in
    let format : format_of c.args.kind ≡ Grouped = sym c.format_of_kind.ensures ∙ c.in-Grouped.is in
    let number : n ≡ number_of s = omega (arith, c.from_be_bytes-number.ensures) in
    ap (λ t. Group n (attributes_of (attrs_in t))) (take_rest s 2)
    ∙ ap (λ a. Group n a) (group_seen (drop 2 s) (group_content (format_of c.args.kind) s format c.requires))
    ∙ ap (λ x. Group x (or_none (spelled (drop 2 s)))) number
    ∙ ap (λ f. body_in f s) (sym format)
