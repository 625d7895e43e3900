use Rattle.std.proofs.Common.{◌≡◌, ◌<◌, ◌≤◌, [], ℕ, List, length, sym, subst, refl, arith, length-drop}
use Rattle.std.specs.List.{slice_range}
use Rattle.std.proofs.lemmas.Grind.{common_steps}
use Rattle.std.proofs.lemmas.List.{take_rest}
use Rattle.floor_wire.specs.Attributes.{no_attributes}
use Rattle.floor_wire.specs.Views.{IsSpelled, IsContent}
use Rattle.floor_wire.specs.declared.format.Format.{Format}
use Rattle.floor_wire.proofs.Viewed.{group_is_content, group_content, number_is_content, pair_is_content, octets_are_content, not_spelled, head_content, head_others, head_joined}
use Rattle.floor_wire.proofs.view.+view.Goals as goal

pub is_content-returns-in-Grouped : goal.is_content-returns-in-Grouped
is_content-returns-in-Grouped t c =
    let s = c.args.contents.now in
    let included = rw (take_rest s 2) at c.is_spelled.ensures in (
      λ yes. group_is_content c.args.format s c.in-Grouped.is c.requires (included.0 yes),
      λ w. included.1 (group_content c.args.format s c.in-Grouped.is w),
    )

pub is_content-returns-in-Unsigned16 : goal.is_content-returns-in-Unsigned16
is_content-returns-in-Unsigned16 t c = (λ _. number_is_content c.args.format c.args.contents.now c.in-Unsigned16.is c.requires, λ _. refl)

pub is_content-returns-in-OctetString16 : goal.is_content-returns-in-OctetString16
is_content-returns-in-OctetString16 t c = (λ _. pair_is_content c.args.format c.args.contents.now c.in-OctetString16.is c.requires, λ _. refl)

pub is_content-returns-in-OctetString : goal.is_content-returns-in-OctetString
is_content-returns-in-OctetString t c = (λ _. octets_are_content c.args.format c.args.contents.now c.in-OctetString.is, λ _. refl)

pub is_spelled-returns-in_default : goal.is_spelled-returns-in_default
is_spelled-returns-in_default t c =
    let s = c.loop-rest.rest.now in
    let some : 0 < length s = grind (arith, common_steps) in (
      λ yes. absurd (let none : ⊥ = cc in none),
      λ w. absurd (not_spelled s c.in_default.field-0 some c.in_default.ensures.fault (c.loop-rest.invariant.1 w)),
    )

pub is_spelled-returns-then-not-is_content : goal.is_spelled-returns-then-not-is_content
is_spelled-returns-then-not-is_content t c =
    let s = c.loop-rest.rest.now in
    let head = c.in-Ok.head in
    let some : 0 < length s = grind (arith, common_steps) in
    let P : Format → Type 0 = λ f. IsContent f (slice_range s 2 head.len) in (
      λ yes. absurd (let none : ⊥ = cc in none),
      λ w. absurd (
          let is = c.is_content.ensures.1 (subst P (sym c.format_of_kind.ensures) (head_content s head c.in-Ok.ensures.found.1 some (c.loop-rest.invariant.1 w))) in
          let isnt = c.if-not-is_content.true in cc
          ),
    )

pub is_spelled-loop-rest-preserved : goal.is_spelled-loop-rest-preserved
is_spelled-loop-rest-preserved t c =
    let s = c.loop-rest.rest.now in
    let head = c.in-Ok.head in
    let some : 0 < length s = grind (arith, common_steps) in
    let P : Format → Type 0 = λ f. IsContent f (slice_range s 2 head.len) in
    let content = subst P c.format_of_kind.ensures (c.is_content.ensures.0 c.if-not-is_content.false) in
    let Q : List ℕ → Type 0 = λ x. (IsSpelled x → IsSpelled c.args.bytes.now) × (IsSpelled c.args.bytes.now → IsSpelled x) × (length x ≤ length c.args.bytes.now) in
    subst Q (sym (take_rest s head.end)) (
      λ w. c.loop-rest.invariant.0 (head_joined s head c.in-Ok.ensures.found.1 content w),
      λ w. head_others s head c.in-Ok.ensures.found.1 some (c.loop-rest.invariant.1 w),
      omega (arith, c.loop-rest.invariant.2, length-drop head.end s),
    )

pub is_spelled-returns : goal.is_spelled-returns
is_spelled-returns t c =
    let s = c.loop-rest.rest.now in
    let none : s ≡ [] = grind (arith, common_steps) in
    (λ yes. c.loop-rest.invariant.0 (no_attributes, none), λ w. refl)
