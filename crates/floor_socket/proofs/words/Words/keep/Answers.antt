use Rattle.std.proofs.Common.{◌≡◌, ◌∙◌, ap, arith, sym, true, false, length, slice_set}
use Rattle.std.specs.List.{insert}
use Rattle.floor_socket.specs.Words.{ascend, before, with_word}
use Rattle.floor_socket.proofs.Ascending.{ascend-with_word, inserted, is_there, place_there, place_within, set_there}
use Rattle.floor_socket.proofs.words.Words.keep.Goals as goal

pub put_at-requires : goal.put_at-requires
put_at-requires c =
    let place : c.place_of-place.result ≡ length (before c.args.key c.self.inside.items.items) =
    c.place_of-place.ensures.value ∙ (λ i. length (before (c.as_str.ensures i) (c.deref.ensures.value i))) in
    let there : is_there c.args.key c.self.inside.items.items (length (before c.args.key c.self.inside.items.items)) ≡ true =
    sym (c.is_at.ensures.value ∙ (λ i. is_there (c.as_str-2.ensures i) (c.deref-2.ensures.value i) (place i))) ∙ c.if-is_at.true in
    omega (arith, place, place_there c.args.key c.self.inside.items.items c.self.invariant there)

pub invariant_of-self : goal.invariant_of-self
invariant_of-self c =
    let place : c.place_of-place.result ≡ length (before c.args.key c.self.inside.items.items) =
    c.place_of-place.ensures.value ∙ (λ i. length (before (c.as_str.ensures i) (c.deref.ensures.value i))) in
    let there : is_there c.args.key c.self.inside.items.items (length (before c.args.key c.self.inside.items.items)) ≡ true =
    sym (c.is_at.ensures.value ∙ (λ i. is_there (c.as_str-2.ensures i) (c.deref-2.ensures.value i) (place i))) ∙ c.if-is_at.true in
    ap ascend (c.put_at.ensures.value
    ∙ ap (λ place. slice_set c.self.inside.items.items place (record { key = c.args.key; value = c.args.value })) place
    ∙ set_there c.args.key c.args.value c.self.inside.items.items c.self.invariant there)
    ∙ ascend-with_word c.args.key c.args.value c.self.inside.items.items c.self.invariant

pub returns-then-is_at-clause-took : goal.returns-then-is_at-clause-took
returns-then-is_at-clause-took c =
    let place : c.place_of-place.result ≡ length (before c.args.key c.self.inside.items.items) =
    c.place_of-place.ensures.value ∙ (λ i. length (before (c.as_str.ensures i) (c.deref.ensures.value i))) in
    let there : is_there c.args.key c.self.inside.items.items (length (before c.args.key c.self.inside.items.items)) ≡ true =
    sym (c.is_at.ensures.value ∙ (λ i. is_there (c.as_str-2.ensures i) (c.deref-2.ensures.value i) (place i))) ∙ c.if-is_at.true in
    c.put_at.ensures.value
    ∙ ap (λ place. slice_set c.self.inside.items.items place (record { key = c.args.key; value = c.args.value })) place
    ∙ set_there c.args.key c.args.value c.self.inside.items.items c.self.invariant there
    ∙ ap (with_word c.args.key c.args.value) c.self.view_is

pub insert-requires : goal.insert-requires
insert-requires c =
    let place : c.place_of-place.result ≡ length (before c.args.key c.self.inside.items.items) =
    c.place_of-place.ensures.value ∙ (λ i. length (before (c.as_str.ensures i) (c.deref.ensures.value i))) in
    let there : is_there c.args.key c.self.inside.items.items (length (before c.args.key c.self.inside.items.items)) ≡ false =
    sym (c.is_at.ensures.value ∙ (λ i. is_there (c.as_str-2.ensures i) (c.deref-2.ensures.value i) (place i))) ∙ c.if-is_at.false in
    omega (arith, place, place_within c.args.key c.self.inside.items.items c.self.invariant)

pub invariant_of-self-2 : goal.invariant_of-self-2
invariant_of-self-2 c =
    let place : c.place_of-place.result ≡ length (before c.args.key c.self.inside.items.items) =
    c.place_of-place.ensures.value ∙ (λ i. length (before (c.as_str.ensures i) (c.deref.ensures.value i))) in
    let there : is_there c.args.key c.self.inside.items.items (length (before c.args.key c.self.inside.items.items)) ≡ false =
    sym (c.is_at.ensures.value ∙ (λ i. is_there (c.as_str-2.ensures i) (c.deref-2.ensures.value i) (place i))) ∙ c.if-is_at.false in
    ap ascend (c.in_ok-insert.ensures.items
    ∙ ap (λ place. insert c.self.inside.items.items place (record { key = c.args.key; value = c.args.value })) place
    ∙ inserted c.args.key c.args.value c.self.inside.items.items c.self.invariant there)
    ∙ ascend-with_word c.args.key c.args.value c.self.inside.items.items c.self.invariant

pub returns-clause-took : goal.returns-clause-took
returns-clause-took c =
    let place : c.place_of-place.result ≡ length (before c.args.key c.self.inside.items.items) =
    c.place_of-place.ensures.value ∙ (λ i. length (before (c.as_str.ensures i) (c.deref.ensures.value i))) in
    let there : is_there c.args.key c.self.inside.items.items (length (before c.args.key c.self.inside.items.items)) ≡ false =
    sym (c.is_at.ensures.value ∙ (λ i. is_there (c.as_str-2.ensures i) (c.deref-2.ensures.value i) (place i))) ∙ c.if-is_at.false in
    c.in_ok-insert.ensures.items
    ∙ ap (λ place. insert c.self.inside.items.items place (record { key = c.args.key; value = c.args.value })) place
    ∙ inserted c.args.key c.args.value c.self.inside.items.items c.self.invariant there
    ∙ ap (with_word c.args.key c.args.value) c.self.view_is
