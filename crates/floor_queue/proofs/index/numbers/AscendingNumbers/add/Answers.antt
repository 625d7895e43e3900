use Rattle.std.proofs.Common.{◌≡◌, ◌∙◌, ap, arith, sym, true, false, Bool, ℕ, List}
use Rattle.std.specs.Prelude.{◌==◌, nat_lt, not, insert, is_ok, if◌then◌else◌}
use Rattle.std.specs.List.{slice_get}
use Rattle.std.specs.Option.{option_map_or}
use Rattle.std.proofs.lemmas.List.Sums.{prefix_len-le-length}
use Rattle.floor_queue.specs.steps.Numbers.{ascend, with_number}
use Rattle.floor_queue.proofs.Numbering.{ascend-with_number, place_from, stands, insert-number, with_number-stands}
use Rattle.floor_queue.proofs.index.numbers.AscendingNumbers.add.Goals as goal

either : (b : Bool) (xs ys : List ℕ) → ascend xs ≡ true → ascend ys ≡ true → ascend (if b then xs else ys) ≡ true
either true xs ys h k = h
either false xs ys h k = k

-- whether the number stands among those inside
at : (k place : ℕ) (inside seen slice : List ℕ) (b : Bool) → inside ≡ seen → place ≡ place_from k seen → slice ≡ inside →
    b ≡ option_map_or (λ n. n == k) (slice_get slice place) false → b ≡ stands k inside
at k place inside seen slice b v p s h =
    h ∙ ap (λ n. option_map_or (λ n. n == k) (slice_get slice n) false) (p ∙ ap (place_from k) (sym v))
    ∙ ap (λ (ns : List ℕ). option_map_or (λ n. n == k) (slice_get ns (place_from k inside)) false) s

pub insert-requires : goal.insert-requires
insert-requires c =
    let place : c.first_from-place.result ≡ place_from c.args.number c.self.inside.numbers.items = c.first_from-place.ensures ∙ ap (place_from c.args.number) (sym c.self.view_is) in
    omega (arith, place, prefix_len-le-length (λ n. not (not (nat_lt n c.args.number))) c.self.inside.numbers.items)

pub invariant_of-self : goal.invariant_of-self
invariant_of-self c =
    let place : c.first_from-place.result ≡ place_from c.args.number c.self.inside.numbers.items = c.first_from-place.ensures ∙ ap (place_from c.args.number) (sym c.self.view_is) in
    let stands_at : c.stands_at.result ≡ stands c.args.number c.self.inside.numbers.items =
    at c.args.number c.first_from-place.result c.self.inside.numbers.items c.args.self.now c.deref.result.now c.stands_at.result c.self.view_is c.first_from-place.ensures c.deref.ensures.value c.stands_at.ensures in
    ap ascend c.insert.ensures.items
    ∙ either (is_ok c.insert.result) (insert c.self.inside.numbers.items c.first_from-place.result c.args.number) c.self.inside.numbers.items
    (ap ascend (ap (λ n. insert c.self.inside.numbers.items n c.args.number) place ∙ insert-number c.args.number c.self.inside.numbers.items (sym stands_at ∙ c.if-not-stands_at.true))
    ∙ ascend-with_number c.args.number c.self.inside.numbers.items c.self.invariant)
    c.self.invariant

pub returns-in_ok-insert : goal.returns-in_ok-insert
returns-in_ok-insert c =
    let place : c.first_from-place.result ≡ place_from c.args.number c.self.inside.numbers.items = c.first_from-place.ensures ∙ ap (place_from c.args.number) (sym c.self.view_is) in
    let stands_at : c.stands_at.result ≡ stands c.args.number c.self.inside.numbers.items =
    at c.args.number c.first_from-place.result c.self.inside.numbers.items c.args.self.now c.deref.result.now c.stands_at.result c.self.view_is c.first_from-place.ensures c.deref.ensures.value c.stands_at.ensures in
    record {
      next = c.in_ok-insert.ensures.items ∙ ap (λ n. insert c.self.inside.numbers.items n c.args.number) place
          ∙ insert-number c.args.number c.self.inside.numbers.items (sym stands_at ∙ c.if-not-stands_at.true)
          ∙ ap (with_number c.args.number) c.self.view_is;
    }

pub returns-else-not-stands_at : goal.returns-else-not-stands_at
returns-else-not-stands_at c =
    let stands_at : c.stands_at.result ≡ stands c.args.number c.self.inside.numbers.items =
    at c.args.number c.first_from-place.result c.self.inside.numbers.items c.args.self.now c.deref.result.now c.stands_at.result c.self.view_is c.first_from-place.ensures c.deref.ensures.value c.stands_at.ensures in
    record { next = sym (ap (with_number c.args.number) (sym c.self.view_is) ∙ with_number-stands c.args.number c.self.inside.numbers.items (sym stands_at ∙ c.if-not-stands_at.false) ∙ c.self.view_is) }
