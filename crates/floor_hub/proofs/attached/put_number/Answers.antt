use Rattle.std.proofs.Common.{◌≡◌, ◌<◌, ◌≤◌, ℕ, true, false, List, get_or, length, subst, sym}
use Rattle.std.specs.Prelude.{Err, IsOk, Ok, Result, if◌then◌else◌, is_ok}
use Rattle.std.specs.List.{insert}
use Rattle.std.specs.List.Sorted.{IsBinarySearchResult}
use Rattle.std.specs.Ordering.{nat_cmp}
use Rattle.std.proofs.lemmas.List.Sorted.{searched}
use Rattle.floor_hub.specs.Concerned.{AscendFrom}
use Rattle.floor_hub.proofs.Putting.{adds-inserted, adds-there, insert-ascends, not-in, rises}
use Rattle.floor_hub.proofs.attached.put_number.Goals as goal

pub returns-in-Ok-clause-put : goal.returns-in-Ok-clause-put
returns-in-Ok-clause-put c =
    let at = searched c.args.numbers.now.items c.args.number (Ok c.in-Ok.field-0)
    (subst (λ (z : List ℕ). IsBinarySearchResult (λ y. nat_cmp y c.args.number) z (Ok c.in-Ok.field-0)) c.deref.ensures.value c.in-Ok.ensures.position)
    (λ i j l m. rises 0 c.args.numbers.now.items c.requires.ascending i j l m) in
    adds-there c.in-Ok.field-0 c.args.number c.args.numbers.now.items at.0 at.1

-- where it goes
at : (c : goal.After-insert-room) → (c.in-Err.place ≤ length c.args.numbers.now.items) × ((k : ℕ) → k < c.in-Err.place → get_or c.args.numbers.now.items k 0 < c.args.number)
    × ((k : ℕ) → c.in-Err.place ≤ k → k < length c.args.numbers.now.items → c.args.number < get_or c.args.numbers.now.items k 0)
at c = searched c.args.numbers.now.items c.args.number (Err c.in-Err.place)
    (subst (λ (z : List ℕ). IsBinarySearchResult (λ y. nat_cmp y c.args.number) z (Err c.in-Err.place)) c.deref.ensures.value c.in-Err.ensures.position)
    (λ i j l m. rises 0 c.args.numbers.now.items c.requires.ascending i j l m)

is-in : {T E : Type 0} (r : Result T E) (now ys zs : List ℕ) → IsOk r → now ≡ (if is_ok r then ys else zs) → now ≡ ys
is-in (Ok v) now ys zs ok e = e
is-in (Err x) now ys zs ok e = absurd (never ok)
  where
    never : false ≡ true → ⊥
    never w = cc

-- there is room for it
put : (c : goal.After-insert-room) → c.insert-room.new.self.items ≡ insert c.args.numbers.now.items c.in-Err.place c.args.number
put c = is-in c.insert-room.result c.insert-room.new.self.items (insert c.args.numbers.now.items c.in-Err.place c.args.number) c.args.numbers.now.items
    (c.insert-room.ensures.succeeds (c.requires.room (not-in 0 c.in-Err.place c.args.number c.args.numbers.now.items (at c).1 (at c).2))) c.insert-room.ensures.items

pub returns-in-Err-clause-ascending : goal.returns-in-Err-clause-ascending
returns-in-Err-clause-ascending c =
    subst (AscendFrom 0) (sym (put c)) (insert-ascends 0 c.in-Err.place c.args.number c.args.numbers.now.items c.requires.ascending c.requires.first (at c).0 (at c).1 (at c).2)

pub returns-in-Err-clause-put : goal.returns-in-Err-clause-put
returns-in-Err-clause-put c = adds-inserted c.in-Err.place c.args.number c.args.numbers.now.items c.insert-room.new.self.items (put c)
