-- Those that hold a floor are the first of its line.
use Rattle.std.proofs.Common.{◌≡◌, ◌+◌, Bool, true, false, cond, zero, suc, List, [], ◌∷◌, get_or, refl, ap, arith}
use Rattle.std.specs.Prelude.{not, count_by}
use Rattle.std.specs.List.{position_or_len}
use Rattle.std.specs.List.Sorted.{IsPartitionedBy}
use Rattle.std.proofs.lemmas.List.Sums.{AllPass-from_list_all}
use Rattle.floor_queue.specs.declared.index.rank.Rank.{Rank}
use Rattle.floor_queue.specs.steps.Lines.{before, first_by, is_in_order}
use Rattle.floor_queue.proofs.Counts.{one, count-cons, and_left, and_right, count_none, list_all_mono}

-- a rank, for places beyond the list
pub no_rank : Rank
no_rank = record { is_granted = false; waits = false; is_express = false; priority = 0; number = 0 }

-- whoever stands behind one that doesn't hold the floor doesn't hold it
holds_not : (k y : Rank) → y.is_granted ≡ false → not (before k y) ≡ true → not k.is_granted ≡ true
unfolding before
holds_not k y e n = by k.is_granted y.is_granted _ e n
  where
    by : (a b t : Bool) → b ≡ false → not (first_by a b t) ≡ true → not a ≡ true
    by false b t e n = refl
    by true false t e n = n
    by true true t e n = absurd cc

-- the holders come first
pub partitioned-granted : (xs : List Rank) → is_in_order xs ≡ true → IsPartitionedBy (λ k. k.is_granted) xs
partitioned-granted [] h i j d l within e = absurd (omega (arith, within))
partitioned-granted (y ∷ ys) h zero zero d l within e = e
partitioned-granted (y ∷ ys) h (suc i) zero d l within e = absurd (omega (arith, l))
partitioned-granted (y ∷ ys) h (suc i) (suc j) d l within e = partitioned-granted ys (and_right _ _ h) i j d (omega (arith, l)) (omega (arith, within)) e
partitioned-granted (y ∷ ys) h zero (suc j) d l within e = by y.is_granted refl
  where
    clash : (b : Bool) → b ≡ true → not b ≡ true → false ≡ true
    clash true u n = n
    clash false u n = u

    by : (b : Bool) → y.is_granted ≡ b → b ≡ true
    by true u = refl
    by false u =
        clash (get_or ys j d).is_granted e
        (AllPass-from_list_all (λ (k : Rank). not k.is_granted) ys (list_all_mono (λ (k : Rank). not (before k y)) (λ (k : Rank). not k.is_granted) (λ k n. holds_not k y u n) ys (and_left _ _ h)) j d (omega (arith, within)))

-- so that their number is the place of the first that doesn't hold the floor
pub count-granted : (xs : List Rank) → is_in_order xs ≡ true → count_by (λ k. k.is_granted) xs ≡ position_or_len (λ k. not k.is_granted) xs
count-granted [] h = refl
count-granted (y ∷ ys) h = by y.is_granted refl (count-cons (λ (k : Rank). k.is_granted) y ys) (count-granted ys (and_right _ _ h))
  where
    by : (b : Bool) → y.is_granted ≡ b → count_by (λ (k : Rank). k.is_granted) (y ∷ ys) ≡ one y.is_granted + count_by (λ (k : Rank). k.is_granted) ys →
        count_by (λ (k : Rank). k.is_granted) ys ≡ position_or_len (λ (k : Rank). not k.is_granted) ys →
        count_by (λ (k : Rank). k.is_granted) (y ∷ ys) ≡ cond (not (not b)) (1 + position_or_len (λ (k : Rank). not k.is_granted) ys) 0
    by true e c rest = omega (arith, c, rest, ap one e)
    by false e c rest =
        let none : count_by (λ (k : Rank). k.is_granted) ys ≡ 0 = count_none (λ (k : Rank). k.is_granted) ys
        (list_all_mono (λ (k : Rank). not (before k y)) (λ (k : Rank). not k.is_granted) (λ k n. holds_not k y e n) ys (and_left _ _ h)) in
        omega (arith, c, none, ap one e)
