use Rattle.std.proofs.Common.{◌≡◌, ℕ, true, false, arith, rules}
use Rattle.std.specs.Prelude.{nat_lt}
use Rattle.std.specs.List.Sorted.{IsPartitionPoint}
use Rattle.std.proofs.lemmas.List.Sorted.{IsPartitionPoint-from_clause}
use Rattle.floor_hub.specs.declared.attached.Live.{Live}
use Rattle.floor_hub.proofs.Searching.{none-found, other-there, parted}
use Rattle.floor_hub.proofs.attached.place_of.Goals.{else-place-live-via-then-place-live+else-live-place, else-place-live-via-else-place-live}
use Rattle.floor_hub.proofs.attached.place_of.Goals as goal

pub returns-clause-none : goal.returns-clause-none
returns-clause-none c =
    let n : ℕ = c.args.n in
    let place : ℕ = c.partition_point-place.result in
    let point : IsPartitionPoint (λ (l : Live). nat_lt l.n n ≡ true) (λ (l : Live). nat_lt l.n n ≡ false) c.args.live.now place =
    IsPartitionPoint-from_clause (λ (l : Live). nat_lt l.n n) c.args.live.now place c.partition_point-place.ensures.partitioned (parted n c.args.live.now c.requires.1) (λ a r q k. search rules) in
    none-found n place c.args.live.now c.requires.1 (λ i d l m. point.0 i d (omega arith) l) (λ i d l m. point.1 i d l m)
    (λ d within e. elim c.else-place-live.branch [ else-place-live-via-then-place-live+else-live-place w ↦ other-there c.args.live.now place n d (record { number = 0; n = 0; is_cut = false }) within w.if-live-place.false e | else-place-live-via-else-place-live w ↦ absurd (omega (arith, within, w.if-place-live.false)) ])
