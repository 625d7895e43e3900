-- What a reading that is right tells of the bytes.
use Rattle.std.proofs.Common.{◌≡◌, ◌⊎◌, inl, inr, ℕ, ◌+◌, List, length, Option, Some, None, refl, ◌∙◌, ap, arith}
use Rattle.std.specs.Prelude.{Result, Ok, Err, IfOk, IfErr, IsErr, MatchResult}
use Rattle.floor_wire.specs.Attributes.{Attributes}
use Rattle.floor_wire.specs.Spelling.{Spells, IsWritable}
use Rattle.floor_wire.specs.Spelled.{spelled}
use Rattle.floor_wire.specs.Bytes.{IsBytes}
use Rattle.floor_wire.specs.Fault.{HasFault, IsFaultFrom, fault_at_place}
use Rattle.floor_wire.specs.declared.fault.Cause.{Cause}
use Rattle.floor_wire.specs.declared.fault.Cause.TheVariants.{BadLength, Overrun}
use Rattle.floor_wire.specs.declared.fault.WireFault.{WireFault}
use Rattle.floor_wire.specs.declared.fault.WireFault.TheVariants as faults
use Rattle.floor_wire.proofs.Found.{found_is_spelled}
use Rattle.floor_wire.proofs.Spelled.{spelled_found}
use Rattle.floor_wire.proofs.Rewritten.{spelled_writable}
use Rattle.floor_wire.proofs.OneReading.{unique, exclusive, one_fault}

pub only_of : (r : Result Attributes WireFault) (s : List ℕ) → IfOk r (λ a. Spells a s) → IfErr r (λ e. IsFaultFrom 0 s e)
    → (a : Attributes) → Spells a s → MatchResult r (λ x. x ≡ a) (λ e. e ≡ faults.Memory)
only_of (Ok x) s p q a h = unique x a s p h
only_of (Err faults.Memory) s p q a h = refl
only_of (Err (faults.BadLength place)) s p q a h = absurd (exclusive a s q.0 BadLength q.2 h)
only_of (Err (faults.Overrun place)) s p q a h = absurd (exclusive a s q.0 Overrun q.2 h)

told_same : (s : List ℕ) (place at : ℕ) (c cause : Cause) → (w : (x : ℕ) × (place ≡ 0 + x) × HasFault s x c) → HasFault s at cause → fault_at_place c place ≡ fault_at_place cause at
told_same s place at c cause w f =
    let same = one_fault s w.0 at c cause w.2 f in
    let places : place ≡ at = omega (arith, w.1, same.0) in
    ap (λ x. fault_at_place x place) same.1 ∙ ap (λ x. fault_at_place cause x) places

pub told_of : (r : Result Attributes WireFault) (s : List ℕ) → IfOk r (λ a. Spells a s) → IfErr r (λ e. IsFaultFrom 0 s e)
    → (at : ℕ) (cause : Cause) → HasFault s at cause → IfErr r (λ e. (e ≡ faults.Memory) ⊎ (e ≡ fault_at_place cause at)) × IsErr r
told_of (Ok x) s p q at cause f = absurd (exclusive x s at cause f p)
told_of (Err faults.Memory) s p q at cause f = (inl refl, refl)
told_of (Err (faults.BadLength place)) s p q at cause f = (inr (told_same s place at BadLength cause q f), refl)
told_of (Err (faults.Overrun place)) s p q at cause f = (inr (told_same s place at Overrun cause q f), refl)

none_of_fault : (s : List ℕ) (at : ℕ) (cause : Cause) → IsBytes s → HasFault s at cause → (o : Option Attributes) → spelled s ≡ o → spelled s ≡ None
none_of_fault s at cause bytes f None e = e
none_of_fault s at cause bytes f (Some a) e = absurd (exclusive a s at cause f (found_is_spelled s a bytes e))

-- what is computed of the bytes
pub value_of : (r : Result Attributes WireFault) (s : List ℕ) → IsBytes s → IfOk r (λ a. Spells a s) → IfErr r (λ e. IsFaultFrom 0 s e)
    → MatchResult r (λ a. spelled s ≡ Some a) (λ e. (e ≡ faults.Memory) ⊎ (spelled s ≡ None))
unfolding spelled
value_of (Ok x) s bytes p q = spelled_found (length s) x s (omega arith) p
value_of (Err faults.Memory) s bytes p q = inl refl
value_of (Err (faults.BadLength place)) s bytes p q = inr (none_of_fault s q.0 BadLength bytes q.2 (spelled s) refl)
value_of (Err (faults.Overrun place)) s bytes p q = inr (none_of_fault s q.0 Overrun bytes q.2 (spelled s) refl)

pub writable_of : (r : Result Attributes WireFault) (s : List ℕ) → IsBytes s → IfOk r (λ a. Spells a s) → IfOk r IsWritable
writable_of (Ok x) s bytes p = spelled_writable x s bytes p
writable_of (Err e) s bytes p = tt
