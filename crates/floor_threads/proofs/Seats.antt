-- A seat stays with its conference while its messages are read.
use Rattle.std.proofs.Common.{◌≡◌, ℕ, Bool, List, ap}
use Rattle.std.specs.Prelude.{Option, Result, Ok, Err}
use Rattle.floor_serve.specs.Read.{IsEnd}
use Rattle.floor_serve.specs.Seat.{Seat}
use Rattle.floor_serve.specs.declared.fault.ReadFault.{ReadFault}
use Rattle.floor_serve.specs.declared.fault.ReadFault.TheVariants as fault
use Rattle.floor_serve.specs.declared.reading.ReadEnd.{ReadEnd}
use Rattle.floor_serve.specs.declared.reading.ReadEnd.TheVariants as end

pub same_conference : (limit : ℕ) (result : Result ReadEnd ReadFault) (old new : Seat) (left : Option (List ℕ)) (marked : Bool) (read : List ℕ)
    → IsEnd limit result old new left marked read → new.conference ≡ old.conference
same_conference limit (Ok end.Closed) old new left marked read h = ap (λ s. s.conference) h.0.next
same_conference limit (Ok (end.Cut k)) old new left marked read h = ap (λ s. s.conference) h.0.next
same_conference limit (Err fault.Read) old new left marked read h = ap (λ s. s.conference) h.0.next
same_conference limit (Err fault.TurnLimit) old new left marked read h = ap (λ s. s.conference) h.0.next
same_conference limit (Err (fault.Refused refusal)) old new left marked read h = ap (λ s. s.conference) h.0.record_is.next
same_conference limit (Err fault.Memory) old new left marked read h = ap (λ s. s.conference) h.0.record_is.next
