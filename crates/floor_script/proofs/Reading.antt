-- What the bytes of an input leave that are run as a text.
use Rattle.std.proofs.Common.{◌≡◌, ℕ, false, List, subst, sym, inl, inr, arith}
use Rattle.std.proofs.KnownBytes.{Appends-nil}
use Rattle.std.specs.Prelude.{Option, Result, Ok, Err, MatchResult}
use Rattle.floor_script.specs.Input.{Exits, IsInput, LeavesInput, RanInput}
use Rattle.floor_script.specs.Names.{status_of}
use Rattle.floor_script.specs.Run.{Leaves, Ran}
use Rattle.floor_script.specs.declared.fault.RunFault.{RunFault}
use Rattle.floor_script.specs.declared.fault.RunFault.TheVariants as fault_of
use Rattle.floor_script.specs.steps.Running.{EndsRead, LeavesBytes}

-- what a text leaves, the bytes do
pub leaves_bytes : (result : Result (Unit {0}) RunFault) (text bytes : List ℕ) (was is : Option (List ℕ)) → text ≡ bytes → MatchResult result (λ _. Ran text false was is) (λ fault. Leaves fault text was is) →
    MatchResult result (λ _. Ran bytes false was is) (λ fault. LeavesBytes fault bytes was is)
leaves_bytes (Ok v) text bytes was is e h = subst (λ (l : List ℕ). Ran l false was is) e h
leaves_bytes (Err fault_of.Refused) text bytes was is e h = subst (λ (l : List ℕ). Leaves fault_of.Refused l was is) e h
leaves_bytes (Err fault_of.CannotRead) text bytes was is e h = absurd h
leaves_bytes (Err fault_of.CannotWrite) text bytes was is e h = subst (λ (l : List ℕ). Leaves fault_of.CannotWrite l was is) e h
leaves_bytes (Err fault_of.Memory) text bytes was is e h = subst (λ (l : List ℕ). Leaves fault_of.Memory l was is) e h

-- and what these leave, the input does that they are all of
pub leaves_input : (result : Result (Unit {0}) RunFault) (bytes : List ℕ) (had has was is : Option (List ℕ)) → IsInput had has bytes → MatchResult result (λ _. Ran bytes false was is) (λ fault. LeavesBytes fault bytes was is) →
    MatchResult result (λ _. RanInput false had has was is) (λ fault. LeavesInput fault had has was is)
leaves_input (Ok v) bytes had has was is input h = record { text = bytes; input = input; ran = h }
leaves_input (Err fault_of.Refused) bytes had has was is input h = record { text = bytes; input = input; ran = h }
leaves_input (Err fault_of.CannotRead) bytes had has was is input h = h
leaves_input (Err fault_of.CannotWrite) bytes had has was is input h = record { text = bytes; input = input; began = h }
leaves_input (Err fault_of.Memory) bytes had has was is input h = inr (record { text = bytes; input = input; began = h })

-- where a read ends the run nothing was printed
pub leaves_unread : (fault : RunFault) (had has was : Option (List ℕ)) → EndsRead fault → LeavesInput fault had has was was
leaves_unread fault_of.Refused had has was h = absurd h
leaves_unread fault_of.CannotRead had has was h = Appends-nil was
leaves_unread fault_of.CannotWrite had has was h = absurd h
leaves_unread fault_of.Memory had has was h = inl (Appends-nil was)

-- the status of a run that came to its end
pub exits_ok : (had has was is : Option (List ℕ)) → RanInput false had has was is → Exits 0 had has was is
exits_ok had has was is h = record { ran = λ e. h; broken = λ e. cc; refused = λ e. cc; within = omega arith }

-- and of one that ended by a fault
pub exits_err : (fault : RunFault) (status : ℕ) (had has was is : Option (List ℕ)) → status ≡ status_of fault → LeavesInput fault had has was is → Exits status had has was is
exits_err fault status had has was is e h = subst (λ (n : ℕ). Exits n had has was is) (sym e) (by fault h)
  where
    by : (f : RunFault) → LeavesInput f had has was is → Exits (status_of f) had has was is
    by fault_of.Refused left = record { ran = λ e. cc; broken = λ e. cc; refused = λ e. left; within = omega arith }
    by fault_of.CannotRead left = record { ran = λ e. cc; broken = λ e. inl left; refused = λ e. cc; within = omega arith }
    by fault_of.CannotWrite left = record { ran = λ e. cc; broken = λ e. inr left; refused = λ e. cc; within = omega arith }
    by fault_of.Memory left = record { ran = λ e. cc; broken = λ e. left; refused = λ e. cc; within = omega arith }
