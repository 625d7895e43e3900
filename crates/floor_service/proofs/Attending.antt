-- What requests do to the clients.
use Rattle.std.proofs.Common.{◌≡◌, ℕ, Bool, Option, None, ap, subst, sym}
use Rattle.floor_clients.specs.Runs.{Step}
use Rattle.floor_desk.specs.Attending.{Attends, GoesOnAt, beside, carried, is_beside}
use Rattle.floor_desk.specs.Callers.{OthersStay, caller_at}
use Rattle.floor_desk.specs.declared.caller.Caller.{Caller}
use Rattle.floor_desk.specs.declared.callers.Callers.{Callers}
use Rattle.floor_desk.proofs.Attended.{attends_same, attends_then, beside_is_carried, stays_at, then_at}
use Rattle.floor_service.specs.Calls.{OthersAttend}

-- nothing was done
pub unattended : (may : ℕ → Step → Bool) (a : Callers) → Attends may a a
unattended = attends_same

-- behind what was done they stayed as they were
pub attended_and_same : (may : ℕ → Step → Bool) (a b c : Callers) → Attends may a b → c ≡ b → Attends may a c
attended_and_same may a b c m same = subst (λ (x : Callers). Attends may a x) (sym same) m

-- one behind another
pub attended_then : (may : ℕ → Step → Bool) (a b c : Callers) → Attends may a b → Attends may b c → Attends may a c
attended_then = attends_then

-- what may be besides a client's own line may be where its request is carried out
pub carried_too : (socket : ℕ) (a b : Callers) → Attends beside a b → Attends (carried socket) a b
carried_too = beside_is_carried

-- at each other socket nobody went on
pub others_stayed : (socket : ℕ) (a b : Callers) → OthersStay socket a b → OthersAttend socket a b
others_stayed socket a b others = λ slot other.
    subst (λ (o : Option Caller). GoesOnAt is_beside (caller_at a slot) o) (sym (others slot other)) (stays_at is_beside (caller_at a slot))

pub others_same : (socket : ℕ) (a b : Callers) → b ≡ a → OthersAttend socket a b
others_same socket a b same = others_stayed socket a b (λ slot other. ap (λ (x : Callers). caller_at x slot) same)

-- each went on, and then the others
pub others_behind : (socket : ℕ) (a b c : Callers) → Attends beside a b → OthersAttend socket b c → OthersAttend socket a c
others_behind socket a b c f g = λ slot other. then_at is_beside (caller_at a slot) (caller_at b slot) (caller_at c slot) (f.here slot) (g slot other)

-- the others, and then each
pub others_before : (socket : ℕ) (a b c : Callers) → OthersAttend socket a b → Attends beside b c → OthersAttend socket a c
others_before socket a b c f g = λ slot other. then_at is_beside (caller_at a slot) (caller_at b slot) (caller_at c slot) (f slot other) (g.here slot)

-- as it was before, where before it nothing was done
pub others_from : (socket : ℕ) (a b c : Callers) → b ≡ a → OthersAttend socket b c → OthersAttend socket a c
others_from socket a b c same f = subst (λ (x : Callers). OthersAttend socket x c) same f

-- where nobody is nobody is then
pub none_comes : (socket : ℕ) (a b : Callers) → Attends beside a b → caller_at a socket ≡ None → caller_at b socket ≡ None
none_comes socket a b f none = subst (λ (o : Option Caller). GoesOnAt is_beside o (caller_at b socket)) none (f.here socket)
