-- What waits in the hub for a connection is taken, up to a bound.
use Rattle.std.proofs.Common.{◌≡◌, ◌⊎◌, ℕ, false, List, sym, ◌∙◌, subst, Some, None}
use Rattle.std.specs.Prelude.{Result, Ok, Err, IfOk, nat_eq}
use Rattle.std.specs.Map.{lookup}
use Rattle.floor_hub.specs.declared.refusal.HubRefusal.{HubRefusal}
use Rattle.floor_hub.specs.declared.step.Taken.{Taken}
use Rattle.floor_hub.specs.Connections.{connection_at}
use Rattle.floor_hub.specs.Hub.{Hub}
use Rattle.floor_hub.specs.Rooms.{first_at}
use Rattle.floor_loop.specs.Loop.{IsFull, Outgoing}
use Rattle.floor_loop.specs.steps.Taken.{Fills}
use Rattle.floor_loop.proofs.Stepping.{some-out}

-- as much is on the way of the connection as may be, or none waits
pub fills-all : (number : ℕ) (after : List (ℕ × Outgoing)) (new : Hub) (res : Result Taken HubRefusal) (p : Outgoing) → lookup (nat_eq number) after ≡ Some p →
    IfOk res (λ taken. taken.is_refused ≡ false → IsFull p ⊎ (first_at new (connection_at new.connections number) ≡ None)) → IfOk res (λ taken. taken.is_refused ≡ false → Fills number after new)
fills-all number after new (Err r) p is whole = tt
fills-all number after new (Ok taken) p is whole = λ e q is_q. subst (λ (z : Outgoing). IsFull z ⊎ (first_at new (connection_at new.connections number) ≡ None)) (some-out p q (sym is ∙ is_q)) (whole e)
