-- What a turn does to the clients: each goes on as it may besides its own line, or one line of one is served.
use Rattle.std.proofs.Common.{◌⊎◌, ℕ, Bool, inl, inr}
use Rattle.floor_desk.specs.Attending.{Attends, beside}
use Rattle.floor_desk.specs.declared.callers.Callers.{Callers}
use Rattle.floor_service.specs.Calls.{ServesAfter}

pub served_beside : (draining : Bool) (old new : Callers) → Attends beside old new → (Attends beside old new) ⊎ ((socket : ℕ) × ServesAfter socket draining old new)
served_beside draining old new a = inl a

pub served_one : (socket : ℕ) (draining : Bool) (old new : Callers) → ServesAfter socket draining old new → (Attends beside old new) ⊎ ((socket : ℕ) × ServesAfter socket draining old new)
served_one socket draining old new s = inr (socket, s)
