-- Bytes that come of a member.
use Rattle.std.proofs.Common.{◌≡◌, ℕ, List, inl, inr, Some, None, refl, ap, ◌∙◌, subst}
use Rattle.std.specs.Prelude.{Option, option_map}
use Rattle.std.proofs.lemmas.Bool.Decides.{eqb_tells}
use Rattle.floor_connections.specs.declared.table.Socket.{Socket}
use Rattle.floor_connections.specs.declared.table.Socket.TheVariants as socket
use Rattle.floor_connections.specs.declared.table.Table.{Table}
use Rattle.floor_connections.specs.Announced.{announcing}
use Rattle.floor_connections.specs.Table.{OthersStay, announced_of, heard, is_member, socket_at}

-- where the next byte of a member stands behind them
pub heard_announced : (longest : ℕ) (bytes : List ℕ) (o : Option Socket) → announced_of (option_map (heard longest bytes) o) ≡ announcing (Some longest) bytes (announced_of o)
heard_announced longest bytes None = refl
heard_announced longest bytes (Some (socket.Listener l)) = refl
heard_announced longest bytes (Some (socket.AtDoor peer newcomer)) = refl
heard_announced longest bytes (Some socket.Turned) = refl
heard_announced longest bytes (Some (socket.Client place)) = refl
heard_announced longest bytes (Some (socket.Waiting peer named)) = refl
heard_announced longest bytes (Some (socket.Gone peer end)) = refl
heard_announced longest bytes (Some (socket.Member peer end is_leaving announced)) = refl

heard_member : (longest : ℕ) (bytes : List ℕ) (o : Option Socket) → is_member (option_map (heard longest bytes) o) ≡ is_member o
heard_member longest bytes None = refl
heard_member longest bytes (Some (socket.Listener l)) = refl
heard_member longest bytes (Some (socket.AtDoor peer newcomer)) = refl
heard_member longest bytes (Some socket.Turned) = refl
heard_member longest bytes (Some (socket.Client place)) = refl
heard_member longest bytes (Some (socket.Waiting peer named)) = refl
heard_member longest bytes (Some (socket.Gone peer end)) = refl
heard_member longest bytes (Some (socket.Member peer end is_leaving announced)) = refl

-- whoever is a member is one still
pub heard_members : (slot longest : ℕ) (bytes : List ℕ) (old new : Table) → socket_at new slot ≡ option_map (heard longest bytes) (socket_at old slot) → OthersStay slot old new → (k : ℕ) → is_member (socket_at new k) ≡ is_member (socket_at old k)
heard_members slot longest bytes old new here others k =
    elim (eqb_tells slot k) [ inl t ↦ subst (λ (j : ℕ). is_member (socket_at new j) ≡ is_member (socket_at old j)) t.1 (ap is_member here ∙ heard_member longest bytes (socket_at old slot)) | inr t ↦ ap is_member (others k t.0) ]
