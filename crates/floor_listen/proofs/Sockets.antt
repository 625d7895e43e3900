-- The sockets of a port, visited one after another.
use Rattle.std.proofs.Common.{◌≡◌, ◌∙◌, ℕ, Bool, true, false, cond, List, [], ◌∷◌, length, map, ap, sym, refl, subst, eq-eqb, arith}
use Rattle.std.specs.Prelude.{◌==◌, filter}
use Rattle.std.specs.List.{FoldsTo}
use Rattle.floor_listen.specs.Connections.{sockets_of}
use Rattle.floor_listen.specs.declared.connections.Open.{Open}

chosen : {S : Type 0} (b : Bool) (first : Open S) (l : List (Open S)) → b ≡ true → map (λ o. o.socket) (cond b (first ∷ l) l) ≡ first.socket ∷ map (λ o. o.socket) l
chosen true first l e = refl
chosen false first l e = cc

-- the first socket is one of the port's
front_socket : {S : Type 0} (port : ℕ) (first : Open S) (behind all : List (Open S)) → all ≡ first ∷ behind → first.port ≡ port
    → sockets_of port all ≡ first.socket ∷ sockets_of port behind
front_socket port first behind all e p =
    ap (λ l. sockets_of port l) e ∙ chosen (first.port == port) first (filter (λ o. o.port == port) behind) (eq-eqb _ _ p)

-- it is visited, and then those behind it
pub visited_front : {S F : Type 0} (R : F → S → F → Type 0) (port : ℕ) (first : Open S) (behind all : List (Open S)) (f g last : F)
    → all ≡ first ∷ behind → first.port ≡ port → R f first.socket g → FoldsTo R g (sockets_of port behind) last → FoldsTo R f (sockets_of port all) last
visited_front {S} R port first behind all f g last e p visited more =
    let P : List S → Type 0 = λ l. FoldsTo R f l last in
    subst P (sym (front_socket port first behind all e p)) (g, visited, more)

-- none is left to visit
pub visited_none : {S F : Type 0} (R : F → S → F → Type 0) (port : ℕ) (rest : List (Open S)) (f : F) → length rest ≡ 0 → FoldsTo R f (sockets_of port rest) f
visited_none R port [] f e = refl
visited_none R port (first ∷ rest) f e = absurd (omega (arith, e))
