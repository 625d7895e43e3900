-- What is served of bytes that came of a member, and whose stream is over then.
use Rattle.std.proofs.Common.{◌≡◌, ℕ, Bool, true, false, List, refl, sym, ap, ◌∙◌, subst}
use Rattle.std.specs.Prelude.{◌&&◌, Option, Result}
use Rattle.floor_hub.specs.declared.refusal.HubRefusal.{HubRefusal}
use Rattle.floor_meetings.specs.declared.meetings.Meetings.{Meetings}
use Rattle.floor_meetings.specs.Runs.{Came, Does, Ended}
use Rattle.floor_connections.specs.declared.announced.Announced.{Announced}
use Rattle.floor_connections.specs.declared.connections.Connections.{Connections}
use Rattle.floor_connections.specs.declared.table.Table.{Table}
use Rattle.floor_connections.specs.Announced.{announcing, has_too_long, own_len, own_of}
use Rattle.floor_connections.specs.Log.{GoesOn}
use Rattle.floor_connections.specs.Received.{SameReceived}
use Rattle.floor_connections.specs.Table.{announced_of, socket_at}
use Rattle.floor_turn.specs.Hearing.{Hears, is_served}

-- these are what was handed in, and whether its stream is over was looked at behind it
pub hears_by : (socket : ℕ) (own handed : List ℕ) (too found served : Bool) (a : Result Bool HubRefusal) (old between new : Meetings) → handed ≡ own → served ≡ is_served a → found ≡ too → Does (Came socket handed a) old between → ((served && found) ≡ true → Does (Ended socket) between new) → ((served && found) ≡ false → new ≡ between) → Hears socket own too old new
hears_by socket own handed too found served a old between new same is has does over goes_on =
    let both : (served && found) ≡ (is_served a && too) = ap (λ (b : Bool). b && found) is ∙ ap (λ (b : Bool). is_served a && b) has in
    record {
      answer = a;
      between = between;
      heard = subst (λ (bytes : List ℕ). Does (Came socket bytes a) old between) same does;
      over = λ e. over (both ∙ e);
      goes_on = λ e. goes_on (both ∙ e);
    }

-- the same of another table in which it stands as it did
pub hears_at : (socket : ℕ) (longest : Option ℕ) (bytes : List ℕ) (a b : Table) (old new : Meetings) → b ≡ a → Hears socket (own_of longest (announced_of (socket_at b socket)) bytes) (has_too_long (announcing longest bytes (announced_of (socket_at b socket)))) old new → Hears socket (own_of longest (announced_of (socket_at a socket)) bytes) (has_too_long (announcing longest bytes (announced_of (socket_at a socket)))) old new
hears_at socket longest bytes a b old new same h = subst (λ (t : Table). Hears socket (own_of longest (announced_of (socket_at t socket)) bytes) (has_too_long (announcing longest bytes (announced_of (socket_at t socket)))) old new) same h

-- and of whom the next byte stands there
pub hears_of : (socket : ℕ) (longest : Option ℕ) (bytes : List ℕ) (o p : Option Announced) (old new : Meetings) → p ≡ o → Hears socket (own_of longest p bytes) (has_too_long (announcing longest bytes p)) old new → Hears socket (own_of longest o bytes) (has_too_long (announcing longest bytes o)) old new
hears_of socket longest bytes o p old new same h = subst (λ (q : Option Announced). Hears socket (own_of longest q bytes) (has_too_long (announcing longest bytes q)) old new) same h

pub not_both : (served found : Bool) → served ≡ false → (served && found) ≡ true → ⊥
not_both true found none e = cc
not_both false found none e = cc

pub not_found : (served found : Bool) → found ≡ false → (served && found) ≡ true → ⊥
not_found true true none e = cc
not_found true false none e = cc
not_found false found none e = cc

pub not_neither : (served found : Bool) → served ≡ true → found ≡ true → (served && found) ≡ false → ⊥
not_neither true true is has e = cc
not_neither true false is has e = cc
not_neither false found is has e = cc
