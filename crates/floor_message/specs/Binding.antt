-- Whom a connection asks for.
use Rattle.std.specs.Prelude.{ℕ, List}
use Rattle.floor_message.specs.declared.ask.Binding as declared

-- a connection's conference and user, and the users of the conference
pub record Binding : Type 0 where
  pub conference : ℕ
  pub user : ℕ
  pub users : List ℕ

-- the binding that is handed in
abbrev pub binding_of : declared.Binding → Binding
binding_of b = record { conference = b.conference; user = b.user; users = b.users.now }
