use Rattle.std.proofs.Common.{◌≡◌, ◌<◌, ℕ, get_or}
use Rattle.floor_config.specs.declared.users.User.{User}
use Rattle.floor_connections.specs.Ports.{HasPort}
use Rattle.floor_connections.specs.Steps.{Steps}
use Rattle.floor_connections.proofs.connections.Connections.listen_each.Given as goal

-- the users so far have their ports
abbrev pub invariant-loop-user : goal.invariant-loop-user
invariant-loop-user l = record {
  ports : (k : ℕ) (d : User) → k < l.user-index → HasPort l.self.table l.self.sockets l.conference (get_or l.user-items k d);
  users : l.user-items ≡ l.config.users;
  same : l.config ≡ l.fn.config;
  steps : Steps l.fn.self.sockets l.self.sockets;
}
