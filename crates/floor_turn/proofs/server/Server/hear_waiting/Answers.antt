use Rattle.std.proofs.Common.{rules, ◌≡◌, ◌∙◌, List, ℕ, ap, drop, refl, subst, take, Some}
use Rattle.std.specs.Prelude.{Option}
use Rattle.floor_meetings.specs.Runs.{Came, Does}
use Rattle.floor_sockets.specs.Sockets.{Sockets}
use Rattle.floor_connections.specs.declared.announced.Announced.{Announced}
use Rattle.floor_connections.specs.declared.announced.Announced.TheVariants.{Before}
use Rattle.floor_connections.specs.declared.connections.Connections.{Connections}
use Rattle.floor_connections.specs.Announced.{own_len, own_of}
use Rattle.floor_connections.specs.Steps.{Steps}
use Rattle.floor_connections.specs.Table.{announced_of, socket_at}
use Rattle.floor_connections.proofs.Steps.{steps_then}
use Rattle.floor_turn.proofs.Moving.{moves_one}
use Rattle.floor_turn.proofs.Sparing.{free_one}
use Rattle.floor_turn.proofs.server.Server.hear_waiting.Goals as goal

pub returns-clause-heard : goal.returns-clause-heard
returns-clause-heard c = λ peer at.
    let longest = c.args.self.now.longest in
    let waited = c.behind-waited.result.now in
    let own = drop c.args.named.now.at c.args.named.now.bytes.items in
    let behind : waited ≡ own = search rules in
    let there : announced_of (socket_at c.let_in.new.self.table c.args.socket) ≡ Some (Before 2) = ap announced_of (c.let_in.ensures.here peer at) in
    let counted : c.own_len-own.result ≡ own_len longest (Some (Before 2)) waited = c.own_len-own.ensures.value ∙ ap (λ (o : Option Announced). own_len longest o waited) there in
    let handed : c.front.result.now ≡ own_of longest (Some (Before 2)) own = c.front.ensures.value ∙ (ap (λ (n : ℕ). take n waited) counted ∙ ap (λ (bytes : List ℕ). own_of longest (Some (Before 2)) bytes) behind) in
    (c.came-served.result, subst (λ (bytes : List ℕ). Does (Came c.args.socket bytes c.came-served.result) c.args.self.now.meetings c.came-served.new.self) handed (c.came-served.ensures.members, c.came-served.ensures.took))

pub returns-clause-moves : goal.returns-clause-moves
returns-clause-moves c = moves_one (Came c.args.socket c.front.result.now c.came-served.result) c.args.self.now.meetings c.came-served.new.self (c.came-served.ensures.members, c.came-served.ensures.took) (λ slot. refl)

pub returns-clause-spares : goal.returns-clause-spares
returns-clause-spares c = λ cs free. free_one cs (Came c.args.socket c.front.result.now c.came-served.result) c.args.self.now.meetings c.came-served.new.self (c.came-served.ensures.members, c.came-served.ensures.took) (λ slot. refl) free

pub returns-clause-steps : goal.returns-clause-steps
returns-clause-steps c =
    let let_in = c.let_in.new.self.sockets in
    let noted = c.note-has_more.new.connections.sockets in
    let same : c.own_len-own.new.self.sockets ≡ let_in = ap (λ (x : Connections). x.sockets) c.own_len-own.ensures.plain in
    let note : Steps let_in noted = subst (λ (s : Sockets). Steps s noted) same c.note-has_more.ensures.steps in
    steps_then c.args.self.now.connections.sockets noted c.resume.new.self.sockets
    (steps_then c.args.self.now.connections.sockets let_in noted c.let_in.ensures.steps note) c.resume.ensures.steps
