use Rattle.std.proofs.Common.{ℕ, List, ap, ◌∙◌}
use Rattle.floor_client.proofs.Numbering.{remove_key-number}
use Rattle.floor_client.specs.Transactions.{Transactions}
use Rattle.floor_client.proofs.transactions.Transactions.end.Goals as goal

pub returns : goal.returns
returns c =
    let with_open : List ℕ → Transactions = λ numbers. record { last = c.self.inside.last; open_numbers = numbers } in
    rw (← c.self.view_is) (ap with_open (c.remove.ensures.keys ∙ remove_key-number c.args.number c.self.inside.open_numbers.keys c.self.invariant))
