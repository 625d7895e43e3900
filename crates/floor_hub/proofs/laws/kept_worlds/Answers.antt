use Rattle.floor_hub.proofs.Keeping.{journal_of, kept_turn, nothing_kept}
use Rattle.floor_hub.proofs.laws.kept_worlds.Goals as goal

pub returns : goal.returns
returns c = record { nothing = nothing_kept; step = kept_turn; journal = journal_of }
