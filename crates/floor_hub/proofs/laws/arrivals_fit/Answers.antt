use Rattle.floor_hub.proofs.Numbers.{numbered_turn, places_fit}
use Rattle.floor_hub.proofs.laws.arrivals_fit.Goals as goal

pub returns : goal.returns
returns c = record { step = numbered_turn; fits = places_fit }
