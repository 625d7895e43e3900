use Rattle.floor_hub.proofs.Alone.{answers_alone, events_alone}
use Rattle.floor_hub.proofs.Keeping.{numbers_alone}
use Rattle.floor_hub.proofs.laws.conference_alone.Goals as goal

pub returns : goal.returns
returns c = record { events = events_alone; answers = answers_alone; numbers = numbers_alone }
