use Rattle.floor_hub.proofs.Sent.{queued_is, two_worlds}
use Rattle.floor_hub.proofs.laws.two_worlds.Goals as goal

pub returns : goal.returns
returns c = record { queued = queued_is; equal = two_worlds }
