use Rattle.std.proofs.Common.{◌++◌, ℕ, List, ◌∙◌, ap}
use Rattle.floor_room.specs.Replay.{bytes_of}
use Rattle.floor_hub.proofs.Waiting.{both}
use Rattle.floor_hub.proofs.gathering.held_bytes.Goals as goal

pub returns : goal.returns
returns c =
    c.from_vec.ensures
    ∙ both c.as_slices.result.0.now c.as_slices.result.1.now c.args.held.now.items c.put_all.new.bytes.items c.put_all-2.new.bytes.items c.as_slices.ensures.items
    (c.in_ok-put_all.ensures ∙ ap (λ (xs : List ℕ). xs ++ bytes_of c.as_slices.result.0.now) c.new-bytes.ensures.items) c.in_ok-put_all-2.ensures
