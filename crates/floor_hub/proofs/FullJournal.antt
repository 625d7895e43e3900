-- A full journal of an open conference refuses an event of each kind, and a leave adds none.
use Rattle.std.proofs.Common.{◌≡◌, ℕ, true, List, [], Some, refl}
use Rattle.floor_machine.specs.declared.act.Act.{Act}
use Rattle.floor_machine.specs.declared.event.Event.TheVariants.{Join, Took as Takes}
use Rattle.floor_machine.specs.Machine.{event_of_act}
use Rattle.floor_room.specs.declared.refusal.RoomRefusal.TheVariants.{JournalFull}
use Rattle.floor_hub.specs.declared.refusal.HubRefusal.TheVariants.{ByRoom}
use Rattle.floor_hub.specs.World.{Arrival, Part, add_event, attach, is_full, left, refused, refuses, serve_message, state_of}

pub full_journal : (p : Part) (n user many : ℕ) (a : Arrival) (message : List ℕ) (act : Act) → (state_of p).is_open ≡ true → is_full p ≡ true →
    (attach p user (refused p (Join user)) ≡ refuses (Some p) (ByRoom JournalFull))
    × (serve_message p n a (Some message) ≡ refuses (Some p) (ByRoom JournalFull))
    × (add_event p (Takes n many) (refused p (Takes n many)) ≡ refuses (Some p) (ByRoom JournalFull))
    × (add_event p (event_of_act act) (refused p (event_of_act act)) ≡ refuses (Some p) (ByRoom JournalFull))
    × (left p n ≡ [])
full_journal p n user many a message act open_now full = (rw (open_now, full) refl, rw (open_now, full) refl, rw (open_now, full) refl, rw (open_now, full) refl, rw (open_now, full) refl)
