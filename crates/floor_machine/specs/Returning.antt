-- Who has another connection in the conference loses nothing by a leave (RFC 8855, section 6.1).
use Rattle.std.specs.Prelude.{◌≡◌, ◌≢◌, ℕ, List, true, map}
use Rattle.floor_config.specs.Configuration.{Configuration, IsConfiguration}
use Rattle.floor_machine.specs.Change.{change}
use Rattle.floor_machine.specs.Conference.{Conference, is_live, user_of}
use Rattle.floor_machine.specs.declared.event.Event.{Event}
use Rattle.floor_machine.specs.declared.event.Event.TheVariants.{Leave}
use Rattle.floor_machine.specs.Journal.{IsJournal, after}
use Rattle.floor_machine.specs.Next.{next}
use Rattle.floor_machine.specs.Shown.{entry_of}

-- k and n are connections of one user, and k is live
pub record IsBeside (s : Conference) (k n : ℕ) : Type 0 where
  pub live : is_live s k ≡ true
  pub other : k ≢ n
  pub user : user_of s k ≡ user_of s n

-- no floor request ends by the leave of n where another connection of its user is live
abbrev pub LeaveEndsNothing : Type 0
LeaveEndsNothing = (s : Conference) (k n : ℕ) → IsBeside s k n → (change s (Leave n)).entries ≡ map entry_of s.ongoing

-- after each journal, such a leave has the ongoing floor requests stay as they are
abbrev pub RequestsStay : Type 0
RequestsStay = (config : Configuration) (es : List Event) (k n : ℕ) → IsConfiguration config → IsJournal config es →
    (let s = after config es in IsBeside s k n → (next s (Leave n)).ongoing ≡ s.ongoing)
