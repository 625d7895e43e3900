-- What an event makes of the configuration: nothing, unless it adds a user or a floor, or sets a chair.
use Rattle.std.proofs.Common.{◌≡◌, ℕ, Bool, true, false, cond, refl, ap}
use Rattle.std.specs.Prelude.{Option, Some, None, is_some}
use Rattle.floor_config.specs.Configuration.{Configuration}
use Rattle.floor_message.specs.Ask.{Answer, asks, refused, unanswered, ask}
use Rattle.floor_machine.specs.Said.{said}
use Rattle.floor_machine.specs.declared.event.Event.{Event}
use Rattle.floor_machine.specs.declared.event.Event.TheVariants.{Join, Message, Took, Leave, Revoke, Close, AddUser, AddFloor, SetChair, Say}
use Rattle.floor_machine.specs.Conference.{Conference, binding, binding_for, user_of}
use Rattle.floor_machine.specs.Checks.{refusal}
use Rattle.floor_machine.specs.Change.{asked_change, change, message_change, no_change}

-- the event leaves the configuration as it is
abbrev pub keeps_config : Event → Bool
keeps_config (AddUser user) = false
keeps_config (AddFloor floor) = false
keeps_config (SetChair floor chair) = false
keeps_config _ = true

config-message : (s : Conference) (n : Option ℕ) (user : ℕ) (a : Answer) → (message_change s n user a).config ≡ s.config
config-message s n user unanswered = refl
config-message s n user (refused code details) = refl
config-message s n user (asks a) = by (is_some (refusal s user a))
  where
    by : (b : Bool) → (cond b (no_change s) (asked_change s n user a)).config ≡ s.config
    by true = refl
    by false = refl

pub config-change : (s : Conference) (e : Event) → keeps_config e ≡ true → (change s e).config ≡ s.config
unfolding change
config-change s (Join user) keeps = refl
config-change s (Message n bytes) keeps = config-message s (Some n) (user_of s n) (ask bytes (binding s n))
config-change s (Took n k) keeps = refl
config-change s (Leave n) keeps = refl
config-change s (Revoke request) keeps = refl
config-change s Close keeps = refl
config-change s (AddUser user) keeps = cc
config-change s (AddFloor floor) keeps = cc
config-change s (SetChair floor chair) keeps = cc
config-change s (Say user bytes) keeps = config-message s None user (said bytes (binding_for s user))

-- the conference has the same Conference ID
pub conference-change : (s : Conference) (e : Event) → (change s e).config.conference ≡ s.config.conference
unfolding change
conference-change s (Join user) = refl
conference-change s (Message n bytes) = ap (λ (config : Configuration). config.conference) (config-message s (Some n) (user_of s n) (ask bytes (binding s n)))
conference-change s (Took n k) = refl
conference-change s (Leave n) = refl
conference-change s (Revoke request) = refl
conference-change s Close = refl
conference-change s (AddUser user) = refl
conference-change s (AddFloor floor) = refl
conference-change s (SetChair floor chair) = refl
conference-change s (Say user bytes) = ap (λ (config : Configuration). config.conference) (config-message s None user (said bytes (binding_for s user)))
