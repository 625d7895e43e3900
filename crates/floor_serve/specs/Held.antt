-- What a desk can find of its conference, in holds of the conference's lock. That it is what stands behind its own lock no clause can say.
use Rattle.std.specs.Prelude.{◌≡◌, ℕ, ◌<◌, ◌+◌, [], List, length, slice_get}
use Rattle.floor_machine.specs.declared.event.Event.{Event}
use Rattle.floor_machine.specs.declared.event.Event.TheVariants.{Join}
use Rattle.floor_room.specs.Ledger.{conference_of}
use Rattle.floor_room.specs.Text.{journal_text}
use Rattle.floor_outbox.specs.Ends.{PairId}
use Rattle.floor_serve.specs.Booth.{Applied, Booth, IsBooth, opened}

-- a booth can be so, which keeps what every booth keeps
abbrev pub IsFound : (Booth → Type 0) → Type 0
IsFound P = (booth : Booth) × IsBooth booth × P booth

-- The text of the journal of a conference that goes on meanwhile: of events that each can stand at its place in a booth's journal.
pub record IsText (text : List ℕ) : Type 0 where
  pub events : List Event
  pub text_is : text ≡ journal_text events
  pub stood : (k : ℕ) → k < length events → IsFound (λ b. slice_get b.ledger.journal k ≡ slice_get events k)

-- The user can have joined under the number, and what is put for the member goes to the taker of the pair.
pub record IsJoined (user n : ℕ) (pair : PairId) : Type 0 where
  pub before : Booth
  pub after : Booth
  pub kept : IsBooth before
  pub number : n ≡ length (conference_of before.ledger).members + 1
  pub took : Applied before after (Join user) (opened pair)
