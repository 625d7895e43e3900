-- Why a conference that the folder has doesn't go on.
use Rattle.std.specs.Prelude.{◌≡◌, ℕ}
use Rattle.floor_keep.specs.declared.found.Standing.{Standing}
use Rattle.floor_loop.specs.declared.resuming.ResumeRefusal.{ResumeRefusal}
use Rattle.floor_loop.specs.declared.resuming.ResumeRefusal.TheVariants as resume
use Rattle.floor_poll.specs.declared.mailbox.Unresumed.{Unresumed}
use Rattle.floor_poll.specs.declared.mailbox.Unresumed.TheVariants as unresumed
use Rattle.floor_poll.specs.Refusals.{out_of_memory, refusal_of}

-- by what the loop refuses: the file is no journal where its event of this place isn't taken
abbrev pub IsUnresumed : Standing → ResumeRefusal → Unresumed → Type 0
IsUnresumed standing (resume.NotOpened refusal) fault = fault ≡ unresumed.Refused (refusal_of refusal)
IsUnresumed standing (resume.NotAJournal place) (unresumed.NotAJournal at) = (at.conference ≡ standing.conference) × (at.place ≡ place)
IsUnresumed standing (resume.NotAJournal place) (unresumed.Refused refusal) = ⊥
IsUnresumed standing (resume.NotAJournal place) (unresumed.Unkept reason) = ⊥
IsUnresumed standing (resume.Memory place) fault = fault ≡ unresumed.Refused out_of_memory
