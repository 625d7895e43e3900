-- Each conference of whose file anything is to be asked stands in the line, and each of whose file the disk is to be asked later is put there by then.
use Rattle.std.specs.Prelude.{◌≡◌, ◌≤◌, ◌<◌, ◌⊎◌, ℕ, ◌+◌, Bool, true, false, List, [], ◌∷◌, Option, Some}
use Rattle.floor_keeping.specs.Kept.{KeptFile, asked_of}
use Rattle.floor_keeping.specs.State.{is_something, later}
use Rattle.floor_keeping.specs.declared.line.Waking.{Waking}
use Rattle.floor_keeping.specs.declared.policy.Policy.{Policy}

-- who stands in the line, who is put there when, and whether memory was refused, so that some may be missing
pub record Line : Type 0 where
  pub conferences : List ℕ
  pub wakings : List Waking
  pub is_short : Bool

-- the conference stands there
abbrev pub Stands : List ℕ → ℕ → Type 0
Stands [] conference = ⊥
Stands (c ∷ cs) conference = (c ≡ conference) ⊎ Stands cs conference

-- it is put there at this time
abbrev pub IsWoken : List Waking → ℕ → ℕ → Type 0
IsWoken [] conference at = ⊥
IsWoken (w ∷ ws) conference at = ((w.conference ≡ conference) × (w.at ≡ at)) ⊎ IsWoken ws conference at

-- times don't fall, from this one on
abbrev pub AscendFrom : ℕ → List Waking → Type 0
AscendFrom at [] = Unit {0}
AscendFrom at (w ∷ ws) = (at ≤ w.at) × AscendFrom w.at ws

-- no time is behind this one
abbrev pub Within : ℕ → List Waking → Type 0
Within at [] = Unit {0}
Within at (w ∷ ws) = (w.at ≤ at) × Within at ws

-- each of whose file anything is to be asked at this time stands there
abbrev pub AllStand : Policy → ℕ → (ℕ → Option KeptFile) → List ℕ → Type 0
AllStand p now files conferences = (c : ℕ) (f : KeptFile) → files c ≡ Some f → is_something (asked_of p now f) ≡ true → Stands conferences c

-- each of whose file the disk is to be asked later than this is put there by then
abbrev pub AllWoken : ℕ → (ℕ → Option KeptFile) → List Waking → Type 0
AllWoken now files wakings = (c t : ℕ) (f : KeptFile) → files c ≡ Some f → f.state.sync_at ≡ Some t → now < t → IsWoken wakings c t

-- Where it is so late, and the disk is asked up to this time.
pub record IsListed (p : Policy) (time until : ℕ) (files : ℕ → Option KeptFile) (line : Line) : Type 0 where
  pub stand : line.is_short ≡ false → AllStand p until files line.conferences
  pub woken : line.is_short ≡ false → AllWoken until files line.wakings
  pub ascending : AscendFrom (until + 1) line.wakings
  pub within : Within (later time 1000000) line.wakings
