-- The lines of a loop: each connection that has a mark stands in the mark's line, and there is room for each that hasn't.
use Rattle.std.specs.Prelude.{◌≡◌, ◌⊎◌, ◌≤◌, ℕ, ◌+◌, List, [], ◌∷◌, nat_eq, min, Bool, false, Option, Some, None, length}
use Rattle.std.specs.List.{sum_by}
use Rattle.std.specs.Map.{lookup}
use Rattle.floor_loop.specs.declared.line.Entry.{Entry}
use Rattle.floor_loop.specs.declared.outgoing.Mark.{Mark}
use Rattle.floor_loop.specs.declared.outgoing.Mark.TheVariants.{Ready, Ends, Fails}
use Rattle.floor_loop.specs.Loop.{Outgoing}
use Rattle.floor_loop.specs.steps.Changed.{mark_of}

-- who stands in a line, and for how many in all there is room
pub record Line : Type 0 where
  pub entries : List Entry
  pub room : ℕ

-- the connection stands there with this time
abbrev pub Stands : List Entry → ℕ → ℕ → Type 0
Stands [] number time = ⊥
Stands (e ∷ es) number time = ((e.number ≡ number) × (e.time ≡ time)) ⊎ Stands es number time

-- the times don't fall, from this one on
abbrev pub AscendFrom : ℕ → List Entry → Type 0
AscendFrom time [] = Unit {0}
AscendFrom time (e ∷ es) = (time ≤ e.time) × AscendFrom e.time es

-- no time is behind this one
abbrev pub Within : ℕ → List Entry → Type 0
Within time [] = Unit {0}
Within time (e ∷ es) = (e.time ≤ time) × Within time es

-- one place is wanted for a connection that hasn't the mark
abbrev pub wanted : Option ℕ → ℕ
wanted None = 1
wanted (Some time) = 0

-- how many places are wanted
abbrev pub places : Mark → List (ℕ × Outgoing) → ℕ
places mark outgoing = sum_by (λ e. wanted (mark_of mark e.1)) outgoing

-- Each connection that has the mark stands in the line with its time; there is room for all that haven't; and times don't fall, up to this one.
pub record IsListed (mark : Mark) (outgoing : List (ℕ × Outgoing)) (last : ℕ) (line : Line) : Type 0 where
  pub found : (number time : ℕ) (o : Outgoing) → lookup (nat_eq number) outgoing ≡ Some o → mark_of mark o ≡ Some time → Stands line.entries number time
  pub room : length line.entries + places mark outgoing ≤ line.room
  pub ascending : AscendFrom 0 line.entries
  pub within : Within last line.entries

-- by when a connection is to be shut down that is to be from now on
abbrev pub deadline : ℕ → ℕ
deadline time = min (time + 10000) 18446744073709551615

-- the three lines
pub record AreListed (outgoing : List (ℕ × Outgoing)) (time : ℕ) (first second third : Line) : Type 0 where
  pub ready : IsListed Ready outgoing time first
  pub ending : IsListed Ends outgoing (deadline time) second
  pub failed : IsListed Fails outgoing time third

-- the mark is there, with this time
abbrev pub is_time : ℕ → Option ℕ → Bool
is_time time None = false
is_time time (Some other) = nat_eq other time

-- the same stand there, with as much room or more
abbrev pub HasMore : Line → Line → Type 0
HasMore old new = (new.entries ≡ old.entries) × (old.room ≤ new.room)

-- there is room in the line for each connection and one more, besides those that stand there
abbrev pub HasRoom : List (ℕ × Outgoing) → Line → Type 0
HasRoom outgoing line = length line.entries + (length outgoing + 1) ≤ line.room
