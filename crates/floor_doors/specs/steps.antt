-- Definitions for the proofs alone: nobody has to believe them.
use Rattle.std.specs.Prelude.{ℕ, List, take}
use Rattle.floor_doors.specs.declared.newcomer.Verdict.{Verdict}
use Rattle.floor_doors.specs.declared.newcomer.Verdict.TheVariants.{Wait, Enter, LetGo, Refuse}

-- what is kept: all bytes where more have to come, else those that were there before
abbrev pub kept : Verdict → ℕ → List ℕ → List ℕ
kept Wait before bytes = bytes
kept (Enter conference user at) before bytes = take before bytes
kept LetGo before bytes = take before bytes
kept (Refuse refusal) before bytes = take before bytes
