-- How conferences are kept by the words of a program.
use Rattle.std.specs.Prelude.{ℕ, List, bytes_eq, codes, if◌then◌else◌}
use Rattle.floor_keep.specs.declared.keeping.Syncing.{Syncing}
use Rattle.floor_keep.specs.declared.keeping.Syncing.TheVariants.{Second, Turn, Never}

-- when the disk is asked, by its word
abbrev pub syncing_of : List ℕ → Syncing
syncing_of word =
    if bytes_eq word (codes "turn") then Turn else if bytes_eq word (codes "never") then Never else Second
