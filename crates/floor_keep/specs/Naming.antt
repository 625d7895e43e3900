-- The names of a folder's files.
use Rattle.std.specs.Prelude.{◌≡◌, ◌≢◌, ◌⊎◌, ◌<◌, ◌^◌, ◌≤◌, ℕ, List, [], ◌∷◌, ◌++◌, codes}
use Rattle.std.specs.Fmt.{decimal}
use Rattle.floor_keep.specs.declared.naming.Named.{Named}
use Rattle.floor_keep.specs.declared.naming.Named.TheVariants.{Journal, Closed, Unkept, Other}

-- the name of the file of a conference that goes on
abbrev pub journal_name : ℕ → List ℕ
journal_name conference = decimal conference ++ codes ".journal"

-- the name of the file of a conference that opens, until its head stands
abbrev pub new_name : ℕ → List ℕ
new_name conference = decimal conference ++ codes ".new"

-- the first name of the file of a conference that ended so at this time
abbrev pub first_name : ℕ → ℕ → List ℕ → List ℕ
first_name conference seconds kind = decimal conference ++ (codes "." ++ (decimal seconds ++ (codes "." ++ kind)))

-- its name where the first names were taken
abbrev pub further_name : ℕ → ℕ → List ℕ → ℕ → List ℕ
further_name conference seconds kind count =
    decimal conference ++ (codes "." ++ (decimal seconds ++ (codes "." ++ (kind ++ (codes "." ++ decimal count)))))

-- the name is one that a file has whose conference ended so
abbrev pub IsEndedName : List ℕ → List ℕ → ℕ → Type 0
IsEndedName kind name conference =
    (seconds : ℕ)
    × ((name ≡ first_name conference seconds kind)
    ⊎ ((count : ℕ) × (name ≡ further_name conference seconds kind count)))

-- a name that a file of the folder may have says what the file is
abbrev pub IsNamed : List ℕ → Named → Type 0
IsNamed name (Journal conference) = name ≡ journal_name conference
IsNamed name (Closed conference) = IsEndedName (codes "closed") name conference
IsNamed name (Unkept conference) = IsEndedName (codes "unkept") name conference
IsNamed name Other = (conference : ℕ) → conference < 2 ^ 32 → name ≢ journal_name conference
