-- The ports that are listened on, and those that are given back.
use Rattle.std.specs.Prelude.{◌≡◌, ◌==◌, ◌++◌, ℕ, Bool, true, List, [], Option, None, map, not, option_to_list}
use Rattle.std.specs.List.{filter}
use Rattle.std.specs.Option.{option_map}
use Rattle.floor_listen.specs.declared.ports.Chosen.{Chosen}
use Rattle.floor_listen.specs.declared.ports.Chosen.TheVariants.{All, Of}
use Rattle.floor_listen.specs.declared.ports.Listening.{Listening}

-- the ports that are listened on, in the order in which that began, and for how many more there is room without memory
pub record Ports (L : Type 0) : Type 0 where
  pub listening : List (Listening L)
  pub room : ℕ

-- a port that leads to this conference is among those that are chosen
abbrev pub is_chosen : Chosen → ℕ → Bool
is_chosen All conference = true
is_chosen (Of chosen) conference = conference == chosen

module _ {L : Type 0} where
  -- what listens on the chosen ports, in the order in which that began
  abbrev pub given : Chosen → List (Listening L) → List L
  given chosen listening = map (λ l. l.listener) (filter (λ l. is_chosen chosen l.conference) listening)

  -- the other ports
  abbrev pub kept : Chosen → List (Listening L) → List (Listening L)
  kept chosen listening = filter (λ l. not (is_chosen chosen l.conference)) listening

  -- the last port is given back: it is no more among those that are listened on, and what listens on it was handed out
  abbrev pub IsLastGivenBack : List (Listening L) → Option L → List (Listening L) → Type 0
  IsLastGivenBack old given new =
      (last : Option (Listening L)) × (old ≡ new ++ option_to_list last) × (given ≡ option_map (λ l. l.listener) last) × (last ≡ None → old ≡ [])
