-- What the operator's page may have done: the line of the control socket for the words of an order.
use Rattle.std.specs.Prelude.{ℕ, ◌^◌, Option, None, List, [], ◌∷◌, ◌++◌, codes, option_and_then, option_map, if◌then◌else◌}
use Rattle.std.specs.Str.{bytes_eq}
use Rattle.std.specs.Fmt.{decimal}
use Rattle.floor_words.specs.Words.{number, words}
use Rattle.floor_web.specs.Orders.{show_out_line, let_in_line}

-- `close <conference>`
abbrev pub close_line : List ℕ → Option (List ℕ)
close_line conference = option_map (λ c. codes "close " ++ (decimal c ++ codes "\n")) (number (2 ^ 32) conference)

-- `revoke <conference> <request>`
abbrev pub revoke_line : List ℕ → List ℕ → Option (List ℕ)
revoke_line conference request =
    option_and_then (λ c. option_map (λ r. codes "revoke " ++ (decimal c ++ (codes " " ++ (decimal r ++ codes "\n")))) (number (2 ^ 16) request))
    (number (2 ^ 32) conference)

-- `out <conference> <user>`, which shows the user out, and `in <conference> <user>`, which lets the user in again
abbrev pub out_line : List ℕ → List ℕ → Option (List ℕ)
out_line conference user =
    option_and_then (λ c. option_map (λ u. show_out_line c u) (number (2 ^ 16) user)) (number (2 ^ 32) conference)

abbrev pub in_line : List ℕ → List ℕ → Option (List ℕ)
in_line conference user =
    option_and_then (λ c. option_map (λ u. let_in_line c u) (number (2 ^ 16) user)) (number (2 ^ 32) conference)

abbrev pub two_words : (name conference : List ℕ) → Option (List ℕ)
two_words name conference = if bytes_eq name (codes "close") then close_line conference else None

abbrev pub three_words : (name conference other : List ℕ) → Option (List ℕ)
three_words name conference other =
    if bytes_eq name (codes "revoke") then revoke_line conference other
    else if bytes_eq name (codes "out") then out_line conference other
    else if bytes_eq name (codes "in") then in_line conference other
    else None

-- the line of an order's words; none where they are no order
abbrev pub of_words : List (List ℕ) → Option (List ℕ)
of_words [] = None
of_words (name ∷ []) = None
of_words (name ∷ conference ∷ []) = two_words name conference
of_words (name ∷ conference ∷ other ∷ []) = three_words name conference other
of_words (_ ∷ _ ∷ _ ∷ _ ∷ _) = None

abbrev pub line_of : List ℕ → Option (List ℕ)
line_of order = of_words (words order)
