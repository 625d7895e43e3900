-- Bytes that are a text, and the line of an event behind its place.
use Rattle.std.proofs.Common.{◌≡◌, ◌==◌, ◌<◌, ◌≤◌, ◌+◌, ◌-◌, ℕ, Bool, true, false, cond, List, [], ◌∷◌, ◌++◌, length, take, drop, refl, sym, ◌∙◌, ap, arith, lit<}
use Rattle.std.specs.Prelude.{Option, Some, None, codes}
use Rattle.std.specs.Fmt.{decimal}
use Rattle.std.specs.Str.{IsUtf8, is_utf8}
use Rattle.std.proofs.lemmas.Bool.{false≢true}
use Rattle.std.proofs.lemmas.List.{append-nil}
use Rattle.std.proofs.lemmas.Fmt.{decimal_digit}
use Rattle.std.proofs.lemmas.Str.{IsUtf8-from_is_utf8, is_utf8-from_IsUtf8}
use Rattle.floor_machine.specs.declared.event.Event.{Event}
use Rattle.floor_machine.specs.declared.event.Event.TheVariants.{Join, Message, Took, Leave, Revoke, Close, AddUser, AddFloor, SetChair, Say}
use Rattle.hex.specs.Hex.{encode_lower}
use Rattle.floor_room.specs.Text.{line, lines, mark_word, number_word, text_word}
use Rattle.floor_kept.specs.steps.Parsed.{and_then, some_bytes, text_of}

-- bytes that aren't UTF-8 are no text
no_text_on : (b : Bool) (bytes : List ℕ) → (b ≡ true → ⊥) → None ≡ cond b (some_bytes bytes) None
no_text_on true bytes h = absurd (h refl)
no_text_on false bytes h = refl

pub no_text : (bytes : List ℕ) (o : Option (List ℕ)) → Some bytes ≡ o → (IsUtf8 bytes → ⊥) → None ≡ and_then o text_of
no_text bytes o e h = no_text_on (is_utf8 bytes) bytes (λ t. h (IsUtf8-from_is_utf8 bytes t)) ∙ ap (λ (o : Option (List ℕ)). and_then o text_of) e

some_on : (b : Bool) (bytes : List ℕ) → b ≡ false → Some bytes ≡ cond b None (Some bytes)
some_on true bytes h = absurd (false≢true (sym h))
some_on false bytes h = refl

utf8_on : (b : Bool) (bytes : List ℕ) → b ≡ true → some_bytes bytes ≡ cond b (some_bytes bytes) None
utf8_on true bytes h = refl
utf8_on false bytes h = absurd (false≢true h)

-- others are, where there are some
pub text_found : (bytes text : List ℕ) (o : Option (List ℕ)) → Some bytes ≡ o → IsUtf8 bytes → text ≡ bytes → (length text == 0) ≡ false → Some text ≡ and_then o text_of
text_found bytes text o e h same some =
    some_on (length text == 0) text some
    ∙ ap some_bytes same
    ∙ utf8_on (is_utf8 bytes) bytes (is_utf8-from_IsUtf8 bytes h)
    ∙ ap (λ (o : Option (List ℕ)). and_then o text_of) e

-- the line of the one event of a journal
pub first_line : (e : Event) (added : ℕ) (events : List Event) (text empty : List ℕ) → empty ≡ [] → events ≡ e ∷ [] → (0 < length events → 1 ≤ added)
    → added ≤ length events - 0 → text ≡ empty ++ lines (0 + 1) (take added (drop 0 events)) → text ≡ line 1 e
first_line e added events text empty none one some most h =
    let count : length events ≡ 1 = ap length one in
    let once : added ≡ 1 = omega (arith, count, most, some (omega (arith, count))) in
    h
    ∙ ap (λ (l : List ℕ). l ++ lines (0 + 1) (take added (drop 0 events))) none
    ∙ ap (λ (n : ℕ). lines (0 + 1) (take n (drop 0 events))) once
    ∙ ap (λ (es : List Event). lines (0 + 1) (take 1 (drop 0 es))) one
    ∙ append-nil (line 1 e)

-- what stands behind its place
abbrev pub behind_place : Event → List ℕ
behind_place (Join user) = codes " join " ++ (decimal user ++ codes "\n")
behind_place (Message n bytes) = codes " message " ++ (decimal n ++ (codes " " ++ (encode_lower bytes ++ codes "\n")))
behind_place (Took n k) = codes " took " ++ (decimal n ++ (codes " " ++ (decimal k ++ codes "\n")))
behind_place (Leave n) = codes " leave " ++ (decimal n ++ codes "\n")
behind_place (Revoke request) = codes " revoke " ++ (decimal request ++ codes "\n")
behind_place Close = codes " close\n"
behind_place (AddUser user) = codes " user " ++ (decimal user.id ++ (codes " " ++ (mark_word user.proxy ++ (codes " " ++ (text_word user.name ++ (codes " " ++ (text_word user.uri ++ codes "\n")))))))
behind_place (AddFloor floor) = codes " floor " ++ (decimal floor.id ++ (codes " " ++ (decimal floor.room ++ (codes " " ++ (number_word floor.chair ++ codes "\n")))))
behind_place (SetChair floor chair) = codes " chair " ++ (decimal floor ++ (codes " " ++ (number_word chair ++ codes "\n")))
behind_place (Say user bytes) = codes " say " ++ (decimal user ++ (codes " " ++ (encode_lower bytes ++ codes "\n")))

any_place : (place : ℕ) (e : Event) → line place e ≡ decimal place ++ behind_place e
any_place place (Join user) = refl
any_place place (Message n bytes) = refl
any_place place (Took n k) = refl
any_place place (Leave n) = refl
any_place place (Revoke request) = refl
any_place place Close = refl
any_place place (AddUser user) = refl
any_place place (AddFloor floor) = refl
any_place place (SetChair floor chair) = refl
any_place place (Say user bytes) = refl

-- at the first place it begins with the digit 1
pub begins : (e : Event) → line 1 e ≡ 49 ∷ behind_place e
begins e = any_place 1 e ∙ ap (λ (d : List ℕ). d ++ behind_place e) (decimal_digit 1 (lit< tt))

tail_same : (a b : List ℕ) → 49 ∷ a ≡ 49 ∷ b → a ≡ b
tail_same a b e = ap (drop 1) e

-- the digits of a place, and what stands behind the digit 1
pub placed : (place : ℕ) (e : Event) (text rest digits printed : List ℕ) → text ≡ line 1 e → text ≡ 49 ∷ rest → digits ≡ decimal place → printed ≡ digits ++ rest
    → printed ≡ line place e
placed place e text rest digits printed one cut number h =
    h
    ∙ ap (λ (l : List ℕ). l ++ rest) number
    ∙ ap (λ (l : List ℕ). decimal place ++ l) (tail_same rest (behind_place e) (sym cut ∙ one ∙ begins e))
    ∙ sym (any_place place e)
