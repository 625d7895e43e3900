-- A command that was read can be printed, and what is printed is read back.
use Rattle.std.proofs.Common.{◌≡◌, ◌<◌, ◌^◌, ◌&&◌, ℕ, Bool, true, false, cond, nat_lt, List, [], ◌∷◌, length, refl, ◌∙◌, ap, subst, arith}
use Rattle.std.specs.Prelude.{Option, Some, None, Result, Ok, Err, codes, ⊤}
use Rattle.std.specs.Fmt.{decimal}
use Rattle.std.specs.List.{join_with_byte, list_all}
use Rattle.std.specs.Str.{bytes_eq}
use Rattle.std.specs.Str.Parse.{digits_value}
use Rattle.std.proofs.lemmas.Bool.{false≢true, ltb-true}
use Rattle.floor_words.specs.Laws.{NumbersAreReadBack, WordsArePlain, WordsAreReadBack, is_plain}
use Rattle.floor_words.specs.Words.{is_numeral, words}
use Rattle.floor_machine.specs.declared.act.Act.{Act}
use Rattle.floor_machine.specs.declared.act.Act.TheVariants as act
use Rattle.floor_acts.specs.Acts.{act_of}
use Rattle.floor_acts.specs.Laws.{ActsAreReadBack, printed_act}
use Rattle.floor_acts.specs.declared.act.ActLine.{ActLine}
use Rattle.floor_acts.specs.declared.fault.ActFault.{ActFault}
use Rattle.floor_console.specs.Command.{act_or_words, command_of, number_of, number_or_fault, of_act_upon, of_number, of_words}
use Rattle.floor_console.specs.Laws.{PrintedIsReadBack, printed}
use Rattle.floor_console.specs.declared.command.Command.{Command}
use Rattle.floor_console.specs.declared.command.Command.TheVariants.{Empty, Open, Close, Revoke, AddUser, AddFloor, SetChair, Status, Journal, Stop}
use Rattle.floor_console.specs.declared.command.ConsoleFault.{ConsoleFault}

and_left : (a b : Bool) → (a && b) ≡ true → a ≡ true
and_left true b e = refl
and_left false b e = e

and_right : (a b : Bool) → (a && b) ≡ true → b ≡ true
and_right true b e = e
and_right false b e = absurd (false≢true e)

both : (a b : Bool) → a ≡ true → b ≡ true → (a && b) ≡ true
both true b e h = h
both false b e h = absurd (false≢true e)

-- the command's words can stand in a line that is no act's: its path is plain, its number is not above its type
abbrev IsWritten : Command → Type 0
IsWritten Empty = ⊥
IsWritten (Open path) = is_plain path ≡ true
IsWritten (Close conference) = ⊥
IsWritten (Revoke conference request) = ⊥
IsWritten (AddUser conference user) = ⊥
IsWritten (AddFloor conference floor) = ⊥
IsWritten (SetChair conference floor chair) = ⊥
IsWritten (Status conference) = conference < 2 ^ 32
IsWritten (Journal conference) = conference < 2 ^ 32
IsWritten Stop = ⊤

abbrev Written : Result Command ConsoleFault → Type 0
Written (Ok command) = IsWritten command
Written (Err fault) = ⊤

chosen : (b : Bool) (x y : Result Command ConsoleFault) → Written x → Written y → Written (cond b x y)
chosen true x y h k = h
chosen false x y h k = k

-- a number that is read is below its limit
abbrev Below : ℕ → Result ℕ ConsoleFault → Type 0
Below limit (Ok n) = n < limit
Below limit (Err fault) = ⊤

limited : (b : Bool) (v limit : ℕ) → (b ≡ true → v < limit) → Below limit (number_or_fault (cond b (Some v) None))
limited true v limit h = h refl
limited false v limit h = tt

below : (limit : ℕ) (word : List ℕ) → Below limit (number_of limit word)
below limit word =
    limited (is_numeral word && nat_lt (digits_value 10 word) limit) (digits_value 10 word) limit
    (λ e. ltb-true (digits_value 10 word) limit (and_right (is_numeral word) _ e))

made : (limit : ℕ) (make : ℕ → Command) → ((n : ℕ) → n < limit → IsWritten (make n))
    → (r : Result ℕ ConsoleFault) → Below limit r → Written (of_number make r)
made limit make h (Ok n) few = h n few
made limit make h (Err fault) few = tt

-- what plain words ask for can be written
written : (ws : List (List ℕ)) → list_all is_plain ws ≡ true → Written (of_words ws)
written [] e = tt
written (name ∷ []) e = chosen (bytes_eq name (codes "stop")) _ _ tt tt
written (name ∷ word ∷ []) e =
    let few = below (2 ^ 32) word in
    chosen (bytes_eq name (codes "open")) _ _ (and_left (is_plain word) _ (and_right (is_plain name) _ e))
    (chosen (bytes_eq name (codes "status")) _ _ (made (2 ^ 32) Status (λ n h. h) (number_of (2 ^ 32) word) few)
    (chosen (bytes_eq name (codes "journal")) _ _ (made (2 ^ 32) Journal (λ n h. h) (number_of (2 ^ 32) word) few) tt))
written (a ∷ b ∷ c ∷ more) e = tt

module _ (back : WordsAreReadBack) (numbers : NumbersAreReadBack) where
  -- a line of plain words, whose first is no act's name, asks for what those words do
  of_line : (line : List ℕ) → 0 < length line → act_of line ≡ Ok None → command_of line ≡ of_words (words line)
  of_line [] some none = absurd (omega (arith, some))
  of_line (b ∷ line) some none = ap (λ r. act_or_words r (words (b ∷ line))) none

  of_plain : (line : List ℕ) (ws : List (List ℕ)) → line ≡ join_with_byte 32 ws → 0 < length line → act_of line ≡ Ok None
      → list_all is_plain ws ≡ true → command_of line ≡ of_words ws
  of_plain line ws same some none plain = of_line line some none ∙ ap of_words (ap words same ∙ back ws plain)

  -- a conference's number is read back
  conference_back : (n : ℕ) → n < 2 ^ 32 → number_of (2 ^ 32) (decimal n) ≡ Ok n
  conference_back n h = ap number_or_fault (numbers (2 ^ 32) n h (omega (arith, h))).value

  plain_number : (n : ℕ) → n < 2 ^ 32 → is_plain (decimal n) ≡ true
  plain_number n h = (numbers (2 ^ 32) n h (omega (arith, h))).plain

  -- `name` and one plain word
  two_plain : (name word : List ℕ) → is_plain name ≡ true → is_plain word ≡ true
      → list_all is_plain (name ∷ word ∷ []) ≡ true
  two_plain name word e h = both (is_plain name) _ e (both (is_plain word) _ h refl)

  read_back : (command : Command) → IsWritten command → command_of (printed command) ≡ Ok command
  read_back (Open path) h =
      of_plain _ (codes "open" ∷ path ∷ []) refl (omega arith) refl (two_plain (codes "open") path refl h)
  read_back (Status c) h =
      of_plain _ (codes "status" ∷ decimal c ∷ []) refl (omega arith) refl (two_plain (codes "status") (decimal c) refl (plain_number c h))
      ∙ ap (of_number Status) (conference_back c h)
  read_back (Journal c) h =
      of_plain _ (codes "journal" ∷ decimal c ∷ []) refl (omega arith) refl (two_plain (codes "journal") (decimal c) refl (plain_number c h))
      ∙ ap (of_number Journal) (conference_back c h)
  read_back Stop h = refl
  read_back Empty h = absurd h
  read_back (Close conference) h = absurd h
  read_back (Revoke conference request) h = absurd h
  read_back (AddUser conference user) h = absurd h
  read_back (AddFloor conference floor) h = absurd h
  read_back (SetChair conference floor chair) h = absurd h

  -- an act that is read back is so as a command
  act_back : (c : ℕ) (a : Act) → act_of (printed_act c a) ≡ Ok (Some record { conference = c; act = a })
      → command_of (printed (of_act_upon c a)) ≡ Ok (of_act_upon c a)
  act_back c (act.Revoke request) e = ap (λ r. act_or_words r (words (printed_act c (act.Revoke request)))) e
  act_back c act.Close e = ap (λ r. act_or_words r (words (printed_act c act.Close))) e
  act_back c (act.AddUser user) e = ap (λ r. act_or_words r (words (printed_act c (act.AddUser user)))) e
  act_back c (act.AddFloor floor) e = ap (λ r. act_or_words r (words (printed_act c (act.AddFloor floor)))) e
  act_back c (act.SetChair floor chair) e = ap (λ r. act_or_words r (words (printed_act c (act.SetChair floor chair)))) e

  -- a command that was read, printed, is read as that command
  abbrev ReadBack : Result Command ConsoleFault → Type 0
  ReadBack (Ok command) = command_of (printed command) ≡ Ok command
  ReadBack (Err fault) = ⊤

  words_back : (r : Result Command ConsoleFault) → Written r → ReadBack r
  words_back (Ok command) h = read_back command h
  words_back (Err fault) h = tt

  either_back : ActsAreReadBack → (line : List ℕ) (r : Result (Option ActLine) ActFault) → act_of line ≡ r
      → Written (of_words (words line)) → ReadBack (act_or_words r (words line))
  either_back acts line (Ok (Some found)) e h = act_back found.conference found.act (acts line found e)
  either_back acts line (Ok None) e h = words_back (of_words (words line)) h
  either_back acts line (Err fault) e h = tt

  line_back : ActsAreReadBack → WordsArePlain → (line : List ℕ) → ReadBack (command_of line)
  line_back acts plain [] = refl
  line_back acts plain (b ∷ line) = either_back acts (b ∷ line) (act_of (b ∷ line)) refl (written (words (b ∷ line)) (plain (b ∷ line)))

  -- the command of any line is read back
  pub printed_is_read_back : ActsAreReadBack → WordsArePlain → PrintedIsReadBack
  printed_is_read_back acts plain line command e = subst ReadBack e (line_back acts plain line)
