-- What any line asks for, printed behind its tag, is read back.
use Rattle.std.proofs.Common.{◌≡◌, ◌<◌, ◌+◌, ◌^◌, ◌==◌, ◌&&◌, ℕ, Bool, true, false, cond, nat_le, List, [], ◌∷◌, ◌++◌, length, take, drop, append_assoc, eqb-true, refl, sym, ◌∙◌, ap, subst, arith}
use Rattle.std.specs.Prelude.{Option, Some, None, Result, Ok, Err, codes, ⊤}
use Rattle.std.specs.Fmt.{decimal}
use Rattle.std.specs.List.{after_first, before_first, list_all, position_or_len}
use Rattle.std.specs.Str.{bytes_eq}
use Rattle.std.proofs.Math.Seq.{drop-append-add, take-append_seam}
use Rattle.std.proofs.lemmas.Bool.{false≢true}
use Rattle.floor_machine.specs.declared.act.Act.{Act}
use Rattle.floor_machine.specs.declared.act.Act.TheVariants as act
use Rattle.floor_acts.specs.Laws.{printed_act, printed_floor, printed_new_chair, printed_user}
use Rattle.floor_words.specs.Laws.{FirstWordsAreCutOff, NumbersAreReadBack, WordsArePlain, WordsAreReadBack, is_plain}
use Rattle.floor_words.specs.Words.{behind_word, first_word, is_space, words}
use Rattle.floor_console.specs.Command.{command_of}
use Rattle.floor_console.specs.Laws as console
use Rattle.floor_console.specs.declared.command.Command.{Command as Asked}
use Rattle.floor_console.specs.declared.command.Command.TheVariants as asked
use Rattle.floor_console.specs.declared.command.ConsoleFault.{ConsoleFault}
use Rattle.floor_control.specs.Laws.{LinesAreReadBack, printed, printed_behind}
use Rattle.floor_control.specs.Line.{asking_behind, asking_of, line_behind, line_of, of_command, of_commanded, of_name, own_of, own_or_command, with_tag}
use Rattle.floor_control.specs.Tag.{is_tag, is_tag_byte, mark, tag_of}
use Rattle.floor_control.specs.declared.line.Asking.{Asking}
use Rattle.floor_control.specs.declared.line.Line.{Line}
use Rattle.floor_control.specs.declared.line.Line.TheVariants.{Command, OpenHere, List as Listing, Users, Members, Floors, Leave, Forget, Journal, Watch, Unwatch, Word, Words, Metrics, Drain}
use Rattle.floor_control.specs.declared.line.LineFault.{LineFault}
use Rattle.floor_control.proofs.Asked.{Asks, IsAsked, line_asks}
use Rattle.floor_control.proofs.Printed.{IsWritten, WrittenOwn, name_written, own_back}

-- where the journal of a conference is asked for, the conference has 32 bits
abbrev IsWanted : Asked → Type 0
IsWanted (asked.Journal c) = c < 2 ^ 32
IsWanted asked.Empty = ⊤
IsWanted (asked.Open path) = ⊤
IsWanted (asked.Close c) = ⊤
IsWanted (asked.Revoke c request) = ⊤
IsWanted (asked.AddUser c user) = ⊤
IsWanted (asked.AddFloor c floor) = ⊤
IsWanted (asked.SetChair c floor chair) = ⊤
IsWanted (asked.Status c) = ⊤
IsWanted asked.Stop = ⊤

abbrev Wants : Result Asked ConsoleFault → Type 0
Wants (Ok command) = IsWanted command
Wants (Err fault) = ⊤

asked_wanted : (command : Asked) → IsAsked command → IsWanted command
asked_wanted (asked.Journal c) h = h
asked_wanted asked.Empty h = tt
asked_wanted (asked.Open path) h = tt
asked_wanted (asked.Close c) h = tt
asked_wanted (asked.Revoke c request) h = tt
asked_wanted (asked.AddUser c user) h = tt
asked_wanted (asked.AddFloor c floor) h = tt
asked_wanted (asked.SetChair c floor chair) h = tt
asked_wanted (asked.Status c) h = tt
asked_wanted asked.Stop h = tt

wanted_if : (r : Result Asked ConsoleFault) → Asks r → Wants r
wanted_if (Ok command) h = asked_wanted command h
wanted_if (Err fault) h = tt

wanted : (text : List ℕ) → Wants (command_of text)
wanted [] = tt
wanted (b ∷ text) = wanted_if (command_of (b ∷ text)) (line_asks b text)

-- a line that is none of the socket's own
abbrev NoOwn : List ℕ → Type 0
NoOwn text = own_of text ≡ Ok None

module _ (cuts : FirstWordsAreCutOff) where
  -- a line that begins with another name
  other : (name rest : List ℕ) → is_plain name ≡ true → ((ws : List (List ℕ)) → of_name name ws ≡ Ok None) → NoOwn (name ++ (32 ∷ rest))
  other name rest plain none =
      ap (λ w. of_name w (words (behind_word (name ++ (32 ∷ rest))))) ((cuts name plain).first rest) ∙ none _

  no_act : (c : ℕ) (a : Act) → NoOwn (printed_act c a)
  no_act c act.Close = other (codes "close") (decimal c) refl (λ ws. refl)
  no_act c (act.Revoke request) = other (codes "revoke") (decimal c ++ (codes " " ++ decimal request)) refl (λ ws. refl)
  no_act c (act.AddUser user) = other (codes "user") (decimal c ++ (codes " " ++ printed_user user)) refl (λ ws. refl)
  no_act c (act.AddFloor floor) = other (codes "floor") (decimal c ++ (codes " " ++ printed_floor floor)) refl (λ ws. refl)
  no_act c (act.SetChair floor chair) = other (codes "chair") (decimal c ++ (codes " " ++ (decimal floor ++ printed_new_chair chair))) refl (λ ws. refl)

  -- a command that the socket has no line of its own for
  abbrev IsShared : Asked → Type 0
  IsShared (asked.Journal c) = ⊥
  IsShared (asked.Open path) = bytes_eq path (codes ".") ≡ false
  IsShared asked.Empty = ⊤
  IsShared (asked.Close c) = ⊤
  IsShared (asked.Revoke c request) = ⊤
  IsShared (asked.AddUser c user) = ⊤
  IsShared (asked.AddFloor c floor) = ⊤
  IsShared (asked.SetChair c floor chair) = ⊤
  IsShared (asked.Status c) = ⊤
  IsShared asked.Stop = ⊤

  no_own : (command : Asked) → IsShared command → NoOwn (console.printed command)
  no_own asked.Empty h = refl
  no_own (asked.Open path) h = other (codes "open") path refl (λ ws. refl)
  no_own (asked.Close c) h = no_act c act.Close
  no_own (asked.Revoke c request) h = no_act c (act.Revoke request)
  no_own (asked.AddUser c user) h = no_act c (act.AddUser user)
  no_own (asked.AddFloor c floor) h = no_act c (act.AddFloor floor)
  no_own (asked.SetChair c floor chair) h = no_act c (act.SetChair floor chair)
  no_own (asked.Status c) h = other (codes "status") (decimal c) refl (λ ws. refl)
  no_own (asked.Journal c) h = absurd h
  no_own asked.Stop h = refl

  shared_alone : (command : Asked) → IsShared command → of_command command ≡ Command command
  shared_alone asked.Empty h = refl
  shared_alone (asked.Open path) h = rw h refl
  shared_alone (asked.Close c) h = refl
  shared_alone (asked.Revoke c request) h = refl
  shared_alone (asked.AddUser c user) h = refl
  shared_alone (asked.AddFloor c floor) h = refl
  shared_alone (asked.SetChair c floor chair) h = refl
  shared_alone (asked.Status c) h = refl
  shared_alone (asked.Journal c) h = absurd h
  shared_alone asked.Stop h = refl

  -- what is printed is read back
  abbrev Back : Line → Type 0
  Back line = line_of (printed line) ≡ Ok line

  shared_back : console.PrintedIsReadBack → (text : List ℕ) (command : Asked) → command_of text ≡ Ok command → IsShared command → Back (Command command)
  shared_back prints text command e h =
      ap (λ own. own_or_command own (console.printed command)) (no_own command h)
      ∙ ap of_commanded (prints text command e)
      ∙ ap Ok (shared_alone command h)

module _ (prints : console.PrintedIsReadBack) (cuts : FirstWordsAreCutOff) (numbers : NumbersAreReadBack) (back : WordsAreReadBack) where
  opened_back : (text path : List ℕ) (b : Bool) → bytes_eq path (codes ".") ≡ b → command_of text ≡ Ok (asked.Open path)
      → line_of (printed (cond b OpenHere (Command (asked.Open path)))) ≡ Ok (cond b OpenHere (Command (asked.Open path)))
  opened_back text path true e h = refl
  opened_back text path false e h = shared_back cuts prints text (asked.Open path) h e

  own_line_back : (line : Line) → IsWritten line → line_of (printed line) ≡ Ok line
  own_line_back line h = ap (λ own. own_or_command own (printed line)) (own_back cuts numbers back line h)

  -- the command of a line is read back as a line: that it tells a journal is a line of the socket's own
  command_back : (text : List ℕ) (command : Asked) → command_of text ≡ Ok command → IsWanted command → line_of (printed (of_command command)) ≡ Ok (of_command command)
  command_back text asked.Empty e h = refl
  command_back text (asked.Open path) e h = opened_back text path (bytes_eq path (codes ".")) refl e
  command_back text (asked.Close c) e h = shared_back cuts prints text (asked.Close c) e tt
  command_back text (asked.Revoke c request) e h = shared_back cuts prints text (asked.Revoke c request) e tt
  command_back text (asked.AddUser c user) e h = shared_back cuts prints text (asked.AddUser c user) e tt
  command_back text (asked.AddFloor c floor) e h = shared_back cuts prints text (asked.AddFloor c floor) e tt
  command_back text (asked.SetChair c floor chair) e h = shared_back cuts prints text (asked.SetChair c floor chair) e tt
  command_back text (asked.Status c) e h = shared_back cuts prints text (asked.Status c) e tt
  command_back text (asked.Journal c) e h = own_line_back (Journal c None) (h, tt)
  command_back text asked.Stop e h = refl

  -- what a line without a tag asks for is read back
  abbrev BackIf : Result Line LineFault → Type 0
  BackIf (Ok line) = line_of (printed line) ≡ Ok line
  BackIf (Err fault) = ⊤

  commanded_back : (text : List ℕ) (r : Result Asked ConsoleFault) → command_of text ≡ r → Wants r → BackIf (of_commanded r)
  commanded_back text (Ok command) e h = command_back text command e h
  commanded_back text (Err fault) e h = tt

  either_back : (text : List ℕ) (own : Result (Option Line) LineFault) → WrittenOwn own → Wants (command_of text) → BackIf (own_or_command own text)
  either_back text (Ok (Some line)) h k = own_line_back line h
  either_back text (Ok None) h k = commanded_back text (command_of text) refl k
  either_back text (Err fault) h k = tt

  line_back : WordsArePlain → (text : List ℕ) → BackIf (line_of text)
  line_back plain text = either_back text (own_of text) (name_written (first_word text) (words (behind_word text)) (plain (behind_word text))) (wanted text)

  one_back : WordsArePlain → (text : List ℕ) (line : Line) → line_of text ≡ Ok line → line_of (printed line) ≡ Ok line
  one_back plain text line e = subst BackIf e (line_back plain text)

-- no printed line begins with `@`: without a tag it is read as a line
printed_act_alone : (c : ℕ) (a : Act) → asking_of (printed_act c a) ≡ record { tag = None; line = line_of (printed_act c a) }
printed_act_alone c act.Close = refl
printed_act_alone c (act.Revoke request) = refl
printed_act_alone c (act.AddUser user) = refl
printed_act_alone c (act.AddFloor floor) = refl
printed_act_alone c (act.SetChair floor chair) = refl

printed_command_alone : (command : Asked) → asking_of (console.printed command) ≡ record { tag = None; line = line_of (console.printed command) }
printed_command_alone asked.Empty = refl
printed_command_alone (asked.Open path) = refl
printed_command_alone (asked.Close c) = printed_act_alone c act.Close
printed_command_alone (asked.Revoke c request) = printed_act_alone c (act.Revoke request)
printed_command_alone (asked.AddUser c user) = printed_act_alone c (act.AddUser user)
printed_command_alone (asked.AddFloor c floor) = printed_act_alone c (act.AddFloor floor)
printed_command_alone (asked.SetChair c floor chair) = printed_act_alone c (act.SetChair floor chair)
printed_command_alone (asked.Status c) = refl
printed_command_alone (asked.Journal c) = refl
printed_command_alone asked.Stop = refl

printed_alone : (line : Line) → asking_of (printed line) ≡ record { tag = None; line = line_of (printed line) }
printed_alone (Command command) = printed_command_alone command
printed_alone OpenHere = refl
printed_alone Listing = refl
printed_alone (Users c) = refl
printed_alone (Members c) = refl
printed_alone (Floors c) = refl
printed_alone (Leave c n) = refl
printed_alone (Forget c) = refl
printed_alone (Journal c from) = refl
printed_alone (Watch c from) = refl
printed_alone (Unwatch c) = refl
printed_alone (Word c key value) = refl
printed_alone (Words c) = refl
printed_alone Metrics = refl
printed_alone Drain = refl

-- a line behind a tag isn't empty
abbrev Says : Line → Type 0
Says (Command command) = IsAsked command
Says OpenHere = ⊤
Says Listing = ⊤
Says (Users c) = ⊤
Says (Members c) = ⊤
Says (Floors c) = ⊤
Says (Leave c n) = ⊤
Says (Forget c) = ⊤
Says (Journal c from) = ⊤
Says (Watch c from) = ⊤
Says (Unwatch c) = ⊤
Says (Word c key value) = ⊤
Says (Words c) = ⊤
Says Metrics = ⊤
Says Drain = ⊤

command_behind : (command : Asked) → IsAsked command → line_behind (console.printed command) ≡ line_of (console.printed command)
command_behind asked.Empty h = absurd h
command_behind (asked.Open path) h = refl
command_behind (asked.Close c) h = refl
command_behind (asked.Revoke c request) h = refl
command_behind (asked.AddUser c user) h = refl
command_behind (asked.AddFloor c floor) h = refl
command_behind (asked.SetChair c floor chair) h = refl
command_behind (asked.Status c) h = refl
command_behind (asked.Journal c) h = refl
command_behind asked.Stop h = refl

printed_line_behind : (line : Line) → Says line → line_behind (printed line) ≡ line_of (printed line)
printed_line_behind (Command command) h = command_behind command h
printed_line_behind OpenHere h = refl
printed_line_behind Listing h = refl
printed_line_behind (Users c) h = refl
printed_line_behind (Members c) h = refl
printed_line_behind (Floors c) h = refl
printed_line_behind (Leave c n) h = refl
printed_line_behind (Forget c) h = refl
printed_line_behind (Journal c from) h = refl
printed_line_behind (Watch c from) h = refl
printed_line_behind (Unwatch c) h = refl
printed_line_behind (Word c key value) h = refl
printed_line_behind (Words c) h = refl
printed_line_behind Metrics h = refl
printed_line_behind Drain h = refl

written_says : (line : Line) → IsWritten line → Says line
written_says (Command command) h = absurd h
written_says OpenHere h = tt
written_says Listing h = tt
written_says (Users c) h = tt
written_says (Members c) h = tt
written_says (Floors c) h = tt
written_says (Leave c n) h = tt
written_says (Forget c) h = tt
written_says (Journal c from) h = tt
written_says (Watch c from) h = tt
written_says (Unwatch c) h = tt
written_says (Word c key value) h = tt
written_says (Words c) h = tt
written_says Metrics h = tt
written_says Drain h = tt

open_says : (path : List ℕ) (b : Bool) → Says (cond b OpenHere (Command (asked.Open path)))
open_says path true = tt
open_says path false = tt

command_says : (command : Asked) → IsAsked command → Says (of_command command)
command_says asked.Empty h = absurd h
command_says (asked.Open path) h = open_says path (bytes_eq path (codes "."))
command_says (asked.Close c) h = tt
command_says (asked.Revoke c request) h = tt
command_says (asked.AddUser c user) h = tt
command_says (asked.AddFloor c floor) h = tt
command_says (asked.SetChair c floor chair) h = tt
command_says (asked.Status c) h = tt
command_says (asked.Journal c) h = tt
command_says asked.Stop h = tt

abbrev SaysIf : Result Line LineFault → Type 0
SaysIf (Ok line) = Says line
SaysIf (Err fault) = ⊤

commanded_says : (r : Result Asked ConsoleFault) → Asks r → SaysIf (of_commanded r)
commanded_says (Ok command) h = command_says command h
commanded_says (Err fault) h = tt

either_says : (b : ℕ) (text : List ℕ) (own : Result (Option Line) LineFault) → WrittenOwn own → SaysIf (own_or_command own (b ∷ text))
either_says b text (Ok (Some line)) h = written_says line h
either_says b text (Ok None) h = commanded_says (command_of (b ∷ text)) (line_asks b text)
either_says b text (Err fault) h = tt

module _ (plain : WordsArePlain) where
  line_says : (b : ℕ) (text : List ℕ) (line : Line) → line_of (b ∷ text) ≡ Ok line → Says line
  line_says b text line e =
      subst SaysIf e (either_says b text (own_of (b ∷ text)) (name_written (first_word (b ∷ text)) (words (behind_word (b ∷ text))) (plain (behind_word (b ∷ text)))))

-- a tag has no space
tag_byte_on : (b : ℕ) (t : Bool) → is_space b ≡ t → is_tag_byte b ≡ true → is_space b ≡ false
tag_byte_on b true e h =
    let space : b ≡ 32 = eqb-true b 32 e in
    cc (ap is_tag_byte space, h)
tag_byte_on b false e h = e

and_left : (a b : Bool) → (a && b) ≡ true → a ≡ true
and_left true b e = refl
and_left false b e = e

and_right : (a b : Bool) → (a && b) ≡ true → b ≡ true
and_right true b e = e
and_right false b e = absurd (false≢true e)

-- a tag ends at the first space behind it
tag_len : (tag rest : List ℕ) → list_all is_tag_byte tag ≡ true → position_or_len is_space (tag ++ (32 ∷ rest)) ≡ length tag
tag_len [] rest e = refl
tag_len (b ∷ tag) rest e =
    rw (tag_byte_on b (is_space b) refl (and_left (is_tag_byte b) _ e))
    (ap (λ n. 1 + n) (tag_len tag rest (and_right (is_tag_byte b) _ e)) ∙ omega arith)

before_tag : (tag rest : List ℕ) → list_all is_tag_byte tag ≡ true → before_first is_space (tag ++ (32 ∷ rest)) ≡ tag
before_tag tag rest e = ap (λ n. take n (tag ++ (32 ∷ rest))) (tag_len tag rest e) ∙ take-append_seam tag (32 ∷ rest)

after_tag : (tag rest : List ℕ) → list_all is_tag_byte tag ≡ true → after_first is_space (tag ++ (32 ∷ rest)) ≡ rest
after_tag tag rest e = ap (λ n. drop (n + 1) (tag ++ (32 ∷ rest))) (tag_len tag rest e) ∙ drop-append-add tag (32 ∷ rest) 1

tag_all : (word : List ℕ) → is_tag word ≡ true → list_all is_tag_byte word ≡ true
tag_all word e = and_right (nat_le (length word) 32) _ (and_right (nat_le 1 (length word)) _ e)

tag_there : (word : List ℕ) (b : Bool) → b ≡ true → cond b (Some word) None ≡ Some word
tag_there word true e = refl
tag_there word false e = absurd (false≢true e)

tag_on : (word tag : List ℕ) (b : Bool) → is_tag word ≡ b → cond b (Some word) None ≡ Some tag → is_tag tag ≡ true
tag_on word tag true e h = let same : word ≡ tag = cc h in ap is_tag (sym same) ∙ e
tag_on word tag false e h = cc h

-- what is read of a printed line behind a tag
tagged_reads : (tag line : List ℕ) → is_tag tag ≡ true → asking_of (mark tag ++ line) ≡ record { tag = Some tag; line = line_behind line }
tagged_reads tag line e =
    let all = tag_all tag e in
    ap asking_behind (append_assoc tag (32 ∷ []) line)
    ∙ ap (λ w. with_tag (tag_of w) (after_first is_space (tag ++ (32 ∷ line)))) (before_tag tag line all)
    ∙ ap (λ rest. with_tag (tag_of tag) rest) (after_tag tag line all)
    ∙ ap (λ o. with_tag o line) (tag_there tag (is_tag tag) e)

abbrev Asks_of : Option (List ℕ) → Line → Asking
Asks_of tag line = record { tag = tag; line = Ok line }

module _ (prints : console.PrintedIsReadBack) (cuts : FirstWordsAreCutOff) (numbers : NumbersAreReadBack) (back : WordsAreReadBack) (plain : WordsArePlain) where
  untagged_back : (text : List ℕ) (tag : Option (List ℕ)) (line : Line) → None ≡ tag → line_of text ≡ Ok line
      → asking_of (printed_behind tag (printed line)) ≡ Asks_of tag line
  untagged_back text None line e h =
      printed_alone line ∙ ap (λ (l : Result Line LineFault). record { tag = None; line = l }) (one_back prints cuts numbers back plain text line h)
  untagged_back text (Some tag) line e h = cc e

  tagged_back : (tag : List ℕ) (b : ℕ) (text : List ℕ) (line : Line) → is_tag tag ≡ true → line_of (b ∷ text) ≡ Ok line
      → asking_of (mark tag ++ printed line) ≡ Asks_of (Some tag) line
  tagged_back tag b text line e h =
      tagged_reads tag (printed line) e
      ∙ ap (λ (l : Result Line LineFault). record { tag = Some tag; line = l })
      (printed_line_behind line (line_says plain b text line h) ∙ one_back prints cuts numbers back plain (b ∷ text) line h)

  behind_back : (found : List ℕ) (rest : List ℕ) (line : Line) → is_tag found ≡ true → line_behind rest ≡ Ok line
      → asking_of (mark found ++ printed line) ≡ Asks_of (Some found) line
  behind_back found [] line e h = cc h
  behind_back found (b ∷ rest) line e h = tagged_back found b rest line e h

  with_back : (word rest : List ℕ) (o : Option (List ℕ)) (tag : Option (List ℕ)) (line : Line) → tag_of word ≡ o → with_tag o rest ≡ Asks_of tag line
      → asking_of (printed_behind tag (printed line)) ≡ Asks_of tag line
  with_back word rest None tag line e h = cc (ap (λ (a : Asking). a.line) h)
  with_back word rest (Some found) None line e h = cc (ap (λ (a : Asking). a.tag) h)
  with_back word rest (Some found) (Some tag) line e h =
      let same : Some found ≡ Some tag = ap (λ (a : Asking). a.tag) h in
      let is : found ≡ tag = cc same in
      subst (λ t. asking_of (mark t ++ printed line) ≡ Asks_of (Some t) line) is
      (behind_back found rest line (tag_on word found (is_tag word) refl e) (ap (λ (a : Asking). a.line) h))

  marked_back : (b : ℕ) (text : List ℕ) (t : Bool) (tag : Option (List ℕ)) (line : Line)
      → cond t (asking_behind text) record { tag = None; line = line_of (b ∷ text) } ≡ Asks_of tag line
      → asking_of (printed_behind tag (printed line)) ≡ Asks_of tag line
  marked_back b text true tag line e = with_back (before_first is_space text) (after_first is_space text) (tag_of (before_first is_space text)) tag line refl e
  marked_back b text false tag line e = untagged_back (b ∷ text) tag line (ap (λ (a : Asking). a.tag) e) (ap (λ (a : Asking). a.line) e)

  pub lines_read_back : LinesAreReadBack
  lines_read_back [] tag line e = untagged_back [] tag line (ap (λ (a : Asking). a.tag) e) (ap (λ (a : Asking). a.line) e)
  lines_read_back (b ∷ text) tag line e = marked_back b text (b == 64) tag line e
