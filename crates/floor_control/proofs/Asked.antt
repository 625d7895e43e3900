-- What a line of the console that isn't empty asks for.
use Rattle.std.proofs.Common.{◌≡◌, ◌<◌, ◌^◌, ◌&&◌, ℕ, Bool, true, false, cond, nat_lt, List, [], ◌∷◌, refl, subst}
use Rattle.std.specs.Prelude.{Option, Some, None, Result, Ok, Err, codes, ⊤}
use Rattle.std.specs.Str.{bytes_eq}
use Rattle.std.specs.Str.Parse.{digits_value}
use Rattle.std.proofs.lemmas.Bool.{false≢true, ltb-true}
use Rattle.floor_machine.specs.declared.act.Act.{Act}
use Rattle.floor_machine.specs.declared.act.Act.TheVariants as act
use Rattle.floor_words.specs.Words.{is_numeral, words}
use Rattle.floor_acts.specs.Acts.{act_of}
use Rattle.floor_acts.specs.declared.act.ActLine.{ActLine}
use Rattle.floor_acts.specs.declared.fault.ActFault.{ActFault}
use Rattle.floor_console.specs.Command.{act_or_words, command_of, number_of, number_or_fault, of_act_upon, of_number, of_words}
use Rattle.floor_console.specs.declared.command.Command.{Command}
use Rattle.floor_console.specs.declared.command.Command.TheVariants.{Empty, Open, Close, Revoke, AddUser, AddFloor, SetChair, Status, Journal, Stop}
use Rattle.floor_console.specs.declared.command.ConsoleFault.{ConsoleFault}

-- it asks for something, and a conference of which the journal is asked for has 32 bits
abbrev pub IsAsked : Command → Type 0
IsAsked Empty = ⊥
IsAsked (Journal conference) = conference < 2 ^ 32
IsAsked (Open path) = ⊤
IsAsked (Close conference) = ⊤
IsAsked (Revoke conference request) = ⊤
IsAsked (AddUser conference user) = ⊤
IsAsked (AddFloor conference floor) = ⊤
IsAsked (SetChair conference floor chair) = ⊤
IsAsked (Status conference) = ⊤
IsAsked Stop = ⊤

abbrev pub Asks : Result Command ConsoleFault → Type 0
Asks (Ok command) = IsAsked command
Asks (Err fault) = ⊤

chosen : (b : Bool) (x y : Result Command ConsoleFault) → Asks x → Asks y → Asks (cond b x y)
chosen true x y h k = h
chosen false x y h k = k

and_right : (a b : Bool) → (a && b) ≡ true → b ≡ true
and_right true b e = e
and_right false b e = absurd (false≢true e)

abbrev Below : ℕ → Result ℕ ConsoleFault → Type 0
Below limit (Ok n) = n < limit
Below limit (Err fault) = ⊤

limited : (b : Bool) (v limit : ℕ) → (b ≡ true → v < limit) → Below limit (number_or_fault (cond b (Some v) None))
limited true v limit h = h refl
limited false v limit h = tt

below : (limit : ℕ) (word : List ℕ) → Below limit (number_of limit word)
below limit word =
    limited (is_numeral word && nat_lt (digits_value 10 word) limit) (digits_value 10 word) limit
    (λ e. ltb-true (digits_value 10 word) limit (and_right (is_numeral word) _ e))

made : (make : ℕ → Command) → ((n : ℕ) → n < 2 ^ 32 → IsAsked (make n)) → (r : Result ℕ ConsoleFault) → Below (2 ^ 32) r → Asks (of_number make r)
made make h (Ok n) few = h n few
made make h (Err fault) few = tt

words_ask : (ws : List (List ℕ)) → Asks (of_words ws)
words_ask [] = tt
words_ask (name ∷ []) = chosen (bytes_eq name (codes "stop")) (Ok Stop) _ tt tt
words_ask (name ∷ word ∷ []) =
    let few = below (2 ^ 32) word in
    chosen (bytes_eq name (codes "open")) (Ok (Open word)) _ tt
    (chosen (bytes_eq name (codes "status")) (of_number Status (number_of (2 ^ 32) word)) _ (made Status (λ n h. tt) (number_of (2 ^ 32) word) few)
    (chosen (bytes_eq name (codes "journal")) (of_number Journal (number_of (2 ^ 32) word)) _ (made Journal (λ n h. h) (number_of (2 ^ 32) word) few) tt))
words_ask (a ∷ b ∷ c ∷ more) = tt

act_asks : (c : ℕ) (a : Act) → IsAsked (of_act_upon c a)
act_asks c act.Close = tt
act_asks c (act.Revoke request) = tt
act_asks c (act.AddUser user) = tt
act_asks c (act.AddFloor floor) = tt
act_asks c (act.SetChair floor chair) = tt

either_asks : (r : Result (Option ActLine) ActFault) (ws : List (List ℕ)) → Asks (act_or_words r ws)
either_asks (Ok (Some line)) ws = act_asks line.conference line.act
either_asks (Ok None) ws = words_ask ws
either_asks (Err fault) ws = tt

pub line_asks : (b : ℕ) (line : List ℕ) → Asks (command_of (b ∷ line))
line_asks b line = either_asks (act_of (b ∷ line)) (words (b ∷ line))

-- a line that isn't empty asks for something
pub it_asks : (b : ℕ) (line : List ℕ) (command : Command) → command_of (b ∷ line) ≡ Ok command → IsAsked command
it_asks b line command e = subst Asks e (line_asks b line)
