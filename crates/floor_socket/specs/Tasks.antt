-- The answer of a line at work, and what isn't handed out of it.
use Rattle.std.specs.Prelude.{◌≡◌, ℕ, ◌+◌, ◌==◌, Bool, true, false, List, [], length, take, drop, position, string_bytes, Option}
use Rattle.std.specs.Option.{option_map_or}
use Rattle.std.specs.Str.{IsCharBoundary}
use Rattle.floor_socket.specs.declared.task.Step.{Step}
use Rattle.floor_socket.specs.declared.task.Step.TheVariants.{Hold, Standing, Watch}
use Rattle.floor_socket.specs.declared.task.Task.{Task}
use Rattle.floor_socket.specs.declared.task.Then.TheVariants as then

-- the text that is there and isn't handed out yet
abbrev pub left : Task → List ℕ
left task = drop task.at (string_bytes task.text)

-- it begins where a character does
abbrev pub IsWhole : Task → Type 0
IsWhole task = IsCharBoundary (string_bytes task.text) task.at

-- a line with this tag, of whose answer there is nothing yet
pub record IsNew (its_tag : Option (List ℕ)) (its_step : Step) (task : Task) : Type 0 where
  pub tag : task.tag ≡ its_tag
  pub step : task.step ≡ its_step
  pub begun : task.is_begun ≡ false
  pub at : task.at ≡ 0
  pub text : string_bytes task.text ≡ []

-- the line of before, with nothing that isn't handed out
pub record IsClear (before task : Task) : Type 0 where
  pub tag : task.tag ≡ before.tag
  pub step : task.step ≡ before.step
  pub begun : task.is_begun ≡ before.is_begun
  pub at : task.at ≡ 0
  pub text : string_bytes task.text ≡ []

-- the answer waits for what its client watches
abbrev pub is_held : Step → Bool
is_held (Hold conference place) = true
is_held _ = false

-- how many bytes are handed out at once: up to the first line feed behind 32,768 bytes, or all
abbrev pub len_at_once : List ℕ → ℕ
len_at_once text = option_map_or (λ place. 32768 + place + 1) (position (λ b. b == 10) (drop 32768 text)) (length text)

abbrev pub first_of : List ℕ → List ℕ
first_of text = take (len_at_once text) text

-- the next lines were handed out, and the rest is left
pub record HandedOut (before task : Task) : Type 0 where
  pub tag : task.tag ≡ before.tag
  pub step : task.step ≡ before.step
  pub begun : task.is_begun ≡ true
  pub left : left task ≡ drop (len_at_once (left before)) (left before)
  pub whole : IsWhole task

-- what is left is the same
pub record HasSame (before task : Task) : Type 0 where
  pub tag : task.tag ≡ before.tag
  pub step : task.step ≡ before.step
  pub begun : task.is_begun ≡ before.is_begun
  pub left : left task ≡ left before
  pub whole : IsWhole task

-- it is on the way to watch this conference
abbrev pub watches : ℕ → Step → Bool
watches of (Standing conference (then.Watch from)) = conference == of
watches of (Watch conference from) = conference == of
watches of _ = false
