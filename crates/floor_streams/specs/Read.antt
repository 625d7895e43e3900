-- What a stream gave, and what the loop was handed of it.
use Rattle.std.specs.Prelude.{◌≡◌, ◌≤◌, ◌<◌, ℕ, List, length, take, Option}
use Rattle.std.specs.Io.KnownBytes.{Consumes, IsAtEnd, Keeps}
use Rattle.floor_loop.specs.Done.{Hands, Reads, Steps}
use Rattle.floor_loop.specs.Loop.{Loop}
use Rattle.floor_loop.specs.Written.{TookNothing}
use Rattle.floor_streams.specs.declared.reading.Came.{Came}
use Rattle.floor_streams.specs.declared.reading.Came.TheVariants as came
use Rattle.floor_streams.specs.declared.reading.Found.{Found}
use Rattle.floor_streams.specs.declared.reading.Found.TheVariants.{Bytes, Nothing, End, Failure}

-- The stream gave the first so many bytes of the buffer; or none: at present, at its end where the buffer has room, or since it failed.
abbrev pub ReadsSome : Option (List ℕ) → Option (List ℕ) → List ℕ → Found → Type 0
ReadsSome was is buffer (Bytes count) = (count ≤ length buffer) × Consumes was is (take count buffer)
ReadsSome was is buffer Nothing = Keeps was is
ReadsSome was is buffer End = Keeps was is × (0 < length buffer → IsAtEnd is)
ReadsSome was is buffer Failure = Keeps was is

-- These bytes the stream gave, and the loop did such steps with them, by which no socket took anything.
pub record Handed (Are : List ℕ → Loop → Loop → Type 0) (old new : Loop) (was is : Option (List ℕ)) : Type 0 where
  pub bytes : List ℕ
  pub gave : Consumes was is bytes
  pub are : Are bytes old new
  pub took : TookNothing old new

-- What the stream gave was handed in, all of it and nothing else, where the loop refuses nothing of it; where nothing came the loop is as it was.
abbrev pub Hears : ℕ → ℕ → Loop → Loop → Option (List ℕ) → Option (List ℕ) → Came → Type 0
Hears number most old new was is (came.Bytes count more) = Handed (λ bytes a b. (length bytes ≡ count) × Steps (Hands number bytes most) a.hub b.hub) old new was is
Hears number most old new was is (came.Refused refusal) = Handed (λ bytes a b. Steps (Reads number bytes most) a.hub b.hub) old new was is
Hears number most old new was is came.Nothing = Keeps was is × (new ≡ old)
Hears number most old new was is came.End = Keeps was is × (new ≡ old)
Hears number most old new was is came.Failure = Keeps was is × (new ≡ old)
