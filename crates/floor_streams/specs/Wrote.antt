-- What a stream took, and what the loop was told of it.
use Rattle.std.specs.Prelude.{◌≡◌, ◌≤◌, ℕ, List, [], length, take, drop, nat_eq, false, Option}
use Rattle.std.specs.Io.KnownBytes.{Appends, Keeps}
use Rattle.floor_hub.specs.declared.step.Step.TheVariants.{Took as Takes}
use Rattle.floor_loop.specs.Done.{AtMost, Steps}
use Rattle.floor_loop.specs.Loop.{Loop, parcels_at, rest_at}
use Rattle.floor_loop.specs.Written.{Took, acknowledged_by}
use Rattle.floor_streams.specs.declared.writing.Written.{Written}
use Rattle.floor_streams.specs.declared.writing.Written.TheVariants.{All, Bytes, Nothing, Failure}

-- The stream took the first so many of these bytes; or none: there are none, at present, or since it failed.
abbrev pub WritesSome : Option (List ℕ) → Option (List ℕ) → List ℕ → Written → Type 0
WritesSome was is bytes All = (bytes ≡ []) × Keeps was is
WritesSome was is bytes (Bytes count) = (count ≤ length bytes) × Appends was is (take count bytes)
WritesSome was is bytes Nothing = Keeps was is
WritesSome was is bytes Failure = Keeps was is

-- The stream took the first so many bytes of what is on its way to the connection, where its bytes are known. The loop has down that the
-- connection's socket took just these, and no other connection's any; what they end is acknowledged, once nothing is left.
pub record Wrote (number count : ℕ) (old new : Loop) (was is : Option (List ℕ)) : Type 0 where
  pub within : count ≤ length (rest_at old number)
  pub grew : Appends was is (take count (rest_at old number))
  pub steps : Steps (AtMost 1 (Takes number (parcels_at old number))) old.hub new.hub
  pub took : Took old new number (take count (rest_at old number)) (acknowledged_by (drop count (rest_at old number)) (parcels_at old number))
  pub others : (k : ℕ) → nat_eq number k ≡ false → Took old new k [] 0

-- What the stream took the loop was told, as taken by this connection's socket; where it took nothing the loop is as it was.
abbrev pub Writes : ℕ → Loop → Loop → Option (List ℕ) → Option (List ℕ) → Written → Type 0
Writes number old new was is All = (rest_at old number ≡ []) × Keeps was is × (new ≡ old)
Writes number old new was is (Bytes count) = Wrote number count old new was is
Writes number old new was is Nothing = Keeps was is × (new ≡ old)
Writes number old new was is Failure = Keeps was is × (new ≡ old)
