-- What a writer wrote of the parcels that it took.
use Rattle.std.specs.Prelude.{◌≡◌, ℕ, ◌+◌, ◌-◌, ◌^◌, ◌≤◌, min, List, [], ◌∷◌, ◌++◌, length, take, Option}
use Rattle.std.specs.Io.KnownBytes.{Appends}
use Rattle.floor_machine.specs.Parcel.{Parcel}

-- the bytes of parcels, one after another
abbrev pub all_bytes : List Parcel → List ℕ
all_bytes [] = []
all_bytes (p ∷ ps) = p.bytes ++ all_bytes ps

-- counts stop at the greatest value
abbrev pub capped : ℕ → ℕ
capped n = min n (2 ^ 64 - 1)

-- Of these bytes a first part was written, and so many are counted behind those before.
pub record Moved (was is : Option (List ℕ)) (all rest : List ℕ) (total new : ℕ) : Type 0 where
  pub wrote : List ℕ
  pub parts : all ≡ wrote ++ rest
  pub grew : Appends was is wrote
  pub count : new ≡ capped (total + length wrote)

-- The sink failed: of these bytes a beginning was written, and so many are counted behind those before.
pub record Failed (was is : Option (List ℕ)) (all : List ℕ) (total bytes : ℕ) : Type 0 where
  pub count : ℕ
  pub within : count ≤ length all
  pub grew : Appends was is (take count all)
  pub bytes_is : bytes ≡ capped (total + count)

-- The taker took parcels; of their bytes a first part was written, and the rest is gathered.
pub record Gathered (old new : List Parcel) (was is : Option (List ℕ)) (rest : List ℕ) (parcels bytes : ℕ) : Type 0 where
  pub took : List Parcel
  pub taken : new ≡ old ++ took
  pub parcels_is : parcels ≡ capped (length took)
  pub moved : Moved was is (all_bytes took) rest 0 bytes

-- The taker took parcels, and just their bytes were written.
pub record Wrote (old new : List Parcel) (was is : Option (List ℕ)) (parcels bytes : ℕ) : Type 0 where
  pub took : List Parcel
  pub taken : new ≡ old ++ took
  pub grew : Appends was is (all_bytes took)
  pub parcels_is : parcels ≡ capped (length took)
  pub bytes_is : bytes ≡ capped (length (all_bytes took))

-- The sink failed: of the bytes of the parcels that were taken a beginning was written.
pub record Stopped (old new : List Parcel) (was is : Option (List ℕ)) (bytes : ℕ) : Type 0 where
  pub took : List Parcel
  pub taken : new ≡ old ++ took
  pub failed : Failed was is (all_bytes took) 0 bytes
