-- What was written whole is a part of what was to be written.
use Rattle.std.proofs.Common.{◌≡◌, ℕ, List, length, take, Option, sym, subst, arith}
use Rattle.std.specs.Prelude.{Result, Ok, Err, OnErr}
use Rattle.std.proofs.Math.Seq.{take-length}
use Rattle.std.specs.Io.KnownBytes.{Appends}
use Rattle.floor_kept.specs.Writing.{IsPart}

pub whole_part : (was is : Option (List ℕ)) (bytes : List ℕ) → Appends was is bytes → IsPart was is bytes
whole_part was is bytes grew = record {
  count = length bytes;
  within = omega arith;
  grew = subst (λ (written : List ℕ). Appends was is written) (sym (take-length bytes)) grew;
}

pub on_err : {T E : Type 0} (r : Result T E) (P : Type 0) → P → OnErr r P
on_err (Ok x) P p = tt
on_err (Err e) P p = p
