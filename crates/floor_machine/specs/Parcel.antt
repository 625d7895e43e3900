-- What is sent to one member.
use Rattle.std.specs.Prelude.{ℕ, List}

-- one message for the member with this number, as bytes
pub record Parcel : Type 0 where
  pub n : ℕ
  pub bytes : List ℕ
