-- What goes out to a client.
use Rattle.std.specs.Prelude.{ℕ, ◌-◌, Bool, ◌==◌, List, [], ◌++◌, length, take, drop}

-- what waits to be taken; how many bytes of it stand in front of the answer that is under way; and how many bytes of that answer are left. The others are notifications'
pub record Outgoing : Type 0 where
  pub bytes : List ℕ
  pub ahead : ℕ
  pub answer : ℕ

abbrev pub nothing_waits : Outgoing
nothing_waits = record { bytes = []; ahead = 0; answer = 0 }

abbrev pub is_empty : Outgoing → Bool
is_empty o = length o.bytes == 0

-- how many bytes of notifications wait
abbrev pub notices_len : Outgoing → ℕ
notices_len o = length o.bytes - o.answer

-- an answer stands behind what waits
abbrev pub answered : List ℕ → Outgoing → Outgoing
answered line o = record { bytes = o.bytes ++ line; ahead = length o.bytes; answer = length line }

-- a notification stands behind what waits
abbrev pub told : List ℕ → Outgoing → Outgoing
told line o = record o { bytes = o.bytes ++ line }

-- what is lent: 64 KiB at most
abbrev pub lent : Outgoing → List ℕ
lent o = take 65536 o.bytes

-- so many bytes were taken: first those in front of the answer, then the answer's
abbrev pub took : ℕ → Outgoing → Outgoing
took count o = record { bytes = drop count o.bytes; ahead = o.ahead - count; answer = o.answer - (count - o.ahead) }
