-- The bytes that came from a client, and what line comes next.
use Rattle.std.specs.Prelude.{ℕ, ◌+◌, ◌==◌, ◌&&◌, Bool, true, nat_le, nat_lt, if◌then◌else◌, List, [], ◌++◌, length, take, drop, position, is_none, Option, Some, None}
use Rattle.std.specs.Str.Lossy.{utf8_valid_len}
use Rattle.floor_control.specs.declared.incoming.Next.{Next}
use Rattle.floor_control.specs.declared.incoming.Next.TheVariants.{Line, NotText, TooLong, Nothing, Ended}

-- the bytes that came and are in no line that was given, and whether no more come
pub record Incoming : Type 0 where
  pub held : List ℕ
  pub has_ended : Bool

-- the byte ends a line: it is a line feed
abbrev pub is_line_feed : ℕ → Bool
is_line_feed b = b == 10

-- how many bytes stand before the first line feed, where there is one
abbrev pub line_len : List ℕ → Option ℕ
line_len bytes = position is_line_feed bytes

-- the bytes are UTF-8: they are so up to their end
abbrev pub is_text : List ℕ → Bool
is_text bytes = utf8_valid_len bytes == length bytes

-- the line of these bytes
abbrev pub line_next : List ℕ → Next
line_next bytes = if is_text bytes then Line bytes else NotText (length bytes)

-- what comes where no line does that may
abbrev pub without_line : Incoming → Next
without_line i = if nat_lt 65536 (length i.held) then TooLong else if i.has_ended then Ended else Nothing

-- what comes next: the line before the first line feed, where it has 65,536 bytes at most
abbrev pub next_at : Option ℕ → Incoming → Next
next_at (Some len) i = if nat_le len 65536 then line_next (take len i.held) else without_line i
next_at None i = without_line i

abbrev pub next_of : Incoming → Next
next_of i = next_at (line_len i.held) i

-- what is held then: behind a line that is too long nothing, and nothing more comes
abbrev pub rest_without_line : Incoming → Incoming
rest_without_line i = if nat_lt 65536 (length i.held) then record { held = []; has_ended = true } else i

abbrev pub rest_at : Option ℕ → Incoming → Incoming
rest_at (Some len) i = if nat_le len 65536 then record i { held = drop (len + 1) i.held } else rest_without_line i
rest_at None i = rest_without_line i

abbrev pub rest_of : Incoming → Incoming
rest_of i = rest_at (line_len i.held) i

-- bytes that came
abbrev pub took_in : List ℕ → Incoming → Incoming
took_in bytes i = if i.has_ended then i else record i { held = i.held ++ bytes }

-- no more bytes come
abbrev pub ended : Incoming → Incoming
ended i = record i { has_ended = true }

-- how many bytes may be read: none behind the end, or while more are held than the longest line has
abbrev pub room_of : Incoming → ℕ
room_of i = if i.has_ended then 0 else if nat_lt 65536 (length i.held) then 0 else 4096

-- no line comes any more
abbrev pub is_spent : Incoming → Bool
is_spent i = i.has_ended && (nat_le (length i.held) 65536 && is_none (line_len i.held))
