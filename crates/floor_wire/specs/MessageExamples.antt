-- Streams and their messages, worked out by hand and computed.
use Rattle.std.specs.Prelude.{◌≡◌, ℕ, List, [], ◌∷◌, ◌++◌, refl}
use Rattle.floor_wire.specs.Message.{IsMessage, messages, messages_of_at_most, rest}

-- the bytes of a Hello
abbrev pub hello : List ℕ
hello = 0x20 ∷ 0x0b ∷ 0 ∷ 0 ∷ 0 ∷ 0 ∷ 0 ∷ 1 ∷ 0 ∷ 1 ∷ 0 ∷ 0x0a ∷ []

pub hello_is_message : IsMessage hello
hello_is_message = refl

pub hello_and_a_byte : messages (hello ++ 0x20 ∷ []) ≡ hello ∷ []
unfolding messages messages_of_at_most
hello_and_a_byte = refl

pub a_byte_is_left : rest (hello ++ 0x20 ∷ []) ≡ 0x20 ∷ []
unfolding messages messages_of_at_most rest
a_byte_is_left = refl

pub hello_twice : messages (hello ++ hello) ≡ hello ∷ hello ∷ []
unfolding messages messages_of_at_most
hello_twice = refl
