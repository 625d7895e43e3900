-- Attributes as values, apart from where they lie in memory (RFC 8855, section 5.2).
use Rattle.std.specs.Prelude.{ℕ, suc, ◌+◌, Bool, List}

mutual
  -- the body of an attribute: a group holds its head number and attributes
  pub data Content : Type 0 where
    num : ℕ → Content
    pair : ℕ → ℕ → Content
    group : ℕ → Attributes → Content
    octets : List ℕ → Content

  -- attributes in order: the type, the M bit and the body of each, before those after it
  pub data Attributes : Type 0 where
    no_attributes : Attributes
    attribute : ℕ → Bool → Content → Attributes → Attributes

-- how many attributes there are, with those inside groups
abbrev mutual
  pub content_size : Content → ℕ
  content_size (num n) = 0
  content_size (pair a b) = 0
  content_size (group n inside) = suc (attributes_size inside)
  content_size (octets os) = 0

  pub attributes_size : Attributes → ℕ
  attributes_size no_attributes = 0
  attributes_size (attribute kind must content rest) = suc (content_size content + attributes_size rest)
