-- What can be written has no group of more than 252 bytes and no octet string of more than 253 octets.
use Rattle.std.proofs.Common.{◌+◌, arith, length-append}
use Rattle.std.specs.Int.{w16, to_be_bytes}
use Rattle.floor_wire.specs.Attributes.{Content, num, pair, group, octets, Attributes, no_attributes, attribute}
use Rattle.floor_wire.specs.Spelling.{IsWritable, IsWritableContent, canon, content_canon}
use Rattle.std.proofs.Common.{length, ◌<◌}
use Rattle.floor_message.specs.Laws.{HasShortContent, HasShortContents}
use Rattle.floor_message.proofs.Rooms.{canon_aligned}

mutual
  short_content : (c : Content) → 2 + length (content_canon c) < 256 → IsWritableContent c → HasShortContent c
  short_content (num n) h w = tt
  short_content (pair a b) h w = tt
  short_content (group n inside) h w = (omega (arith, h, canon_aligned inside, length-append (to_be_bytes w16 n) (canon inside)), short_contents inside w.1)
  short_content (octets os) h w = omega (arith, h)

  pub short_contents : (a : Attributes) → IsWritable a → HasShortContents a
  short_contents no_attributes w = tt
  short_contents (attribute kind must c rest) w = (short_content c w.2 w.3, short_contents rest w.4)
