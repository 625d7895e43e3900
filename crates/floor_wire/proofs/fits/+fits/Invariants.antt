use Rattle.std.proofs.Common.{◌≡◌, ◌+◌, ◌*◌, ◌≤◌, length, take}
use Rattle.floor_wire.specs.Bytes.{IsOfBytes}
use Rattle.floor_wire.specs.Attributes.{content_size, attributes_size}
use Rattle.floor_wire.specs.Spelling.{canon, IsWritable}
use Rattle.floor_wire.specs.View.{attributes_of, content_of}
use Rattle.floor_wire.proofs.fits.+fits.Given as goal

abbrev pub decreases-contents_len : goal.decreases-contents_len
decreases-contents_len l = 2 * content_size (content_of l.body.now)

abbrev pub decreases-attribute_len : goal.decreases-attribute_len
decreases-attribute_len l = 2 * content_size (content_of l.attr.now.body) + 1

abbrev pub decreases-list_len : goal.decreases-list_len
decreases-list_len l = 2 * attributes_size (attributes_of l.attrs.now)

abbrev pub invariant-list_len-loop-attr : goal.invariant-list_len-loop-attr
invariant-list_len-loop-attr l = IsWritable (attributes_of (take l.attr-index l.attrs)) × IsOfBytes (attributes_of (take l.attr-index l.attrs))
    × (l.sum ≡ length (canon (attributes_of (take l.attr-index l.attrs)))) × (l.sum ≤ l.most)
