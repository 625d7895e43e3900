use Rattle.std.proofs.Common.{ap, ◌∙◌, length, string_bytes, take_at}
use Rattle.floor_ffi.proofs.Lining.{put-line}
use Rattle.floor_ffi.proofs.reading.put_line.Goals as goal

pub returns-then-room-line : goal.returns-then-room-line
returns-then-room-line c =
    let is = put-line c.args.events.now c.args.done c.in_ok-add_lines.field-0 c.as_bytes-line.result.now (string_bytes c.add_lines.new.text) (string_bytes c.new-text.result) (c.as_bytes-line.ensures.value ∙ c.as_str.ensures.value)
    c.new-text.ensures.bytes c.in_ok-add_lines.ensures.lines c.requires c.in_ok-add_lines.ensures.one c.in_ok-add_lines.ensures.within in
    record { value = (ap length is, c.if-room-line.true) }

pub returns : goal.returns
returns c =
    let is = put-line c.args.events.now c.args.done c.in_ok-add_lines.field-0 c.as_bytes-line.result.now (string_bytes c.add_lines.new.text) (string_bytes c.new-text.result) (c.as_bytes-line.ensures.value ∙ c.as_str.ensures.value)
    c.new-text.ensures.bytes c.in_ok-add_lines.ensures.lines c.requires c.in_ok-add_lines.ensures.one c.in_ok-add_lines.ensures.within in
    record { value = (ap length is, c.if-room-line.false, take_at c.copy_from_slice.new.self c.split_at_mut-front.result.1.now (length c.as_bytes-line.result.now) (ap length c.copy_from_slice.ensures.after) ∙ c.copy_from_slice.ensures.after ∙ is) }
