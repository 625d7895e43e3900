use Rattle.floor_ffi.proofs.opening.told.Goals as goal

pub returns : goal.returns
returns c = record { result = c.number.ensures.value; line = (c.args.line.now, (c.put_text.ensures.len, c.put_text.ensures.bytes, c.put_text.ensures.kept)) }
