use Rattle.std.proofs.Common.{string_bytes}
use Rattle.floor_kept.proofs.Written.{note_more}
use Rattle.floor_kept.proofs.writing.add_notes.Goals as goal

pub loop-note-preserved : goal.loop-note-preserved
loop-note-preserved c =
    note_more c.args.place c.loop-note.note-index c.args.notes.now c.note-item.result _ (string_bytes c.loop-note.text) (string_bytes c.in_ok-line.line) (string_bytes c.push_str.new.self)
    c.loop-note-test.true c.note-item.is c.loop-note.invariant c.in_ok-line.ensures (rw c.as_str.ensures.value at c.in_ok-push_str.ensures.bytes)
