use Rattle.std.proofs.Common.{◌≡◌, ◌++◌, take, string_bytes}
use Rattle.floor_kept.specs.Writing.{note_lines}
use Rattle.floor_kept.proofs.writing.add_notes.Given as goal

-- the lines of the notes so far were added
abbrev pub invariant-loop-note : goal.invariant-loop-note
invariant-loop-note l = string_bytes l.text ≡ string_bytes l.initial.text ++ note_lines l.place (take l.note-index l.notes)
