-- The file of one conference, with the texts that wait for it.
use Rattle.std.specs.Prelude.{ℕ, ◌+◌, ◌==◌, nat_lt, Bool, if◌then◌else◌, List, [], ◌∷◌, ◌++◌, length}
use Rattle.floor_machine.specs.declared.event.Event.{Event}
use Rattle.floor_keep.specs.declared.found.Finish.{Finish}
use Rattle.floor_keep.specs.declared.found.Finish.TheVariants as finish
use Rattle.floor_keep.specs.declared.found.Standing.{Standing}
use Rattle.floor_kept.specs.Entries.{entry_line}
use Rattle.floor_kept.specs.Writing.{turn_lines}
use Rattle.floor_kept.specs.declared.entry.Entry.{Entry}
use Rattle.floor_kept.specs.declared.entry.Entry.TheVariants.{End}
use Rattle.floor_keeping.specs.declared.kept.Change.{Change}
use Rattle.floor_keeping.specs.declared.kept.Change.TheVariants as change
use Rattle.floor_keeping.specs.declared.policy.Policy.{Policy}
use Rattle.floor_keeping.specs.declared.state.Asked.{Asked}
use Rattle.floor_keeping.specs.declared.state.Asked.TheVariants as asked
use Rattle.floor_keeping.specs.declared.state.Course.{Course}
use Rattle.floor_keeping.specs.declared.state.Course.TheVariants as course
use Rattle.floor_keeping.specs.declared.state.Front.{Front}
use Rattle.floor_keeping.specs.declared.state.Front.TheVariants as front
use Rattle.floor_keeping.specs.declared.state.State.{State}
use Rattle.floor_keeping.specs.State as state
use Rattle.floor_keeping.specs.State.{asking, next_asked, with_events}

-- what is known of it; the head of a file that is to be made; the text that is out, or was; and the text to be appended next
pub record KeptFile : Type 0 where
  pub state : State
  pub head : List ℕ
  pub out : List ℕ
  pub next : List ℕ

-- of a conference that opens, with the head of its file
abbrev pub begins : List ℕ → KeptFile
begins head = record { state = with_events 0 front.New course.GoesOn; head = head; out = []; next = [] }

-- how the file goes on that was found so: one that was closed gets its end, where that is missing, and its last name
abbrev pub course_of : Finish → Course
course_of finish.GoesOn = course.GoesOn
course_of finish.Closed = course.Closing
course_of finish.Ended = course.Closing

abbrev pub end_missing : ℕ → Finish → List ℕ
end_missing events finish.GoesOn = []
end_missing events finish.Closed = entry_line (events + 1) End
end_missing events finish.Ended = []

-- so many bytes of it stand, and what is torn stands behind those
abbrev pub front_of : ℕ → ℕ → Front
front_of stands torn = if torn == 0 then front.Whole else front.Torn stands

abbrev pub resumes : Standing → KeptFile
resumes s = record {
  state = with_events s.events (front_of s.stands s.torn) (course_of s.finish);
  head = [];
  out = [];
  next = end_missing s.events s.finish;
}

-- text is there to be appended
abbrev pub has_text : List ℕ → Bool
has_text text = nat_lt 0 (length text)

abbrev pub asked_of : Policy → ℕ → KeptFile → Asked
asked_of p now f = next_asked p now (has_text f.next) f.state

-- what is new of the journal, and what is noted beside it, waits behind what did
abbrev pub put : List Event → List Entry → KeptFile → KeptFile
put journal notes f = record f {
  state = record f.state { events = length journal };
  next = f.next ++ turn_lines f.state.events journal notes;
}

-- the same of a conference that was closed: its end stands behind that, and nothing more is put to the file
abbrev pub close : List Event → KeptFile → KeptFile
close journal f = record f {
  state = record f.state { events = length journal; course = course.Closing };
  next = f.next ++ turn_lines f.state.events journal (End ∷ []);
}

-- the text that waits is out once it is asked to be appended
abbrev pub out_behind : Asked → List ℕ → List ℕ → List ℕ
out_behind asked.Nothing next out = out
out_behind asked.Begin next out = out
out_behind asked.Cut next out = out
out_behind asked.Append next out = next
out_behind asked.Sync next out = out
out_behind asked.Rename next out = out
out_behind asked.Spoil next out = out
out_behind asked.Empty next out = out
out_behind asked.Report next out = out
out_behind asked.End next out = out

-- behind the asking
abbrev pub ask : Asked → KeptFile → KeptFile
ask a f = record f {
  state = asking a f.state;
  out = out_behind a f.next f.out;
  next = out_behind a [] f.next;
}

-- what was answered to what was asked of a file at this time, or that it can't be kept any more
abbrev pub changed_state : Policy → ℕ → Change → State → State
changed_state p now (change.Begun o) s = state.begun o s
changed_state p now (change.Cut o) s = state.cut p o s
changed_state p now (change.Appended o) s = state.appended p now o s
changed_state p now (change.Synced o) s = state.synced p o s
changed_state p now (change.Renamed o) s = state.renamed p o s
changed_state p now (change.Spoiled o) s = state.spoiled o s
changed_state p now (change.Emptied o) s = state.emptied o s
changed_state p now (change.GivenUp cause) s = state.given_up p cause s

-- bytes that aren't lent any more are let go, and so is the head of a file that was made
abbrev pub while_new : Front → List ℕ → List ℕ
while_new front.New head = head
while_new (front.Torn stands) head = []
while_new front.Whole head = []

abbrev pub kept_lent : Asked → List ℕ → List ℕ
kept_lent asked.Nothing bytes = []
kept_lent asked.Begin bytes = bytes
kept_lent asked.Cut bytes = []
kept_lent asked.Append bytes = bytes
kept_lent asked.Sync bytes = []
kept_lent asked.Rename bytes = []
kept_lent asked.Spoil bytes = []
kept_lent asked.Empty bytes = []
kept_lent asked.Report bytes = []
kept_lent asked.End bytes = []

abbrev pub changed : Policy → ℕ → Change → KeptFile → KeptFile
changed p now c f =
    let s = changed_state p now c f.state in
    record f { state = s; head = while_new s.front f.head; out = kept_lent s.asked f.out }

-- what is lent, to be written or appended
abbrev pub lent_as : Asked → KeptFile → List ℕ
lent_as asked.Nothing f = []
lent_as asked.Begin f = f.head
lent_as asked.Cut f = []
lent_as asked.Append f = f.out
lent_as asked.Sync f = []
lent_as asked.Rename f = []
lent_as asked.Spoil f = []
lent_as asked.Empty f = []
lent_as asked.Report f = []
lent_as asked.End f = []

abbrev pub lent : KeptFile → List ℕ
lent f = lent_as f.state.asked f
