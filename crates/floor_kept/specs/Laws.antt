-- What stands in the file of a kept conference is read as that conference and as no other.
use Rattle.std.specs.Prelude.{◌≡◌, ◌≤◌, ◌+◌, ℕ, Bool, true, false, if◌then◌else◌, List, [], ◌∷◌, ◌++◌, length, map, None, Ok}
use Rattle.toml.specs.Data.{Members, members_depth}
use Rattle.floor_config.specs.Configuration.{Configuration}
use Rattle.floor_config.specs.Reading.{reading}
use Rattle.floor_machine.specs.declared.event.Event.{Event}
use Rattle.floor_machine.specs.Journal.{MAX_EVENTS}
use Rattle.floor_kept.specs.Body.{event_of, events_of, is_end, is_one_line}
use Rattle.floor_kept.specs.Entries.{IsBorne, IsEntry, entry_line}
use Rattle.floor_kept.specs.File.{IsFile}
use Rattle.floor_kept.specs.Head.{IsHeadOf, document_of}
use Rattle.floor_kept.specs.NewHeads.{AreHeadsIn}
use Rattle.floor_kept.specs.Writing.{turn_lines}
use Rattle.floor_kept.specs.declared.entry.Entry.{Entry}
use Rattle.floor_kept.specs.declared.entry.Entry.TheVariants.{End}
use Rattle.floor_kept.specs.declared.head.NewHead.{NewHead}

-- bytes are the file of one conference at most, with one configuration and one list of entries
abbrev pub OneFile : Type 0
OneFile =
    (bytes : List ℕ) (config other : Configuration) (entries others : List Entry) (head_lines other_lines stands other_stands : ℕ)
    → IsFile bytes config entries head_lines stands → IsFile bytes other others other_lines other_stands
    → (config ≡ other) × (entries ≡ others)

-- a turn that was appended: the whole journal then, and what was noted beside it
pub record Turn : Type 0 where
  pub journal : List Event
  pub notes : List Entry

-- what turns add, one after another, to a file in which so many events stand
abbrev pub turns_lines : ℕ → List Turn → List ℕ
turns_lines done [] = []
turns_lines done (t ∷ ts) = turn_lines done t.journal t.notes ++ turns_lines (length t.journal) ts

-- the journal behind these turns, where it was this one before
abbrev pub journal_behind : List Event → List Turn → List Event
journal_behind journal [] = journal
journal_behind journal (t ∷ ts) = journal_behind t.journal ts

-- each event is one that a line can show
abbrev pub AreBorne : List Event → Type 0
AreBorne [] = Unit {0}
AreBorne (e ∷ es) = IsBorne e × AreBorne es

-- what is kept beside the journal: each can stand in the file, and is neither an event nor the end
abbrev pub AreNotes : List Entry → Type 0
AreNotes [] = Unit {0}
AreNotes (n ∷ ns) = IsEntry n × (event_of n ≡ None) × (is_end n ≡ false) × AreNotes ns

-- The turns go on from this journal: each turn's is the one before and what is new, and has 2,000,000 events at most.
abbrev pub GoOn : List Event → List Turn → Type 0
GoOn before [] = Unit {0}
GoOn before (t ∷ ts) = ((new : List Event) × (t.journal ≡ before ++ new) × AreBorne new) × (length t.journal ≤ MAX_EVENTS) × AreNotes t.notes × GoOn t.journal ts

-- the end behind a journal, where it was written
abbrev pub end_behind : Bool → List Event → List ℕ
end_behind is_ended journal = if is_ended then entry_line (length journal + 1) End else []

-- Bytes that are read as a file are of this configuration, and have these events.
abbrev pub IsReadAs : List ℕ → Configuration → List Event → Type 0
IsReadAs bytes config journal =
    (other : Configuration) (entries : List Entry) (head_lines stands : ℕ) → IsFile bytes other entries head_lines stands → (other ≡ config) × (events_of entries ≡ journal)

-- A head, what turns add, and the end where it was written, are a file, whatever line without its end stands behind them; and it is read as the
-- head's configuration and the journal of the last turn, and in no other way.
abbrev pub WrittenIsFile : Type 0
WrittenIsFile =
    (conference : Members) (head : List ℕ) (config : Configuration) (turns : List Turn) (is_ended : Bool) (torn : List ℕ) → IsHeadOf conference head config → GoOn [] turns → is_one_line torn ≡ true →
    let bytes = head ++ ((turns_lines 0 turns ++ end_behind is_ended (journal_behind [] turns)) ++ torn) in
    ((entries : List Entry) × (head_lines : ℕ) × (stands : ℕ) × IsFile bytes config entries head_lines stands) × IsReadAs bytes config (journal_behind [] turns)

-- no conference stands in a document that is deeper than a reader takes
abbrev pub AreShallow : List Members → Type 0
AreShallow [] = Unit {0}
AreShallow (conference ∷ conferences) = (members_depth (document_of conference) ≤ 80) × AreShallow conferences

-- heads of a text's conferences have the configurations that the text is read as, in its order
abbrev pub HeadsReadAsText : Type 0
HeadsReadAsText =
    (text : List ℕ) (heads : List NewHead) (configs : List Configuration) (are : AreHeadsIn text heads)
    → AreShallow are.conferences → reading text ≡ Ok configs → map (λ head. head.config) heads ≡ configs
