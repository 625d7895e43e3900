-- What turns add, one after another, are the lines of a file.
use Rattle.std.proofs.Common.{◌≡◌, ◌≤◌, ◌+◌, ◌&&◌, ℕ, Bool, true, false, not, List, [], ◌∷◌, ◌++◌, length, drop, map, refl, sym, ◌∙◌, ap, subst, arith, append_assoc, length-append, None}
use Rattle.std.specs.Prelude.{◌||◌}
use Rattle.std.proofs.lemmas.Bool.{false≢true, le-leb}
use Rattle.std.proofs.lemmas.List.{append-nil}
use Rattle.std.proofs.lemmas.Option.{none-some}
use Rattle.floor_machine.specs.declared.event.Event.{Event}
use Rattle.floor_room.specs.Text.{line, lines}
use Rattle.floor_words.specs.Laws.{NumbersAreReadBack, WordsAreReadBack}
use Rattle.floor_kept.specs.Body.{AreEntries, ends_last, entry_lines, event_of, events_of, is_end, is_ended, next_place}
use Rattle.floor_kept.specs.Entries.{IsEntry, entry_line, place_behind}
use Rattle.floor_kept.specs.File.{IsFile}
use Rattle.floor_kept.specs.Head.{head_text}
use Rattle.floor_kept.specs.Laws.{AreBorne, AreNotes, GoOn, Turn, WrittenIsFile, end_behind, journal_behind, turns_lines}
use Rattle.floor_kept.specs.Writing.{note_lines, turn_lines}
use Rattle.floor_kept.specs.declared.entry.Entry.{Entry}
use Rattle.floor_kept.specs.declared.entry.Entry.TheVariants.{Happened, Port, Word, End}
use Rattle.floor_kept.proofs.Growing.{fit_more, last_more, lines_more}
use Rattle.floor_kept.proofs.Leading.{note_events}
use Rattle.floor_kept.proofs.Readings.{one-file}

-- entries, and more behind them

lines-both : (place : ℕ) (xs ys : List Entry) → entry_lines place (xs ++ ys) ≡ entry_lines place xs ++ entry_lines (next_place place xs) ys
lines-both place [] ys = refl
lines-both place (x ∷ xs) ys =
    ap (λ (l : List ℕ). entry_line place x ++ l) (lines-both (place_behind place x) xs ys)
    ∙ sym (append_assoc (entry_line place x) (entry_lines (place_behind place x) xs) (entry_lines (next_place (place_behind place x) xs) ys))

place-both : (place : ℕ) (xs ys : List Entry) → next_place place (xs ++ ys) ≡ next_place (next_place place xs) ys
place-both place [] ys = refl
place-both place (x ∷ xs) ys = place-both (place_behind place x) xs ys

fit-both : (place : ℕ) (xs ys : List Entry) → AreEntries place xs → AreEntries (next_place place xs) ys → AreEntries place (xs ++ ys)
fit-both place [] ys h j = j
fit-both place (x ∷ xs) ys h j = (h.0, h.1, fit-both (place_behind place x) xs ys h.2 j)

ended-both : (xs ys : List Entry) → is_ended xs ≡ false → is_ended ys ≡ false → is_ended (xs ++ ys) ≡ false
ended-both [] ys e h = h
ended-both (x ∷ xs) ys e h = by (is_end x) (is_ended xs) e (ended-both xs ys)
  where
    by : (a b : Bool) → (a || b) ≡ false → (b ≡ false → is_ended ys ≡ false → is_ended (xs ++ ys) ≡ false) → (a || is_ended (xs ++ ys)) ≡ false
    by true b e next = absurd (false≢true (sym e))
    by false b e next = next e h

events-both : (xs ys : List Entry) → events_of (xs ++ ys) ≡ events_of xs ++ events_of ys
events-both [] ys = refl
events-both (Happened e ∷ xs) ys = ap (λ (es : List Event). e ∷ es) (events-both xs ys)
events-both (Port user port ∷ xs) ys = events-both xs ys
events-both (Word key value ∷ xs) ys = events-both xs ys
events-both (End ∷ xs) ys = events-both xs ys

-- what holds of entries behind this place, whose events are these
record Behind (place : ℕ) (xs : List Entry) (es : List Event) : Type 0 where
  pub fit : AreEntries place xs
  pub unended : is_ended xs ≡ false
  pub next : next_place place xs ≡ place + length es
  pub events : events_of xs ≡ es

behind-both : (place : ℕ) (xs ys : List Entry) (es fs : List Event) → Behind place xs es → Behind (place + length es) ys fs → Behind place (xs ++ ys) (es ++ fs)
behind-both place xs ys es fs a b = record {
  fit = fit-both place xs ys a.fit (subst (λ (p : ℕ). AreEntries p ys) (sym a.next) b.fit);
  unended = ended-both xs ys a.unended b.unended;
  next = place-both place xs ys ∙ ap (λ (p : ℕ). next_place p ys) a.next ∙ b.next ∙ omega (arith, length-append es fs);
  events = events-both xs ys ∙ ap (λ (l : List Event). l ++ events_of ys) a.events ∙ ap (λ (l : List Event). es ++ l) b.events;
}

-- events
happened-behind : (place : ℕ) (es : List Event) → AreBorne es → place + length es ≤ 2000001 → Behind place (map Happened es) es
happened-behind place [] h few = record { fit = tt; unended = refl; next = omega arith; events = refl }
happened-behind place (e ∷ es) h few =
    let rest = happened-behind (place + 1) es h.1 (omega (arith, few)) in
    record {
      fit = (h.0, le-leb place 2000000 (omega (arith, few)), rest.fit);
      unended = rest.unended;
      next = rest.next ∙ omega arith;
      events = ap (λ (l : List Event). e ∷ l) rest.events;
    }

-- and notes
note-behind : (place : ℕ) (n : Entry) (ns : List Entry) → IsEntry n → event_of n ≡ None → is_end n ≡ false → Behind place ns [] → Behind place (n ∷ ns) []
note-behind place (Happened e) ns fits none unended rest = absurd (none-some e (sym none))
note-behind place (Port user port) ns fits none unended rest = record { fit = (fits, refl, rest.fit); unended = rest.unended; next = rest.next; events = rest.events }
note-behind place (Word key value) ns fits none unended rest = record { fit = (fits, refl, rest.fit); unended = rest.unended; next = rest.next; events = rest.events }
note-behind place End ns fits none unended rest = absurd (false≢true (sym unended))

notes-behind : (place : ℕ) (ns : List Entry) → AreNotes ns → Behind place ns []
notes-behind place [] h = record { fit = tt; unended = refl; next = omega arith; events = refl }
notes-behind place (n ∷ ns) h = note-behind place n ns h.0 h.1 h.2 (notes-behind place ns h.3)

-- the lines of a turn

events-are : (place : ℕ) (es : List Event) → lines place es ≡ entry_lines place (map Happened es)
events-are place [] = refl
events-are place (e ∷ es) = ap (λ (l : List ℕ). line place e ++ l) (events-are (place + 1) es)

stays : (place : ℕ) (n : Entry) → event_of n ≡ None → place_behind place n ≡ place
stays place (Happened e) is = absurd (none-some e (sym is))
stays place (Port user port) is = refl
stays place (Word key value) is = refl
stays place End is = refl

notes-are : (place : ℕ) (ns : List Entry) → AreNotes ns → note_lines place ns ≡ entry_lines place ns
notes-are place [] h = refl
notes-are place (n ∷ ns) h =
    ap (λ (l : List ℕ). entry_line place n ++ l) (notes-are place ns h.3)
    ∙ ap (λ (k : ℕ). entry_line place n ++ entry_lines k ns) (sym (stays place n h.1))

drop-front : (xs ys : List Event) → drop (length xs) (xs ++ ys) ≡ ys
drop-front [] ys = refl
drop-front (x ∷ xs) ys = drop-front xs ys

-- the entries of turns
abbrev entries_by : List Event → List Turn → List Entry
entries_by before [] = []
entries_by before (t ∷ ts) = (map Happened (drop (length before) t.journal) ++ t.notes) ++ entries_by t.journal ts

-- Entries behind a journal: their lines are these bytes, and the journal behind them is this one.
record Adds (before : List Event) (xs : List Entry) (bytes : List ℕ) (behind : List Event) : Type 0 where
  pub new : List Event
  pub grew : behind ≡ before ++ new
  pub stand : Behind (length before + 1) xs new
  pub printed : entry_lines (length before + 1) xs ≡ bytes

turn-adds : (before new : List Event) (t : Turn) → t.journal ≡ before ++ new → AreBorne new → length t.journal ≤ 2000000 → AreNotes t.notes →
    Adds before (map Happened (drop (length before) t.journal) ++ t.notes) (turn_lines (length before) t.journal t.notes) t.journal
turn-adds before new t grew borne few notes =
    let es : drop (length before) t.journal ≡ new = ap (drop (length before)) grew ∙ drop-front before new in
    let long : length t.journal ≡ length before + length new = ap length grew ∙ length-append before new in
    let place : length before + 1 + length new ≡ length t.journal + 1 = omega (arith, long) in
    let events : Behind (length before + 1) (map Happened new) new = happened-behind (length before + 1) new borne (omega (arith, long, few)) in
    let beside : Behind (length before + 1 + length new) t.notes [] = notes-behind (length before + 1 + length new) t.notes notes in
    let all : Behind (length before + 1) (map Happened new ++ t.notes) new =
    subst (Behind (length before + 1) (map Happened new ++ t.notes)) (append-nil new) (behind-both (length before + 1) (map Happened new) t.notes new [] events beside) in
    record {
      new = new;
      grew = grew;
      stand = subst (λ (l : List Event). Behind (length before + 1) (map Happened l ++ t.notes) new) (sym es) all;
      printed =
          ap (λ (l : List Event). entry_lines (length before + 1) (map Happened l ++ t.notes)) es
          ∙ lines-both (length before + 1) (map Happened new) t.notes
          ∙ ap (λ (l : List ℕ). l ++ entry_lines (next_place (length before + 1) (map Happened new)) t.notes) (sym (events-are (length before + 1) new) ∙ ap (lines (length before + 1)) (sym es))
          ∙ ap (λ (k : ℕ). lines (length before + 1) (drop (length before) t.journal) ++ entry_lines k t.notes) (events.next ∙ place)
          ∙ ap (λ (l : List ℕ). lines (length before + 1) (drop (length before) t.journal) ++ l) (sym (notes-are (length t.journal + 1) t.notes notes));
    }

adds-both : (before mid behind : List Event) (xs ys : List Entry) (bytes more : List ℕ) → Adds before xs bytes mid → Adds mid ys more behind → Adds before (xs ++ ys) (bytes ++ more) behind
adds-both before mid behind xs ys bytes more a b =
    let long : length mid ≡ length before + length a.new = ap length a.grew ∙ length-append before a.new in
    let place : length mid + 1 ≡ length before + 1 + length a.new = omega (arith, long) in
    record {
      new = a.new ++ b.new;
      grew = b.grew ∙ ap (λ (l : List Event). l ++ b.new) a.grew ∙ append_assoc before a.new b.new;
      stand = behind-both (length before + 1) xs ys a.new b.new a.stand (subst (λ (p : ℕ). Behind p ys b.new) place b.stand);
      printed = lines-both (length before + 1) xs ys
          ∙ ap (λ (l : List ℕ). l ++ entry_lines (next_place (length before + 1) xs) ys) a.printed
          ∙ ap (λ (p : ℕ). bytes ++ entry_lines p ys) (a.stand.next ∙ sym place)
          ∙ ap (λ (l : List ℕ). bytes ++ l) b.printed;
    }

turns-add : (before : List Event) (ts : List Turn) → GoOn before ts → Adds before (entries_by before ts) (turns_lines (length before) ts) (journal_behind before ts)
turns-add before [] h = record { new = []; grew = sym (append-nil before); stand = record { fit = tt; unended = refl; next = omega arith; events = refl }; printed = refl }
turns-add before (t ∷ ts) h =
    adds-both before t.journal (journal_behind t.journal ts) (map Happened (drop (length before) t.journal) ++ t.notes) (entries_by t.journal ts) (turn_lines (length before) t.journal t.notes) (turns_lines (length t.journal) ts)
    (turn-adds before h.0.0 t h.0.1 h.0.2 h.1 h.2) (turns-add t.journal ts h.3)

-- all of the file behind its head
record Whole (bytes : List ℕ) (journal : List Event) : Type 0 where
  pub entries : List Entry
  pub fit : AreEntries 1 entries
  pub last : ends_last entries ≡ true
  pub printed : entry_lines 1 entries ≡ bytes
  pub events : events_of entries ≡ journal

not-ended : (xs : List Entry) → is_ended xs ≡ false → ends_last xs ≡ true
not-ended [] e = refl
not-ended (x ∷ []) e = refl
not-ended (x ∷ y ∷ xs) e = by (is_end x) (is_ended (y ∷ xs)) e (not-ended (y ∷ xs))
  where
    by : (a b : Bool) → (a || b) ≡ false → (b ≡ false → ends_last (y ∷ xs) ≡ true) → (not a && ends_last (y ∷ xs)) ≡ true
    by true b e next = absurd (false≢true (sym e))
    by false b e next = next e

whole : (is_ended : Bool) (ts : List Turn) → GoOn [] ts → Whole (turns_lines 0 ts ++ end_behind is_ended (journal_behind [] ts)) (journal_behind [] ts)
whole false ts h =
    let a = turns-add [] ts h in
    record {
      entries = entries_by [] ts;
      fit = a.stand.fit;
      last = not-ended (entries_by [] ts) a.stand.unended;
      printed = a.printed ∙ sym (append-nil (turns_lines 0 ts));
      events = a.stand.events ∙ sym a.grew;
    }
whole true ts h =
    let a = turns-add [] ts h in
    let place : next_place 1 (entries_by [] ts) ≡ length (journal_behind [] ts) + 1 = a.stand.next ∙ omega (arith, ap length a.grew) in
    record {
      entries = entries_by [] ts ++ End ∷ [];
      fit = fit_more 1 (entries_by [] ts) End a.stand.fit tt refl;
      last = last_more (entries_by [] ts) End a.stand.unended;
      printed = lines_more 1 (entries_by [] ts) End ∙ ap (λ (l : List ℕ). l ++ entry_line (next_place 1 (entries_by [] ts)) End) a.printed ∙ ap (λ (p : ℕ). turns_lines 0 ts ++ entry_line p End) place;
      events = note_events (entries_by [] ts) End refl ∙ a.stand.events ∙ sym a.grew;
    }

pub written-is-file : WordsAreReadBack → NumbersAreReadBack → WrittenIsFile
written-is-file again numbers conference head config turns is_ended torn h go one =
    let w = whole is_ended turns go in
    let file : IsFile (head ++ ((turns_lines 0 turns ++ end_behind is_ended (journal_behind [] turns)) ++ torn)) config w.entries (length h.lines + 2) (length (head_text h.lines) + length (entry_lines 1 w.entries)) =
    record {
      lines = h.lines;
      are = h.are;
      read = h.read;
      lines_are = refl;
      fit = w.fit;
      last = w.last;
      torn = torn;
      parts = ap (λ (l : List ℕ). l ++ ((turns_lines 0 turns ++ end_behind is_ended (journal_behind [] turns)) ++ torn)) h.parts
          ∙ ap (λ (l : List ℕ). head_text h.lines ++ (l ++ torn)) (sym w.printed);
      one_line = one;
      stand = refl;
    } in (
      (w.entries, _, _, file),
      λ other entries head_lines stands read.
          let same = one-file again numbers _ other config entries w.entries head_lines _ stands _ read file in
          (same.0, ap events_of same.1 ∙ w.events),
    )
