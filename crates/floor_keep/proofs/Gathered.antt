-- The events among entries, and what stands beside them, one after another.
use Rattle.std.proofs.Common.{◌≡◌, ◌+◌, ◌<◌, ◌≤◌, ℕ, List, [], ◌∷◌, ◌++◌, length, take, get_or, refl, sym, ◌∙◌, ap, arith, append_assoc, length-append}
use Rattle.std.specs.Prelude.{Option}
use Rattle.std.proofs.lemmas.List.{take_all, take_more}
use Rattle.floor_machine.specs.declared.event.Event.{Event}
use Rattle.floor_kept.specs.Body.{events_of}
use Rattle.floor_kept.specs.declared.entry.Entry.{Entry}
use Rattle.floor_kept.specs.declared.entry.Entry.TheVariants.{Happened, Port, Word, End}
use Rattle.floor_keep.specs.Found.{finish_behind, finish_of, notes_of, port_behind, port_noted}
use Rattle.floor_keep.specs.declared.found.Finish.{Finish}
use Rattle.floor_keep.specs.declared.found.Finish.TheVariants.{GoesOn}
use Rattle.floor_keep.specs.declared.found.Note.{Note}

events_more : (es fs : List Entry) → events_of (es ++ fs) ≡ events_of es ++ events_of fs
events_more [] fs = refl
events_more (Happened e ∷ es) fs = ap (λ (xs : List Event). e ∷ xs) (events_more es fs)
events_more (Port user port ∷ es) fs = events_more es fs
events_more (Word key value ∷ es) fs = events_more es fs
events_more (End ∷ es) fs = events_more es fs

finish_more : (before : Finish) (es : List Entry) (e : Entry) → finish_of before (es ++ e ∷ []) ≡ finish_behind (finish_of before es) e
finish_more before [] e = refl
finish_more before (x ∷ es) e = finish_more (finish_behind before x) es e

notes_more : (count : ℕ) (es fs : List Entry) → notes_of count (es ++ fs) ≡ notes_of count es ++ notes_of (count + length (events_of es)) fs
notes_more count [] fs = ap (λ (n : ℕ). notes_of n fs) (omega arith)
notes_more count (Happened e ∷ es) fs =
    notes_more (count + 1) es fs ∙ ap (λ (n : ℕ). notes_of (count + 1) es ++ notes_of n fs) (omega arith)
notes_more count (Port user port ∷ es) fs = ap (λ (ns : List Note). record { behind = count; entry = Port user port } ∷ ns) (notes_more count es fs)
notes_more count (Word key value ∷ es) fs = ap (λ (ns : List Note). record { behind = count; entry = Word key value } ∷ ns) (notes_more count es fs)
notes_more count (End ∷ es) fs = notes_more count es fs

from_none : (n : ℕ) → n ≡ 0 + n
from_none n = omega arith

-- what was gathered of these entries
pub record IsGathered (es : List Entry) (events : List Event) (notes : List Note) (finish : Finish) : Type 0 where
  pub events_are : events ≡ events_of es
  pub notes_are : notes ≡ notes_of 0 es
  pub finish_is : finish ≡ finish_of GoesOn es

pub gathered_none : (events : List Event) (notes : List Note) (finish : Finish) → events ≡ [] → notes ≡ [] → finish ≡ GoesOn → IsGathered [] events notes finish
gathered_none events notes finish e n f = record { events_are = e; notes_are = n; finish_is = f }

pub gathered_more : (es : List Entry) (events events' : List Event) (notes notes' : List Note) (finish finish' : Finish) (entry : Entry)
    → IsGathered es events notes finish → events' ≡ events ++ events_of (entry ∷ []) → notes' ≡ notes ++ notes_of (length events) (entry ∷ [])
    → finish' ≡ finish_behind finish entry → IsGathered (es ++ entry ∷ []) events' notes' finish'
gathered_more es events events' notes notes' finish finish' entry g e n f = record {
  events_are = e ∙ ap (λ (xs : List Event). xs ++ events_of (entry ∷ [])) g.events_are ∙ sym (events_more es (entry ∷ []));
  notes_are = n
      ∙ ap (λ (xs : List Note). xs ++ notes_of (length events) (entry ∷ [])) g.notes_are
      ∙ ap (λ (k : ℕ). notes_of 0 es ++ notes_of k (entry ∷ [])) (ap length g.events_are ∙ from_none (length (events_of es)))
      ∙ sym (notes_more 0 es (entry ∷ []));
  finish_is = f ∙ ap (λ (b : Finish). finish_behind b entry) g.finish_is ∙ sym (finish_more GoesOn es entry);
}

-- the port behind one note more
pub port_more : (before : Option ℕ) (user : ℕ) (notes : List Note) (note : Note)
    → port_behind before user (notes ++ note ∷ []) ≡ port_noted (port_behind before user notes) user note.entry
port_more before user [] note = refl
port_more before user (n ∷ notes) note = port_more (port_noted before user n.entry) user notes note

pub port_next : (before : Option ℕ) (user : ℕ) (notes : List Note) (i : ℕ) (note : Note) (found next : Option ℕ) → i < length notes → note ≡ get_or notes i note
    → found ≡ port_behind before user (take i notes) → next ≡ port_noted found user note.entry → next ≡ port_behind before user (take (i + 1) notes)
port_next before user notes i note found next within at so_far is =
    let taken : take (i + 1) notes ≡ take i notes ++ note ∷ [] = take_more notes i note within ∙ ap (λ (x : Note). take i notes ++ x ∷ []) (sym at) in
    is
    ∙ ap (λ (o : Option ℕ). port_noted o user note.entry) so_far
    ∙ sym (port_more before user (take i notes) note)
    ∙ ap (port_behind before user) (sym taken)

pub ports_all : (before : Option ℕ) (user n : ℕ) (notes : List Note) → length notes ≤ n → port_behind before user (take n notes) ≡ port_behind before user notes
ports_all before user n notes h = ap (port_behind before user) (take_all n notes h)
