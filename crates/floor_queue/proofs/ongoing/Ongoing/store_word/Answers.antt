use Rattle.std.proofs.Common.{◌≡◌, ◌<◌, ◌∙◌, ℕ, ap, arith, length, map, sym, subst, set, true, List}
use Rattle.std.specs.Prelude.{◌==◌, nat_lt}
use Rattle.std.specs.List.{list_all, position_or_len}
use Rattle.std.proofs.lemmas.List.{length-map}
use Rattle.floor_queue.specs.declared.request.Request.{Request}
use Rattle.floor_queue.specs.declared.requested_floor.RequestedFloor.{RequestedFloor}
use Rattle.floor_queue.specs.declared.requested_floor.Word.{Word}
use Rattle.floor_queue.specs.Order.{names}
use Rattle.floor_queue.specs.Queue.{is_ascending, with_word}
use Rattle.floor_queue.specs.Requested.{floor_with_word}
use Rattle.floor_queue.specs.steps.Lines.{AreLines, AreMarked, marked, moved}
use Rattle.floor_queue.proofs.Changing.{Changed, changed_here, none_changed}
use Rattle.floor_queue.proofs.Kept.{floor-floor_with_word, is_ascending-map, list_any-map_same, number-with_word}
use Rattle.floor_queue.proofs.Lining.{AreLines-marked, changed_at}
use Rattle.floor_queue.proofs.Marking.{AreMarked-moved}
use Rattle.floor_queue.proofs.Places.{among_found}
use Rattle.floor_queue.proofs.ongoing.Ongoing.store_word.Goals as goal

abbrev worded : ℕ → Word → Request → Request
worded floor word r = record r { floors = map (floor_with_word floor word) r.floors }

names_same : (floor : ℕ) (word : Word) (r : Request) (id : ℕ) → names (worded floor word r) id ≡ names r id
names_same floor word r id =
    list_any-map_same (λ (f : RequestedFloor). f.floor) (λ n. n == id) (floor_with_word floor word) (floor-floor_with_word floor word) r.floors

made : (c : goal.After-mark) →
    Changed c.args.floors.now c.self.inside.requests.items c.args.number (worded c.args.floor c.args.word) c.index-request.result.now
    (set c.self.inside.requests.items c.place_of-place.result c.set_word.new.request) c.change.new.self
made c =
    let place : c.place_of-place.result ≡ position_or_len (λ (r : Request). r.number == c.args.number) c.self.inside.requests.items =
    c.place_of-place.ensures ∙ ap (position_or_len (λ (r : Request). r.number == c.args.number)) (sym c.self.view_is) in
    let within : c.place_of-place.result < length c.self.inside.requests.items = omega arith in
    changed_here c.args.floors.now c.self.inside.requests.items c.args.lines.now c.change.new.self c.args.number c.place_of-place.result (worded c.args.floor c.args.word)
    c.index.result.now c.index_mut.result.now c.set_word.new.request c.index-request.result.now c.rank_of-old.result c.rank_of.result
    c.self.invariant (subst (λ (rs : List Request). AreLines c.args.floors.now rs c.args.lines.now) (sym c.self.view_is) c.requires.lines) (names_same c.args.floor c.args.word)
    place within c.index.ensures c.index_mut.ensures.value c.set_word.ensures c.index-request.ensures c.rank_of-old.ensures c.rank_of.ensures c.change.ensures

pub invariant_of-self : goal.invariant_of-self
invariant_of-self c =
    ap is_ascending (made c).next
    ∙ is_ascending-map (with_word c.args.number c.args.floor c.args.word) (number-with_word c.args.number c.args.floor c.args.word) c.self.inside.requests.items
    ∙ c.self.invariant

pub returns-then-place-len : goal.returns-then-place-len
returns-then-place-len c =
    let m : Changed c.args.floors.now c.self.inside.requests.items c.args.number (worded c.args.floor c.args.word) c.index-request.result.now
    (set c.self.inside.requests.items c.place_of-place.result c.set_word.new.request) c.change.new.self =
    made c in
    let some : nat_lt 0 (length (map (floor_with_word c.args.floor c.args.word) m.before.floors)) ≡ true =
    ap (nat_lt 0) (length-map m.before.floors (floor_with_word c.args.floor c.args.word))
    ∙ among_found c.self.inside.requests.items c.args.number m.before m.found (λ r. nat_lt 0 (length r.floors)) (subst (λ (rs : List Request). list_all (λ r. nat_lt 0 (length r.floors)) rs ≡ true) (sym c.self.view_is) c.requires.some) in
    let marked_then : AreMarked c.args.floors.now (map (changed_at c.args.number (worded c.args.floor c.args.word)) c.self.inside.requests.items)
    (map (marked (worded c.args.floor c.args.word m.before)) (map (moved (worded c.args.floor c.args.word m.before) c.rank_of-old.result c.rank_of.result) c.args.lines.now)) =
    AreMarked-moved c.args.floors.now c.args.number (worded c.args.floor c.args.word) c.self.inside.requests.items c.args.lines.now m.before c.rank_of-old.result c.rank_of.result
    c.self.invariant m.found (names_same c.args.floor c.args.word m.before) some (subst (λ (rs : List Request). AreLines c.args.floors.now rs c.args.lines.now) (sym c.self.view_is) c.requires.lines)
    (subst (λ (rs : List Request). AreMarked c.args.floors.now rs c.args.lines.now) (sym c.self.view_is) c.requires.marks) in
    record {
      next = m.next ∙ ap (map (with_word c.args.number c.args.floor c.args.word)) c.self.view_is;
      lines = rw c.mark.ensures (AreLines-marked c.args.floors.now _ c.index-request.result.now c.change.new.self m.lines);
      marks = rw (c.mark.ensures, c.change.ensures, m.is_seen, m.next) marked_then;
    }

pub returns-else-place-len : goal.returns-else-place-len
returns-else-place-len c =
    let place : c.place_of-place.result ≡ position_or_len (λ (r : Request). r.number == c.args.number) c.self.inside.requests.items =
    c.place_of-place.ensures ∙ ap (position_or_len (λ (r : Request). r.number == c.args.number)) (sym c.self.view_is) in
    record {
      next = sym c.self.view_is ∙ sym (none_changed c.args.number (λ r. record r { floors = map (floor_with_word c.args.floor c.args.word) r.floors }) c.self.inside.requests.items (omega (arith, place))) ∙ ap (map (with_word c.args.number c.args.floor c.args.word)) c.self.view_is;
      lines = c.requires.lines;
      marks = c.requires.marks;
    }
