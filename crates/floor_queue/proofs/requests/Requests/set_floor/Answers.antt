use Rattle.std.proofs.Common.{subst, sym}
use Rattle.floor_queue.specs.Queue.{Queue, MaySetFloor, with_word}
use Rattle.floor_queue.proofs.Firsts.{some_floors}
use Rattle.floor_queue.proofs.Kept.{IsQueue-set_floor, MaySetFloor-set_floor, involves-with_word, number-with_word}
use Rattle.floor_queue.proofs.Parting.{AreParties-kept}
use Rattle.floor_queue.proofs.requests.Requests.set_floor.Goals as goal

pub store_word-requires : goal.store_word-requires
store_word-requires c =
    record {
      some = some_floors record { floors = c.self.inside.floors.items; given = c.self.inside.given; ongoing = c.self.inside.ongoing } c.self.invariant.0;
      lines = rw c.deref.ensures.value c.self.invariant.1;
      marks = rw c.deref.ensures.value c.self.invariant.2;
    }

pub invariant_of-self : goal.invariant_of-self
invariant_of-self c = (
  rw c.store_word.ensures.next
      (IsQueue-set_floor record { floors = c.self.inside.floors.items; given = c.self.inside.given; ongoing = c.self.inside.ongoing } c.args.request c.args.floor c.args.word c.self.invariant.0),
  rw c.deref.ensures.value at c.store_word.ensures.lines,
  rw c.deref.ensures.value at c.store_word.ensures.marks,
  rw c.store_word.ensures.next
      (AreParties-kept (with_word c.args.request c.args.floor c.args.word) (number-with_word c.args.request c.args.floor c.args.word) (involves-with_word c.args.request c.args.floor c.args.word) c.self.inside.ongoing c.self.inside.parties c.self.invariant.3),
)

pub returns-clause-still : goal.returns-clause-still
returns-clause-still c = λ other id may.
    let q : Queue = record { floors = c.self.inside.floors.items; given = c.self.inside.given; ongoing = c.self.inside.ongoing } in
    rw c.store_word.ensures.next
    (MaySetFloor-set_floor q c.args.request c.args.floor c.args.word other id (subst (λ (q : Queue). MaySetFloor q other id) (sym c.self.view_is) may))
