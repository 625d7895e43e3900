use Rattle.std.proofs.Common.{◌≡◌, false}
use Rattle.floor_serve.proofs.Submitting.{IsRead}
use Rattle.floor_serve.proofs.reading.read_turns.Given as goal

abbrev pub invariant-loop-turn : goal.invariant-loop-turn
invariant-loop-turn g l = record {
  unmarked : g.S.Source.marked l.source ≡ false;
  conference : l.seat.conference ≡ l.desk.conference;
  read : IsRead l._turn l.initial.seat l.seat (g.S.Source.remaining l.initial.source) (g.S.Source.remaining l.source) l.framer;
}
