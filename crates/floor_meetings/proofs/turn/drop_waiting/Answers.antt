use Rattle.floor_meetings.proofs.turn.drop_waiting.Goals as goal

pub returns : goal.returns
returns c = record {
  took = record {
    steps = c.discard.ensures.steps;
    others = c.discard.ensures.others;
    dropped = c.discard.ensures.dropped;
    here = c.discard.ensures.here;
    away = c.discard.ensures.away;
  };
}
