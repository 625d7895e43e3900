use Rattle.floor_meetings.proofs.turn.end.Goals as goal

pub returns : goal.returns
returns c = record {
  took = record {
    quiet = record { steps = c.ended.ensures.steps; took = c.ended.ensures.took };
    woke = c.ended.ensures.woke;
    ended = c.ended.ensures.ended;
    others = c.ended.ensures.others;
  };
}
