use Rattle.floor_meetings.proofs.turn.fail.Goals as goal

pub returns : goal.returns
returns c = record {
  took = record {
    quiet = record { steps = c.failed.ensures.steps; took = c.failed.ensures.took };
    woke = c.failed.ensures.woke;
    failed = c.failed.ensures.failed;
    others = c.failed.ensures.others;
  };
}
