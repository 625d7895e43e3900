use Rattle.floor_meetings.proofs.turn.part.Goals as goal

pub returns : goal.returns
returns c = record {
  took = record {
    steps = c.lost.ensures.steps;
    others = c.lost.ensures.others;
    dropped = c.lost.ensures.dropped;
    stays = c.lost.ensures.stays;
    until = c.lost.ensures.until;
    left = c.lost.ensures.left;
    leaves = c.lost.ensures.leaves;
    refused = c.lost.ensures.refused;
    over = c.lost.ensures.over;
    no_grace = c.lost.ensures.no_grace;
  };
}
