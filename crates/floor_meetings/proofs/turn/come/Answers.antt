use Rattle.floor_meetings.proofs.turn.come.Goals as goal

pub returns : goal.returns
returns c = record {
  took = record {
    quiet = record { steps = c.read.ensures.steps; took = c.read.ensures.took };
    handed = c.read.ensures.handed;
    served = c.read.ensures.served;
    woke = c.read.ensures.woke;
    refused = c.read.ensures.refused;
    spares = c.read.ensures.spares;
    others = c.read.ensures.others;
  };
}
