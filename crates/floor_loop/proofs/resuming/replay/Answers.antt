use Rattle.floor_loop.proofs.resuming.replay.Goals as goal

pub returns-in-Message : goal.returns-in-Message
returns-in-Message c = record { carries = c.send.ensures.carries c.args.conference }

pub returns-in-Took : goal.returns-in-Took
returns-in-Took c = record { carries = c.took_back.ensures.carries c.args.conference }

pub returns-in-Leave : goal.returns-in-Leave
returns-in-Leave c = record { carries = c.part.ensures.carries c.args.conference }
