use Rattle.floor_script.proofs.Standing.{does_all}
use Rattle.floor_script.proofs.conferences.Conferences.answer.Goals as goal

pub returns : goal.returns
returns c =
    record {
      took = does_all c.args.command c.conference_of-conference.result c.in_ok-answer.answer _ _ _ _ c.in_ok-taken.taken.items c.as_slice.result.now _ _ c.conference_of-conference.ensures.value c.in_ok-answer.ensures.took c.in_ok-text.ensures
          c.in_ok-taken.ensures.took c.as_slice.ensures.value c.in_ok-acknowledge.ensures.took;
    }
