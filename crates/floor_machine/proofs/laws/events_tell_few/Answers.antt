use Rattle.floor_machine.specs.Conference.{opening}
use Rattle.floor_machine.specs.Journal.{after}
use Rattle.floor_machine.proofs.Few.{called-few, message-short, said-once, told_after-few}
use Rattle.floor_machine.proofs.Reachable.{keeps-after, keeps-opening}
use Rattle.floor_machine.proofs.laws.events_tell_few.Goals as goal

pub returns : goal.returns
returns c = record {
  told = λ config es e n is journal lawful. told_after-few config es e n c.what_is_asked_fits.ensures c.settles_once.ensures is journal.lawful lawful;
  called = λ config es n is journal.
      called-few (opening config) es n c.what_is_asked_fits.ensures c.settles_once.ensures journal.lawful (keeps-opening config is);
  answered = λ config es user bytes is journal.
      said-once (after config es) user bytes c.what_is_asked_fits.ensures
      (keeps-after (opening config) es c.what_is_asked_fits.ensures c.settles_once.ensures journal.lawful (keeps-opening config is));
  bytes = message-short;
}
