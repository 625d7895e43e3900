use Rattle.floor_machine.specs.Conference.{opening}
use Rattle.floor_machine.specs.Journal.{after}
use Rattle.floor_machine.proofs.Alone.{leaves_all, leaves_alone}
use Rattle.floor_machine.proofs.Reachable.{Keeps, keeps-after, keeps-opening}
use Rattle.floor_machine.proofs.laws.refusals_are_quiet.Goals as goal

pub returns : goal.returns
returns c =
    record {
      sent = λ config es n bytes is journal refused.
          let k : Keeps (after config es) =
          keeps-after (opening config) es c.what_is_asked_fits.ensures c.settles_once.ensures journal.lawful (keeps-opening config is) in
          leaves_alone (after config es) n bytes k.settled k.queue.ascending refused;
      said = λ config es user bytes is journal refused.
          let k : Keeps (after config es) =
          keeps-after (opening config) es c.what_is_asked_fits.ensures c.settles_once.ensures journal.lawful (keeps-opening config is) in
          leaves_all (after config es) user bytes k.settled k.queue.ascending refused;
    }
