use Rattle.std.proofs.Common.{◌≡◌, List, ap, ◌∙◌}
use Rattle.floor_config.specs.declared.floors.Floor.{Floor}
use Rattle.floor_queue.specs.Order.{settle}
use Rattle.floor_machine.specs.Change.{change}
use Rattle.floor_machine.specs.Conference.{Conference}
use Rattle.floor_machine.specs.declared.event.Event.TheVariants.{Leave}
use Rattle.floor_machine.specs.Journal.{after}
use Rattle.floor_machine.specs.Returning.{RequestsStay}
use Rattle.floor_machine.specs.Shown.{Entry, ongoing_of}
use Rattle.floor_machine.proofs.Entries.{ongoing_of-entries}
use Rattle.floor_machine.proofs.Returning.{floors-left, leave-ends-nothing}
use Rattle.floor_machine.proofs.Together.{settles_as_queue}
use Rattle.floor_machine.proofs.laws.returns_end_nothing.Goals as goal

pub returns : goal.returns
returns c = record {
  ends = leave-ends-nothing;
  stay = λ config es k n is journal beside.
      let s : Conference = after config es in
      settles_as_queue s (Leave n)
      ∙ ap (λ (fs : List Floor). settle fs (ongoing_of (change s (Leave n)).entries)) (floors-left s n)
      ∙ ap (λ (entries : List Entry). settle s.config.floors (ongoing_of entries)) (leave-ends-nothing s k n beside)
      ∙ ap (settle s.config.floors) (ongoing_of-entries s.ongoing)
      ∙ (c.journals_keep.ensures config es is journal).settled;
}
