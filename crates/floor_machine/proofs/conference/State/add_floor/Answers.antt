use Rattle.std.proofs.Common.{◌≡◌, List, ap, subst, sym, ◌∙◌}
use Rattle.std.specs.Prelude.{All}
use Rattle.floor_config.specs.declared.floors.Floor.{Floor}
use Rattle.floor_queue.specs.Order.{settle}
use Rattle.floor_queue.specs.Queue.{IsQueue}
use Rattle.floor_message.specs.Shown.{IsShownInfo}
use Rattle.floor_message.specs.declared.information.Info.{Info}
use Rattle.floor_machine.specs.declared.conference.State.{State}
use Rattle.floor_machine.specs.declared.event.Event.TheVariants.{AddFloor}
use Rattle.floor_machine.specs.Change.{queue_of}
use Rattle.floor_machine.specs.Conference.{Conference}
use Rattle.floor_machine.specs.steps.Serving.{conference_of}
use Rattle.floor_machine.specs.steps.Telling.{infos_of}
use Rattle.floor_machine.proofs.Asked.{on_ok}
use Rattle.floor_machine.proofs.Growing.{infos-floor-after, kept-floor, settled-floor-after, still-floor}
use Rattle.floor_machine.proofs.Quiet.{IsStill}
use Rattle.floor_machine.proofs.conference.State.add_floor.Goals as goal

pub returns : goal.returns
returns c =
    let s = conference_of c.args.self.now in
    let P : List Floor → Type 0 = λ fs. settle fs s.ongoing ≡ s.ongoing in
    let is_settled : settle s.config.floors s.ongoing ≡ s.ongoing = subst P c.args.self.now.same_floors c.requires.rest.settled in
    let Q : List Floor → Type 0 = λ fs. IsQueue (record (queue_of s) { floors = fs }) in
    let queue : IsQueue (queue_of s) = subst Q c.args.self.now.same_floors c.ongoing-ongoing.ensures.kept in
    let still : IsStill s (AddFloor c.args.floor) = still-floor s c.args.floor c.requires.may queue is_settled in
    let after : State = c.put_floor.new.self in
    record {
      taken = on_ok c.put_floor.result (λ put.
          let S : Conference → Type 0 = λ x. settle x.config.floors x.ongoing ≡ x.ongoing in
          let F : List Floor → Type 0 = λ fs. settle fs after.requests.ongoing ≡ after.requests.ongoing in
          let A : List Info → Type 0 = λ is. All IsShownInfo is in
          let same = ap (λ v. v.items) c.put_floor.ensures.shown in
          record {
            rest = record {
              settled = subst F (sym after.same_floors) (subst S (sym put) (settled-floor-after s c.args.floor still));
              shows = record {
                infos = same ∙ c.requires.rest.shows.infos ∙ sym (infos-floor-after s c.args.floor still) ∙ ap (λ (x : Conference). infos_of x.config x.ongoing) (sym put);
                fit = subst A (sym same) c.requires.rest.shows.fit;
              };
            };
            kept = λ unclosed. kept-floor s c.args.floor (conference_of after) still put;
            closed = λ closed. cc;
          })
          c.put_floor.ensures.next;
    }
