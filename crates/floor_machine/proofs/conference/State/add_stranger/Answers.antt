use Rattle.std.proofs.Common.{◌≡◌, List, ap, subst, sym, ◌∙◌}
use Rattle.std.specs.Prelude.{All}
use Rattle.floor_config.specs.declared.floors.Floor.{Floor}
use Rattle.floor_queue.specs.Order.{settle}
use Rattle.floor_message.specs.Shown.{IsShownInfo}
use Rattle.floor_message.specs.declared.information.Info.{Info}
use Rattle.floor_machine.specs.declared.conference.State.{State}
use Rattle.floor_machine.specs.declared.event.Event.TheVariants.{AddUser}
use Rattle.floor_machine.specs.Conference.{Conference}
use Rattle.floor_machine.specs.steps.Serving.{conference_of}
use Rattle.floor_machine.specs.steps.Telling.{infos_of}
use Rattle.floor_machine.proofs.Asked.{on_ok}
use Rattle.floor_machine.proofs.Growing.{infos-stranger-after, kept-stranger, still-stranger}
use Rattle.floor_machine.proofs.Quiet.{IsStill}
use Rattle.floor_machine.proofs.conference.State.add_stranger.Goals as goal

pub returns : goal.returns
returns c =
    let s = conference_of c.args.self.now in
    let P : List Floor → Type 0 = λ fs. settle fs s.ongoing ≡ s.ongoing in
    let is_settled : settle s.config.floors s.ongoing ≡ s.ongoing = subst P c.args.self.now.same_floors c.requires.rest.settled in
    let still : IsStill s (AddUser c.args.user) = still-stranger s c.args.user c.requires.stranger is_settled in
    let after : State = c.put_user.new.self in
    record {
      taken = on_ok c.put_user.result (λ put.
          let S : Conference → Type 0 = λ x. settle x.config.floors x.ongoing ≡ x.ongoing in
          let F : List Floor → Type 0 = λ fs. settle fs after.requests.ongoing ≡ after.requests.ongoing in
          let A : List Info → Type 0 = λ is. All IsShownInfo is in
          let same = ap (λ v. v.items) c.put_user.ensures.shown in
          record {
            rest = record {
              settled = subst F (sym after.same_floors) (subst S (sym put) is_settled);
              shows = record {
                infos = same ∙ c.requires.rest.shows.infos ∙ sym (infos-stranger-after s c.args.user still) ∙ ap (λ (x : Conference). infos_of x.config x.ongoing) (sym put);
                fit = subst A (sym same) c.requires.rest.shows.fit;
              };
            };
            kept = λ unclosed. kept-stranger s c.args.user (conference_of after) still put;
            closed = λ closed. cc;
          })
          c.put_user.ensures.next;
    }
