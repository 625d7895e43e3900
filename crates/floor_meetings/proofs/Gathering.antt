-- What is gathered is no step of a hub.
use Rattle.std.proofs.Common.{◌≡◌, ◌∙◌, [], ap, refl, subst, sym}
use Rattle.floor_hub.specs.News.{Gathered}
use Rattle.floor_loop.proofs.Calling.{took-refl}
use Rattle.floor_loop.specs.Done.{NoSteps}
use Rattle.floor_loop.specs.Loop.{Loop}
use Rattle.floor_meetings.specs.Calls.{Quiet}
use Rattle.floor_meetings.specs.Gathering.{Regathers}
use Rattle.floor_meetings.specs.declared.meetings.Meetings.{Meetings}

-- a loop of which nothing has changed but what is gathered
pub quiet_gathered : (old new : Loop) (g : Gathered) → new ≡ record old { hub = record old.hub { gathered = g } } → Quiet NoSteps old new
quiet_gathered old new g same = subst (λ (l : Loop). Quiet NoSteps old l) (sym same) (record {
  steps = λ w stands. record {
    steps = [];
    are = refl;
    stands = record {
      kept = stands.kept;
      numbered = stands.numbered;
      stands = record {
        conferences = stands.stands.conferences;
        count = stands.stands.count;
        numbers = stands.stands.numbers;
        apart = stands.stands.apart;
        remembered = stands.stands.remembered;
      };
    };
  };
  took = took-refl old;
})

-- nor of the meetings
pub regathers : (old new : Meetings) (g : Gathered) → new.hub ≡ record old.hub { hub = record old.hub.hub { gathered = g } } → new.members ≡ old.members → new.bounds ≡ old.bounds → Regathers old new
regathers old new g same members bounds = record {
  hub = same ∙ ap (λ (x : Gathered). record old.hub { hub = record old.hub.hub { gathered = x } }) (sym (ap (λ (l : Loop). l.hub.gathered) same));
  members = members;
  bounds = bounds;
}
