use Rattle.std.proofs.Common.{ℕ, List, refl, sym, ◌∙◌, ap, subst}
use Rattle.std.specs.Prelude.{nat_eq}
use Rattle.std.specs.Map.{lookup}
use Rattle.std.proofs.lemmas.Option.{none-some}
use Rattle.floor_room.specs.Room.{Room}
use Rattle.floor_hub.specs.declared.attached.Live.{Live}
use Rattle.floor_hub.specs.Hub.{Hub}
use Rattle.floor_hub.specs.StandsFor.{StandsFor}
use Rattle.floor_hub.specs.World.{nothing}
use Rattle.floor_hub.specs.steps.Attached.{EachOf, IsKnown, Stands}
use Rattle.floor_hub.proofs.Recalling.{stands-empty}
use Rattle.floor_hub.proofs.hub.Hub.new.Goals as goal

abbrev made : goal.After-new-6 → Hub
made c = record { rooms = c.new.result.entries; connections = c.new-2.result; arrivals = 0; concerned = c.new-3.result.numbers; changed = c.new-4.result.changed.items; forgotten = c.new-5.result.keys; gathered = c.new-6.result }

stands : (c : goal.After-new-6) → StandsFor (made c) nothing
stands c = stands-empty (made c) (λ d. ap (λ (es : List (ℕ × Room)). lookup (nat_eq d) es) c.new.ensures.empty) c.new-5.ensures.empty c.new-2.ensures.value refl

pub invariant_of-result : goal.invariant_of-result
invariant_of-result c = record {
  stood = (nothing, stands c, λ number x is. absurd (none-some x (sym (c.new-2.ensures.value number) ∙ is)));
  attached = record {
    found = λ number x is. absurd (none-some x (sym (c.new-2.ensures.value number) ∙ is));
    live = λ conference number n h. absurd (subst (λ (z : List Live). Stands z number n) (c.new-3.ensures.live conference) h);
  };
  known = λ conference r is. subst (EachOf (IsKnown r)) (sym (c.new-3.ensures.live conference)) tt;
}

pub returns-clause-value : goal.returns-clause-value
returns-clause-value c = stands c
