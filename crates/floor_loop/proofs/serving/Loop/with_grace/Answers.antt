use Rattle.std.proofs.Common.{ap, sym, ◌∙◌}
use Rattle.std.proofs.lemmas.Option.{none-some}
use Rattle.floor_loop.specs.Away.{Away, stay_of}
use Rattle.floor_loop.proofs.Losing.{nobody-live}
use Rattle.floor_hub.specs.World.{nothing}
use Rattle.floor_loop.proofs.serving.Loop.with_grace.Goals as goal

pub invariant_of-result : goal.invariant_of-result
invariant_of-result c = record {
  world = nothing;
  stands = c.new.ensures.value;
  serving = λ number x is. absurd (none-some x (sym (nobody-live c.new.result c.new.ensures.value number) ∙ is));
  own = λ k s is. absurd (none-some s (sym (ap (λ (z : Away). stay_of z k) c.new-2.ensures.away) ∙ is));
  timed = λ number x r o is. absurd (none-some x (sym (nobody-live c.new.result c.new.ensures.value number) ∙ is));
}
