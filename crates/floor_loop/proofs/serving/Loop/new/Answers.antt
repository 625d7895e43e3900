use Rattle.std.proofs.Common.{ap, ◌≡◌, ℕ, zero, suc, None, sym, ◌∙◌}
use Rattle.std.proofs.lemmas.Option.{none-some}
use Rattle.floor_loop.specs.Away.{Away, stay_of}
use Rattle.floor_hub.specs.Connections.{connection_at}
use Rattle.floor_hub.specs.Hub.{Hub}
use Rattle.floor_hub.specs.StandsFor.{StandsFor}
use Rattle.floor_hub.specs.World.{nothing}
use Rattle.floor_loop.proofs.serving.Loop.new.Goals as goal

-- where nobody has arrived nobody is live
nobody : (h : Hub) → StandsFor h nothing → (number : ℕ) → connection_at h.connections number ≡ None
nobody h st zero = st.stands.numbers zero
nobody h st (suc k) = st.stands.numbers (suc k)

pub invariant_of-result : goal.invariant_of-result
invariant_of-result c = record {
  world = nothing;
  stands = c.new.ensures.value;
  serving = λ number x is. absurd (none-some x (sym (nobody c.new.result c.new.ensures.value number) ∙ is));
  own = λ k s is. absurd (none-some s (sym (ap (λ (z : Away). stay_of z k) c.new-2.ensures.away) ∙ is));
  timed = λ number x r o is. absurd (none-some x (sym (nobody c.new.result c.new.ensures.value number) ∙ is));
}
