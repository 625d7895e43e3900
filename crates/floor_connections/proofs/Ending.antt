-- Whoever was ended or has failed is ending.
use Rattle.std.proofs.Common.{◌≡◌, Bool, true, false, Some, None, refl, ap, ◌∙◌}
use Rattle.std.specs.Prelude.{◌||◌, Option, option_map}
use Rattle.floor_sockets.specs.declared.life.Asked.{Asked}
use Rattle.floor_sockets.specs.declared.life.Asked.TheVariants as asked
use Rattle.floor_sockets.specs.declared.life.Life.{Life}
use Rattle.floor_sockets.specs.Life.{at_shut, is_shutting, over}
use Rattle.floor_connections.specs.Asked.{is_ending}

or_true : (b : Bool) → (b || true) ≡ true
or_true true = refl
or_true false = refl

over_ends_at : (l : Life) (a : Asked) → l.asked ≡ a → is_ending (Some (at_shut a l (record l { is_over = true; asked = asked.Nothing }))) ≡ true
over_ends_at l asked.Nothing is = refl
over_ends_at l asked.Accept is = refl
over_ends_at l asked.Read is = refl
over_ends_at l asked.Serve is = refl
over_ends_at l asked.Write is = refl
over_ends_at l asked.Shut is = ap (λ (a : Asked). l.is_over || is_shutting a) is ∙ or_true l.is_over

pub over_ends : (o : Option Life) → is_ending (option_map over o) ≡ true
over_ends None = refl
over_ends (Some l) = over_ends_at l l.asked refl

pub ends_by : (old new : Option Life) → new ≡ option_map over old → is_ending new ≡ true
ends_by old new is = ap is_ending is ∙ over_ends old
