use Rattle.std.proofs.Common.{rules}
use Rattle.std.specs.Prelude.{not}
use Rattle.std.proofs.lemmas.Fn.{filter_same}
use Rattle.floor_script.specs.Attached.{is_numbered}
use Rattle.floor_script.specs.declared.attached.Live.{Live}
use Rattle.floor_script.proofs.attached.remove_in.Goals as goal

pub returns : goal.returns
returns c = filter_same _ (λ (one : Live). not (is_numbered c.args.connection one)) _ (λ x b q k. search rules) _ _ c.retain.ensures.filtered
