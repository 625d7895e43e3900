use Rattle.std.proofs.Common.{ap, sym, subst, refl, ◌∙◌, ℕ, List}
use Rattle.floor_config.specs.Outcome.{Fails}
use Rattle.floor_config.specs.Reading.{reading}
use Rattle.floor_ffi.specs.declared.outcome.Outcome.TheVariants.{Fault, NotUtf8}
use Rattle.floor_ffi.proofs.Texts.{opens-text, refuses-text}
use Rattle.floor_ffi.proofs.opening.open.Goals as goal

pub returns-in_default : goal.returns-in_default
returns-in_default c = record { gives = (NotUtf8, c.refused.ensures.result, (c.in_default.ensures.cases.0, c.refused.ensures.opened, refl)) }

pub returns-in-Ok-read_configs : goal.returns-in-Ok-read_configs
returns-in-Ok-read_configs c =
    let opens = c.open_each.ensures.opens in
    record {
      gives = (
        opens.0,
        opens.1,
        opens-text c.args.text.now c.in-Ok-read_configs.configs.items c.args.hub.now c.open_each.new.hub c.open_each.result.opened opens.0 c.in-Ok.ensures.cases.1
            (ap reading (sym c.in-Ok.ensures.cases.0) ∙ c.in-Ok-read_configs.ensures.value) opens.2,
      );
    }

pub returns-in-Err : goal.returns-in-Err
returns-in-Err c = record {
  gives = (
    Fault c.in-Err.fault,
    c.refused-in-Err.ensures.result,
    refuses-text c.args.text.now c.args.hub.now c.refused-in-Err.result.opened c.in-Err.fault c.in-Ok.ensures.cases.1
        (subst (λ (text : List ℕ). Fails c.in-Err.fault (reading text)) c.in-Ok.ensures.cases.0 c.in-Err.ensures.value) c.refused-in-Err.ensures.opened,
  );
}
