use Rattle.std.proofs.Common.{ap, sym, ◌∙◌, ℕ, List, Option, option_map}
use Rattle.floor_config.specs.Reading.{reading}
use Rattle.floor_config.specs.declared.fault.ConfigFault.TheVariants.{Memory}
use Rattle.floor_diagnosis.specs.Diagnosed.{fault_of}
use Rattle.floor_diagnosis.specs.declared.diagnosis.Diagnosis.{Diagnosis}
use Rattle.floor_ffi.specs.declared.outcome.Outcome.TheVariants.{Done, Fault, NotUtf8}
use Rattle.floor_ffi.proofs.Texts.{faulty, fine}
use Rattle.floor_ffi.proofs.opening.diagnose_text.Goals as goal

pub returns-in_default : goal.returns-in_default
returns-in_default c = record { gives = (NotUtf8, c.told.ensures.result, c.in_default.ensures.cases.0, c.told.ensures.line) }

pub returns-in-Ok-None : goal.returns-in-Ok-None
returns-in-Ok-None c = record {
  gives = (
    Done,
    c.told-in-Ok-None.ensures.result,
    (
      c.in-Ok.ensures.cases.1,
      fine (reading c.args.text.now) (ap (λ (found : Option Diagnosis). option_map (λ (d : Diagnosis). d.fault) found) (sym c.in-Ok-None.field-0-is)
          ∙ (c.in-Ok-None.ensures.value ∙ ap (λ (text : List ℕ). fault_of (reading text)) c.in-Ok.ensures.cases.0)),
    ),
    c.told-in-Ok-None.ensures.line,
  );
}

pub returns-in-Ok-Some : goal.returns-in-Ok-Some
returns-in-Ok-Some c = record {
  gives = (
    Fault c.in-Ok-Some.diagnosis.fault,
    c.told-in-Ok-Some.ensures.result,
    faulty c.args.text.now c.in-Ok-Some.diagnosis.fault c.in-Ok.ensures.cases.1
        (ap (λ (found : Option Diagnosis). option_map (λ (d : Diagnosis). d.fault) found) (sym c.in-Ok-Some.field-0-is)
        ∙ (c.in-Ok-Some.ensures.value ∙ ap (λ (text : List ℕ). fault_of (reading text)) c.in-Ok.ensures.cases.0)),
    c.told-in-Ok-Some.ensures.line,
  );
}

pub returns-in-Err : goal.returns-in-Err
returns-in-Err c = record { gives = (Fault Memory, c.told-in-Err.ensures.result, c.in-Ok.ensures.cases.1, c.told-in-Err.ensures.line) }
