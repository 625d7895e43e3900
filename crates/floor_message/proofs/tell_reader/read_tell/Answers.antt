use Rattle.std.proofs.Common.{Some, refl, sym, ◌∙◌, ap}
use Rattle.std.specs.Prelude.{option_map}
use Rattle.std.proofs.lemmas.List.{take_rest}
use Rattle.floor_message.specs.Tell.{head_of}
use Rattle.floor_message.proofs.Telling.{tell_is}
use Rattle.floor_message.proofs.tell_reader.read_tell.Goals as goal

pub returns-in-Some-clause-value : goal.returns-in-Some-clause-value
returns-in-Some-clause-value c =
    tell_is c.args.frame.now c.header-header.result _ c.in_ok-tell.field-0 c.header-header.ensures
    (rw (c.bytes.ensures.value, take_rest c.args.frame.now 12) refl) c.in_ok-tell.ensures
    ∙ ap (λ o. option_map (λ t. (head_of c.header-header.result, t)) o) c.in-Some.is
    ∙ ap (λ h. Some (h, c.in-Some.tell)) (ap head_of c.header-header.ensures ∙ sym c.response.ensures)

pub returns-in-None-clause-bad_message : goal.returns-in-None-clause-bad_message
returns-in-None-clause-bad_message c = λ _.
    tell_is c.args.frame.now c.header-header.result _ c.in_ok-tell.field-0 c.header-header.ensures
    (rw (c.bytes.ensures.value, take_rest c.args.frame.now 12) refl) c.in_ok-tell.ensures
    ∙ ap (λ o. option_map (λ t. (head_of c.header-header.result, t)) o) c.in-None.is
