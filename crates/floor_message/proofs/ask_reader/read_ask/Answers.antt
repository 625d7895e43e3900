use Rattle.std.proofs.Common.{◌∙◌, ap, refl}
use Rattle.std.proofs.lemmas.List.{take_rest}
use Rattle.floor_message.specs.Binding.{binding_of}
use Rattle.floor_message.specs.Primitive.{primitive_of}
use Rattle.floor_message.proofs.Answering.{by_header_refused, by_header_passed}
use Rattle.floor_message.proofs.ask_reader.read_ask.Goals as goal

pub returns-in-Some-clause-value : goal.returns-in-Some-clause-value
returns-in-Some-clause-value c =
    by_header_refused c.args.frame.now (binding_of c.args.binding.now) c.header-header.result c.in-Some.code c.error.result
    c.header-header.ensures c.in-Some.ensures c.error.ensures

pub returns-in-None-clause-value : goal.returns-in-None-clause-value
returns-in-None-clause-value c =
    by_header_passed c.args.frame.now (binding_of c.args.binding.now) c.header-header.result _ c.of_number.result c.by_primitive.result
    c.header-header.ensures c.in-None.ensures (rw (c.bytes.ensures.value, take_rest c.args.frame.now 12) refl) (c.of_number.ensures ∙ ap primitive_of c.primitive.ensures) c.by_primitive.ensures.value
