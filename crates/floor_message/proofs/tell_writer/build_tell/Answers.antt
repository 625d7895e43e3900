use Rattle.std.proofs.Common.{ℕ, List, ◌/◌, ◌∙◌, ap, sym, subst}
use Rattle.floor_wire.specs.Header.{header_bytes}
use Rattle.floor_wire.specs.Message.{IsMessage}
use Rattle.floor_wire.specs.View.{attributes_of}
use Rattle.floor_message.specs.Written.{tell_attrs}
use Rattle.floor_message.specs.steps.Writing.{with_attrs}
use Rattle.floor_message.proofs.tell_writer.build_tell.Goals as goal

pub returns-clause-whole : goal.returns-clause-whole
returns-clause-whole c =
    let attrs = tell_attrs c.args.tell.now in
    let h = c.args.head.now in
    let head = λ (n : ℕ). header_bytes c.number.result (n / 4) h.conference h.transaction h.user in
    subst (λ (s : List ℕ). IsMessage s)
    (sym (c.in_ok-put_tell.ensures ∙ ap (λ b. with_attrs b attrs) (c.in_ok-out.ensures ∙ ap head c.tell_len-len.ensures)))
    (c.what_is_written_is_a_message.ensures c.number.result h.conference h.transaction h.user (attributes_of attrs) c.requires.attributes.bytes)
