use Rattle.std.proofs.Common.{ℕ, List, Some, ◌/◌, ◌∙◌, ap, sym, subst}
use Rattle.std.specs.Prelude.{◌==◌, filter}
use Rattle.std.specs.List.{list_any}
use Rattle.floor_wire.specs.Header.{header_bytes}
use Rattle.floor_wire.specs.Message.{IsMessage}
use Rattle.floor_wire.specs.View.{attributes_of}
use Rattle.floor_message.specs.Written.{tell_attrs}
use Rattle.floor_message.specs.declared.tell.Tell.TheVariants.{FloorStatus}
use Rattle.floor_message.specs.steps.Writing.{with_attrs}
use Rattle.floor_message.proofs.tell_writer.write_floor_status.Goals as goal

pub finish-requires : goal.finish-requires
finish-requires c =
    let attrs = tell_attrs (FloorStatus (Some c.args.floor) (filter (λ i. list_any (λ f. f.0 == c.args.floor) i.floors) c.args.infos.now)) in
    let h = c.args.head.now in
    let head = λ (n : ℕ). header_bytes c.number.result (n / 4) h.conference h.transaction h.user in
    subst (λ (s : List ℕ). IsMessage s)
    (sym (c.in_ok-put_floor_status.ensures ∙ ap (λ b. with_attrs b attrs) (c.in_ok-out.ensures ∙ ap head c.floor_status_len-len.ensures)))
    (c.what_is_written_is_a_message.ensures c.number.result h.conference h.transaction h.user (attributes_of attrs) c.requires.attributes.bytes)
