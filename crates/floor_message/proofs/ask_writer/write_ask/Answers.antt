use Rattle.std.proofs.Common.{ℕ, List, ◌/◌, ◌∙◌, ap, sym, subst, arith}
use Rattle.floor_wire.specs.Header.{header_bytes}
use Rattle.floor_wire.specs.Message.{IsMessage}
use Rattle.floor_wire.specs.View.{attributes_of}
use Rattle.floor_message.specs.Written.{ask_attrs}
use Rattle.floor_message.specs.steps.Writing.{with_attrs}
use Rattle.floor_message.proofs.AskRooms.{ask_fits_room}
use Rattle.floor_message.proofs.ask_writer.write_ask.Goals as goal

pub finish-requires : goal.finish-requires
finish-requires c =
    let attrs = ask_attrs c.args.ask.now in
    let h = c.args.head.now in
    let head = λ (n : ℕ). header_bytes c.number.result (n / 4) h.conference h.transaction h.user in
    subst (λ (s : List ℕ). IsMessage s)
    (sym (c.in_ok-put_ask.ensures ∙ ap (λ b. with_attrs b attrs) (c.in_ok-out.ensures ∙ ap head c.ask_len-len.ensures)))
    (c.what_is_written_is_a_message.ensures c.number.result h.conference h.transaction h.user (attributes_of attrs) (ask_fits_room c.args.ask.now c.requires).bytes)

pub new-requires : goal.new-requires
new-requires c = omega (arith, c.ask_len-len.ensures, (ask_fits_room c.args.ask.now c.requires).bytes)
