use Rattle.std.proofs.Common.{ℕ, List, ◌++◌, ◌/◌, ◌∙◌, ap, sym, subst}
use Rattle.floor_wire.specs.Header.{header_bytes}
use Rattle.floor_wire.specs.Message.{IsMessage}
use Rattle.floor_wire.specs.Spelling.{canon}
use Rattle.floor_wire.specs.View.{attributes_of}
use Rattle.floor_wire.proofs.frame.Frame.of_attributes.Goals as goal

pub finish-requires : goal.finish-requires
finish-requires c =
    let a = attributes_of c.args.attrs.now in
    let head = λ (n : ℕ). header_bytes c.args.primitive (n / 4) c.args.conference c.args.transaction c.args.user in
    subst (λ (s : List ℕ). IsMessage s)
    (sym (c.in_ok-put_all.ensures ∙ ap (λ h. h ++ canon a) (c.in_ok-message.ensures ∙ ap head c.payload_len-len.ensures.value)))
    (c.what_is_written_is_a_message.ensures c.args.primitive c.args.conference c.args.transaction c.args.user a c.requires.fits)
