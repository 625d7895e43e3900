use Rattle.std.proofs.Common.{subst}
use Rattle.floor_wire.specs.Spelling.{IsWritable}
use Rattle.floor_wire.specs.View.{attributes_of}
use Rattle.floor_message.specs.Written.{ask_attrs}
use Rattle.floor_message.specs.declared.ask.Ask.{Ask}
use Rattle.floor_message.proofs.AskRooms.{ask_fits_room}
use Rattle.floor_message.proofs.ask_writer.put_ask.Goals as goal

pub put_floor_request-requires-clause-writable : goal.put_floor_request-requires-clause-writable
put_floor_request-requires-clause-writable c =
    let P : Ask → Type 0 = λ a. IsWritable (attributes_of (ask_attrs a)) in
    rw c.as_slice.ensures (subst P c.in-FloorRequest.is (ask_fits_room c.args.ask.now c.requires).writable)

pub put_chair_action-requires : goal.put_chair_action-requires
put_chair_action-requires c =
    let P : Ask → Type 0 = λ a. IsWritable (attributes_of (ask_attrs a)) in
    rw c.as_slice-in-ChairAction.ensures (subst P c.in-ChairAction.is (ask_fits_room c.args.ask.now c.requires).writable)
