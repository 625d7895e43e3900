use Rattle.std.proofs.Common.{refl, arith, ◌*◌, ◌∷◌, [], map, sym}
use Rattle.std.proofs.lemmas.List.{length-map}
use Rattle.floor_message.specs.Written.{octets}
use Rattle.floor_message.proofs.Rooms.{leaves_told, leaves_none, leaves_append, doubled_bytes}
use Rattle.floor_message.proofs.format.supported.after_supported.Goals as goal

pub returns-in_err-room : goal.returns-in_err-room
returns-in_err-room c =
    let primitives = c.args.primitives.now in
    let types = map (λ k. 2 * k) c.args.types.now in
    leaves_told (octets 11 primitives ∷ octets 10 types ∷ []) c.args.room c.from_residual.result c.from_residual.ensures
    (leaves_none (octets 11 primitives ∷ []) (octets 10 types ∷ []) c.args.room
    (c.in_err-room.ensures 11 primitives (omega arith) refl refl c.a_slice_is_of_bytes.ensures))

pub returns : goal.returns
returns c =
    let primitives = c.args.primitives.now in
    let types = map (λ k. 2 * k) c.args.types.now in
    leaves_append (octets 11 primitives ∷ []) (octets 10 types ∷ []) c.args.room c.in_ok-room.room c.after_octets-2.result
    (c.in_ok-room.ensures 11 primitives (omega arith) refl refl c.a_slice_is_of_bytes.ensures)
    (c.after_octets-2.ensures 10 types (omega arith) refl (sym (length-map c.args.types.now (λ k. 2 * k))) (doubled_bytes c.args.types.now c.requires))
