use Rattle.std.proofs.Common.{arith, refl, map, List}
use Rattle.floor_wire.specs.declared.attribute.Attr.{Attr}
use Rattle.floor_message.specs.Written.{optional, overall_attrs, floor_attr, who_attr, priority_attr, octets, info_attrs}
use Rattle.floor_message.proofs.Rooms.{leaves_told, stopped_2, stopped_3, stopped_4, stopped_5, six_leave}
use Rattle.floor_message.specs.declared.information.Info.{Info}
use Rattle.floor_message.proofs.format.floor_request_information.after_info_parts.Goals as goal

abbrev overall : Info → List Attr
overall i = overall_attrs i.request i.overall i.reason

abbrev floors : Info → List Attr
floors i = map floor_attr i.floors

abbrev beneficiary : Info → List Attr
beneficiary i = optional (who_attr 14) i.beneficiary

abbrev requester : Info → List Attr
requester i = optional (who_attr 16) i.requester

abbrev priority : Info → List Attr
priority i = optional priority_attr i.priority

abbrev info : Info → List Attr
info i = optional (octets 8) i.info

pub returns-in_err-room-2 : goal.returns-in_err-room-2
returns-in_err-room-2 c =
    let i = c.args.info.now in
    leaves_told (info_attrs i) c.args.room c.from_residual-in_err-room-2.result c.from_residual-in_err-room-2.ensures
    (stopped_2 (overall i) (floors i) (beneficiary i) (requester i) (priority i) (info i) c.args.room c.in_ok-room.room c.in_ok-room.ensures
    (rw (← c.as_slice.ensures) c.in_err-room-2.ensures))

pub returns-in_err-room-3 : goal.returns-in_err-room-3
returns-in_err-room-3 c =
    let i = c.args.info.now in
    leaves_told (info_attrs i) c.args.room c.from_residual-in_err-room-3.result c.from_residual-in_err-room-3.ensures
    (stopped_3 (overall i) (floors i) (beneficiary i) (requester i) (priority i) (info i) c.args.room c.in_ok-room.room c.in_ok-room-2.room c.in_ok-room.ensures
    (rw (← c.as_slice.ensures) c.in_ok-room-2.ensures) (c.in_err-room-3.ensures 14 (omega arith) refl))

pub returns-in_err-room-4 : goal.returns-in_err-room-4
returns-in_err-room-4 c =
    let i = c.args.info.now in
    leaves_told (info_attrs i) c.args.room c.from_residual-in_err-room-4.result c.from_residual-in_err-room-4.ensures
    (stopped_4 (overall i) (floors i) (beneficiary i) (requester i) (priority i) (info i) c.args.room c.in_ok-room.room c.in_ok-room-2.room c.in_ok-room-3.room c.in_ok-room.ensures
    (rw (← c.as_slice.ensures) c.in_ok-room-2.ensures) (c.in_ok-room-3.ensures 14 (omega arith) refl) (c.in_err-room-4.ensures 16 (omega arith) refl))

pub returns-in_err-room-5 : goal.returns-in_err-room-5
returns-in_err-room-5 c =
    let i = c.args.info.now in
    leaves_told (info_attrs i) c.args.room c.from_residual-in_err-room-5.result c.from_residual-in_err-room-5.ensures
    (stopped_5 (overall i) (floors i) (beneficiary i) (requester i) (priority i) (info i) c.args.room c.in_ok-room.room c.in_ok-room-2.room c.in_ok-room-3.room c.in_ok-room-4.room c.in_ok-room.ensures
    (rw (← c.as_slice.ensures) c.in_ok-room-2.ensures) (c.in_ok-room-3.ensures 14 (omega arith) refl) (c.in_ok-room-4.ensures 16 (omega arith) refl) c.in_err-room-5.ensures)

pub returns : goal.returns
returns c =
    let i = c.args.info.now in
    six_leave (overall i) (floors i) (beneficiary i) (requester i) (priority i) (info i) c.args.room c.in_ok-room.room c.in_ok-room-2.room c.in_ok-room-3.room c.in_ok-room-4.room c.in_ok-room-5.room
    c.after_optional_octets.result c.in_ok-room.ensures
    (rw (← c.as_slice.ensures) c.in_ok-room-2.ensures) (c.in_ok-room-3.ensures 14 (omega arith) refl) (c.in_ok-room-4.ensures 16 (omega arith) refl) c.in_ok-room-5.ensures
    (c.after_optional_octets.ensures 8 (omega arith) refl)
