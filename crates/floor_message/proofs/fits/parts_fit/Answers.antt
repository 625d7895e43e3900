use Rattle.std.proofs.Common.{sym, subst}
use Rattle.floor_wire.specs.Bytes.{IsOfBytes}
use Rattle.floor_wire.specs.View.{attributes_of}
use Rattle.floor_message.specs.Written.{ask_attrs}
use Rattle.floor_message.specs.declared.ask.Ask.{Ask}
use Rattle.floor_message.proofs.AskedBytes.{chair_action_bytes, floors_bytes, request_bytes}
use Rattle.floor_message.proofs.fits.parts_fit.Goals as goal

pub returns-in-FloorRequest-clause-bytes : goal.returns-in-FloorRequest-clause-bytes
returns-in-FloorRequest-clause-bytes c = λ e.
    let P : Ask → Type 0 = λ a. IsOfBytes (attributes_of (ask_attrs a)) in
    subst P (sym c.in-FloorRequest.is)
    (request_bytes c.in-FloorRequest.beneficiary c.in-FloorRequest.floors c.in-FloorRequest.priority c.in-FloorRequest.info
    (c.floor_request_fits.ensures.value.0 e).priority_fits (c.floor_request_fits.ensures.bytes e))

pub returns-in-FloorQuery-clause-bytes : goal.returns-in-FloorQuery-clause-bytes
returns-in-FloorQuery-clause-bytes c = λ e.
    let P : Ask → Type 0 = λ a. IsOfBytes (attributes_of (ask_attrs a)) in
    subst P (sym c.in-FloorQuery.is) (floors_bytes c.in-FloorQuery.floors)

pub returns-in-ChairAction-clause-bytes : goal.returns-in-ChairAction-clause-bytes
returns-in-ChairAction-clause-bytes c = λ e.
    let P : Ask → Type 0 = λ a. IsOfBytes (attributes_of (ask_attrs a)) in
    subst P (sym c.in-ChairAction.is)
    (chair_action_bytes c.in-ChairAction.request c.in-ChairAction.verdicts c.in-ChairAction.reason (c.chair_action_fits.ensures.bytes e))
