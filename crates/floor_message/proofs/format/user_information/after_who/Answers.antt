use Rattle.std.proofs.Common.{◌++◌, refl, arith, Some, Option, subst, sym}
use Rattle.floor_message.specs.steps.Leaves.{Leaves}
use Rattle.floor_message.specs.Written.{optional, octets, who_attr}
use Rattle.floor_message.specs.declared.information.Who.{Who}
use Rattle.floor_message.proofs.Rooms.{group_leaves, leaves_append}
use Rattle.floor_message.proofs.format.user_information.after_who.Goals as goal

pub returns-in_ok-left-in-Some-2 : goal.returns-in_ok-left-in-Some-2
returns-in_ok-left-in-Some-2 c = λ kind k f.
    let w = c.in-Some.who in
    let name = optional (octets 12) w.name in
    let uri = optional (octets 13) w.uri in
    let P : Option Who → Type 0 = λ o. Leaves (optional (who_attr kind) o) c.args.room c.checked_sub.result in
    subst P (sym c.in-Some.is)
    (group_leaves kind w.user (name ++ uri) c.args.room c.in_ok-left-in-Some-2.left c.checked_sub.result k f (omega arith)
    (leaves_append name uri 248 c.in_ok-left-in-Some.left (Some c.in_ok-left-in-Some-2.left) (c.in_ok-left-in-Some.ensures 12 (omega arith) refl) (c.in_ok-left-in-Some-2.ensures 13 (omega arith) refl))
    c.checked_sub.ensures)
