use Rattle.std.proofs.Common.{List, ℕ, ◌≡◌, ◌++◌, ◌∙◌, ap, map, subst}
use Rattle.std.specs.Prelude.{OnOk}
use Rattle.floor_message.specs.Written.{optional, octets, overall_attrs, floor_attr, who_attr, priority_attr}
use Rattle.floor_message.specs.steps.Writing.{with_attrs}
use Rattle.floor_message.proofs.Puts.{put_both, put_then}
use Rattle.floor_message.proofs.Rooms.{writable_front, writable_back}
use Rattle.floor_message.proofs.format.floor_request_information.put_info_parts.Goals as goal

pub put_floor_statuses-requires : goal.put_floor_statuses-requires
put_floor_statuses-requires c =
    let i = c.args.info.now in
    let x = overall_attrs i.request i.overall i.reason in
    let y = map floor_attr i.floors in
    let z = optional (who_attr 14) i.beneficiary in
    let u = optional (who_attr 16) i.requester in
    let v = optional priority_attr i.priority in
    let w = optional (octets 8) i.info in
    rw c.as_slice.ensures
    (writable_back x y (writable_front (x ++ y) z (writable_front (x ++ y ++ z) u (writable_front (x ++ y ++ z ++ u) v (writable_front (x ++ y ++ z ++ u ++ v) w c.requires.writable)))))

pub put_who-requires : goal.put_who-requires
put_who-requires c =
    let i = c.args.info.now in
    let x = overall_attrs i.request i.overall i.reason in
    let y = map floor_attr i.floors in
    let z = optional (who_attr 14) i.beneficiary in
    let u = optional (who_attr 16) i.requester in
    let v = optional priority_attr i.priority in
    let w = optional (octets 8) i.info in
    writable_back (x ++ y) z (writable_front (x ++ y ++ z) u (writable_front (x ++ y ++ z ++ u) v (writable_front (x ++ y ++ z ++ u ++ v) w c.requires.writable)))

pub put_who-requires-2 : goal.put_who-requires-2
put_who-requires-2 c =
    let i = c.args.info.now in
    let x = overall_attrs i.request i.overall i.reason in
    let y = map floor_attr i.floors in
    let z = optional (who_attr 14) i.beneficiary in
    let u = optional (who_attr 16) i.requester in
    let v = optional priority_attr i.priority in
    let w = optional (octets 8) i.info in
    writable_back (x ++ y ++ z) u (writable_front (x ++ y ++ z ++ u) v (writable_front (x ++ y ++ z ++ u ++ v) w c.requires.writable))

pub put_octets-requires : goal.put_octets-requires
put_octets-requires c =
    let i = c.args.info.now in
    let x = overall_attrs i.request i.overall i.reason in
    let y = map floor_attr i.floors in
    let z = optional (who_attr 14) i.beneficiary in
    let u = optional (who_attr 16) i.requester in
    let v = optional priority_attr i.priority in
    writable_back (x ++ y ++ z ++ u ++ v) (optional (octets 8) i.info) c.requires.writable

pub returns : goal.returns
returns c =
    let i = c.args.info.now in
    let s = c.args.out.now in
    let x = overall_attrs i.request i.overall i.reason in
    let y = map floor_attr i.floors in
    let z = optional (who_attr 14) i.beneficiary in
    let u = optional (who_attr 16) i.requester in
    let v = optional priority_attr i.priority in
    let w = optional (octets 8) i.info in
    let floors = c.in_ok-put_floor_statuses.ensures ∙ ap (λ l. with_attrs c.put_overall.new.out (map floor_attr l)) c.as_slice.ensures in
    let before = put_then s _ _ (x ++ y ++ z ++ u) v (put_then s _ _ (x ++ y ++ z) u (put_then s _ _ (x ++ y) z (put_then s _ _ x y c.in_ok-put_overall.ensures floors) c.in_ok-put_who.ensures) c.in_ok-put_who-2.ensures) c.in_ok-put_priority.ensures in
    let P : List ℕ → Type 0 = λ all. OnOk c.put_octets.result (c.put_octets.new.out ≡ all) in
    subst P (ap (λ b. with_attrs b w) before ∙ put_both s (x ++ y ++ z ++ u ++ v) w) c.put_octets.ensures
