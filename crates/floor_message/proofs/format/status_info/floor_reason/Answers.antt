use Rattle.std.proofs.Common.{◌≡◌, ◌+◌, List, [], take, drop, get_or, length, ap, sym, ◌∙◌, arith}
use Rattle.floor_wire.specs.Seen.{attr_seen}
use Rattle.floor_wire.specs.declared.attribute.Attr.{Attr}
use Rattle.floor_message.specs.Picked.{group_in, groups, if_kind}
use Rattle.floor_message.specs.steps.Reasons.{floors_named, reason_behind}
use Rattle.floor_message.proofs.Reasons.{past_at, past_group, past_other, reason_from_start, stands_at}
use Rattle.floor_message.proofs.format.status_info.floor_reason.Goals as goal
use Rattle.floor_message.proofs.format.status_info.floor_reason.Goals.{in-Some-group_of+in_default-reason_unless_named, in_default-group_of}

pub loop-attr-init : goal.loop-attr-init
loop-attr-init c = record {
  behind = c.copy-rest.ensures;
  all = omega (arith, ap length c.copy-rest.ensures);
  reason = ap (λ xs. reason_behind [] (groups 17 xs)) c.copy-rest.ensures ∙ reason_from_start c.args.inside.now;
}

pub loop-attr-preserved : goal.loop-attr-preserved
loop-attr-preserved c =
    let xs = c.args.inside.now in
    let place = c.loop-attr.place in
    let a = attr_seen c.in-Some.attr in
    let at = stands_at xs place a c.next.new.self (sym c.loop-attr.invariant.behind ∙ c.in-Some.ensures) in
    let group = ap (λ x. if_kind group_in 17 x) at.here in
    let seen = λ (front rest : List Attr). reason_behind (floors_named front) (groups 17 rest) in
    let past : seen (take (place + 1) xs) (drop (place + 1) xs) ≡ seen (take place xs) (drop place xs)
    = elim c.match-group_of.branch [
      | in-Some-group_of+in_default-reason_unless_named w ↦
          past_at xs place a at.within
          (past_group (take place xs) (drop (place + 1) xs) (get_or xs place a) (w.in-Some-group_of.floor, w.in-Some-group_of.within) (group ∙ sym w.in-Some-group_of.ensures) (sym w.in_default-reason_unless_named.ensures))
      | in_default-group_of w ↦
          past_at xs place a at.within (past_other (take place xs) (drop (place + 1) xs) (get_or xs place a) (group ∙ sym w.in_default-group_of.ensures))
    ] in
    record {
      behind = sym at.behind;
      all = omega (arith, c.loop-attr.invariant.all, ap length c.in-Some.ensures);
      reason = ap (λ rest. seen (take (place + 1) xs) rest) (sym at.behind) ∙ past
          ∙ ap (λ rest. seen (take place xs) rest) (sym c.loop-attr.invariant.behind) ∙ c.loop-attr.invariant.reason;
    }
