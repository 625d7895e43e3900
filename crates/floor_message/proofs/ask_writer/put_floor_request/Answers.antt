use Rattle.std.proofs.Common.{List, ℕ, ◌≡◌, ◌++◌, ◌∷◌, [], ◌∙◌, ap, map, subst}
use Rattle.std.specs.Prelude.{OnOk}
use Rattle.floor_message.specs.Written.{optional, number, octets, priority_attr}
use Rattle.floor_message.specs.steps.Writing.{with_attrs}
use Rattle.floor_message.proofs.Puts.{put_both, put_then}
use Rattle.floor_message.proofs.Rooms.{writable_front, writable_back}
use Rattle.floor_message.proofs.ask_writer.put_floor_request.Goals as goal

pub put_octets-requires : goal.put_octets-requires
put_octets-requires c =
    let x = map (number 2) c.args.floors.now in
    let y = optional (number 1) c.args.beneficiary in
    let z = optional (octets 8) c.args.info.now in
    writable_back (x ++ y) z (writable_front (x ++ y ++ z) (priority_attr c.args.priority ∷ []) c.requires.writable)

pub returns : goal.returns
returns c =
    let s = c.args.out.now in
    let x = map (number 2) c.args.floors.now in
    let y = optional (number 1) c.args.beneficiary in
    let z = optional (octets 8) c.args.info.now in
    let w = priority_attr c.args.priority ∷ [] in
    let before = put_then s _ _ (x ++ y) z (put_then s _ _ x y c.in_ok-put_floors.ensures c.in_ok-put_number.ensures) c.in_ok-put_octets.ensures in
    let P : List ℕ → Type 0 = λ all. OnOk c.put_priority.result (c.put_priority.new.out ≡ all) in
    subst P (ap (λ b. with_attrs b w) before ∙ put_both s (x ++ y ++ z) w) c.put_priority.ensures
