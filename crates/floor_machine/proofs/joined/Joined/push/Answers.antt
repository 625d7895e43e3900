use Rattle.std.proofs.Common.{◌≡◌, ◌+◌, ◌++◌, ◌∷◌, [], Bool, true, false, cond, List, length, ap, ◌∙◌}
use Rattle.std.specs.Prelude.{is_ok}
use Rattle.floor_machine.specs.declared.member.Member.{Member}
use Rattle.floor_machine.specs.Conference.{is_numbered_from}
use Rattle.floor_machine.proofs.Joining.{numbered-push}
use Rattle.floor_machine.proofs.joined.Joined.push.Goals as goal

-- the members stay numbered, whether one is pushed or not
pushed : (b : Bool) (ms : List Member) (m : Member) → m.n ≡ length ms + 1 → is_numbered_from 1 ms ≡ true → is_numbered_from 1 (cond b (ms ++ m ∷ []) ms) ≡ true
pushed true ms m h k = numbered-push 1 ms m h k
pushed false ms m h k = k

pub invariant_of-self : goal.invariant_of-self
invariant_of-self c =
    let ms = c.args.self.now.members.items in
    let m : Member = record { n = c.args.n; user = c.args.user; watched = c.from_vec.result; is_live = true; backlog = 0; is_cut = false } in
    record { numbered = ap (is_numbered_from 1) c.push.ensures.items ∙ pushed (is_ok c.push.result) ms m c.requires c.args.self.now.numbered }
