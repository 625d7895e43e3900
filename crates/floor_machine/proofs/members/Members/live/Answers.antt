use Rattle.std.proofs.Common.{◌≡◌, length, ap, rules, ◌∙◌}
use Rattle.std.specs.Prelude.{count_by}
use Rattle.floor_machine.specs.declared.member.Member.{Member}
use Rattle.floor_machine.proofs.Live.{live-count}
use Rattle.floor_machine.proofs.members.Members.live.Goals as goal

pub returns : goal.returns
returns c =
    let listed : c.len.result ≡ length c.self.inside.live.items = search rules in
    listed ∙ ap length c.self.invariant.live ∙ live-count c.self.inside.joined.members.items
    ∙ ap (count_by (λ (m : Member). m.is_live)) c.self.view_is
