use Rattle.std.proofs.Common.{◌∙◌, Bool, cond, Option, Some, None, ap, sym}
use Rattle.std.specs.Option.{option_map_or}
use Rattle.floor_machine.specs.declared.member.Member.{Member}
use Rattle.floor_machine.proofs.Live.{if_live, live-found}
use Rattle.floor_machine.proofs.joined.Joined.find_live.Goals as goal

pub returns-then-member : goal.returns-then-member
returns-then-member c =
    sym (live-found c.args.self.now.members.items 1 c.args.n c.args.self.now.numbered ∙ ap (λ (o : Option Member). option_map_or if_live o None) (sym c.in-Some.ensures)
    ∙ ap (λ (l : Bool). cond l (Some c.in-Some.member.now) None) c.if-member.true)

pub returns-else-member : goal.returns-else-member
returns-else-member c =
    sym (live-found c.args.self.now.members.items 1 c.args.n c.args.self.now.numbered ∙ ap (λ (o : Option Member). option_map_or if_live o None) (sym c.in-Some.ensures)
    ∙ ap (λ (l : Bool). cond l (Some c.in-Some.member.now) None) c.if-member.false)

pub returns-in-None : goal.returns-in-None
returns-in-None c =
    sym (live-found c.args.self.now.members.items 1 c.args.n c.args.self.now.numbered ∙ ap (λ (o : Option Member). option_map_or if_live o None) (sym c.in-None.ensures))
