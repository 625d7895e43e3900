use Rattle.std.proofs.Common.{List, ◌∙◌, ap, sym}
use Rattle.std.specs.Prelude.{◌==◌}
use Rattle.std.specs.List.{slice_get}
use Rattle.std.proofs.lemmas.List.Folds.{find_at}
use Rattle.floor_machine.specs.declared.member.Member.{Member}
use Rattle.floor_machine.proofs.joined.Joined.find.Goals as goal

pub returns : goal.returns
returns c =
    c.member_in.ensures ∙ ap (λ (ms : List Member). slice_get ms c.place_of.result) c.deref.ensures.value
    ∙ ap (slice_get c.args.self.now.members.items) c.place_of.ensures
    ∙ sym (find_at (λ (m : Member). m.n == c.args.n) c.args.self.now.members.items)
