use Rattle.std.proofs.Common.{◌≡◌, ◌∙◌, Bool, true, false, ap, refl}
use Rattle.std.specs.Prelude.{◌==◌, ◌&&◌}
use Rattle.std.specs.List.{list_any}
use Rattle.std.specs.Option.{option_map_or}
use Rattle.floor_machine.specs.declared.member.Member.{Member}
use Rattle.floor_machine.specs.Conference.{member_with}
use Rattle.floor_machine.proofs.Live.{any-live, any-same}
use Rattle.floor_machine.proofs.members.is_present.Goals as goal

pub returns : goal.returns
returns c =
    let ms = c.args.joined.now.members.items in
    let p : Member → Bool = λ m. m.user == c.args.user in
    c.is_of_any.ensures
    ∙ ap (list_any (λ n. option_map_or p (member_with ms n) false)) c.requires
    ∙ any-live p ms c.args.joined.now.numbered
    ∙ any-same (λ m. m.is_live && p m) (λ m. p m && m.is_live) (λ m. swapped m.is_live (p m)) ms
  where
    swapped : (a b : Bool) → (a && b) ≡ (b && a)
    swapped true true = refl
    swapped true false = refl
    swapped false true = refl
    swapped false false = refl
