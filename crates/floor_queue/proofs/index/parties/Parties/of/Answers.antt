use Rattle.std.proofs.Common.{◌≡◌, ◌∙◌, ◌-◌, ap, drop, length, sym, take, List}
use Rattle.std.specs.Prelude.{◌==◌, filter}
use Rattle.std.proofs.lemmas.List.{take_rest}
use Rattle.floor_queue.specs.declared.index.parties.Party.{Party}
use Rattle.floor_queue.specs.steps.Parties.{by_user}
use Rattle.floor_queue.proofs.Parting.{by_user-drop, found_of, from_user, up_to_user}
use Rattle.floor_queue.proofs.index.parties.Parties.of.Goals as goal

pub up_to-requires : goal.up_to-requires
up_to-requires c =
    ap by_user (take_rest c.deref.result.now c.first_from-from.result ∙ ap (drop c.first_from-from.result) c.deref.ensures.value)
    ∙ by_user-drop c.first_from-from.result c.self.inside.parties.items c.self.invariant

pub returns : goal.returns
returns c =
    let from : c.first_from-from.result ≡ from_user c.args.user c.self.inside.parties.items = c.first_from-from.ensures.value ∙ ap (from_user c.args.user) (sym c.self.view_is) in
    let rest : take (length c.deref.result.now - c.first_from-from.result) (drop c.first_from-from.result c.deref.result.now) ≡ drop (from_user c.args.user c.self.inside.parties.items) c.self.inside.parties.items =
    take_rest c.deref.result.now c.first_from-from.result ∙ ap (drop c.first_from-from.result) c.deref.ensures.value ∙ ap (λ n. drop n c.self.inside.parties.items) from in
    ap (λ n. take n (take (length c.deref.result.now - c.first_from-from.result) (drop c.first_from-from.result c.deref.result.now))) c.up_to.ensures.value
    ∙ ap (λ (ps : List Party). take (up_to_user c.args.user ps) ps) rest
    ∙ found_of c.args.user c.self.inside.parties.items c.self.invariant
    ∙ ap (filter (λ (p : Party). p.user == c.args.user)) c.self.view_is
