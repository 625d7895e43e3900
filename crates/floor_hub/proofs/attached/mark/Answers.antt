use Rattle.std.proofs.Common.{◌≡◌, ◌<◌, ◌∙◌, ℕ, List, [], ◌∷◌, ap, get_or, length, subst, sym}
use Rattle.std.specs.Prelude.{◌==◌, filter, not}
use Rattle.floor_hub.specs.declared.attached.Live.{Live}
use Rattle.floor_hub.specs.steps.Attached.{cut_at, numbers_of}
use Rattle.floor_hub.proofs.Searching.{filter-both, none-changed, one-changed, one-found}
use Rattle.floor_hub.proofs.attached.mark.Goals.{In-None}
use Rattle.floor_hub.proofs.attached.mark.Goals as goal

-- nobody is the member
none : (c : In-None) → filter (λ (l : Live). c.args.n == l.n) c.args.live.now.items ≡ []
none c = subst (λ (z : List Live). filter (λ (l : Live). c.args.n == l.n) z ≡ []) c.deref.ensures.value c.in-None.ensures.none

pub returns-in-None-clause-next : goal.returns-in-None-clause-next
returns-in-None-clause-next c = none-changed c.args.n c.args.live.now.items (none c)

pub returns-in-None-clause-value : goal.returns-in-None-clause-value
returns-in-None-clause-value c =
    sym (ap (λ (z : List Live). numbers_of z) (filter-both (λ l. c.args.n == l.n) (λ l. not l.is_cut) c.args.live.now.items ∙ ap (λ (z : List Live). filter (λ l. not l.is_cut) z) (none c)))

pub returns-in-Some-get_mut-clause-next : goal.returns-in-Some-get_mut-clause-next
returns-in-Some-get_mut-clause-next c =
    let was : Live = c.in-Some-get_mut.one.now in
    let within : c.in-Some.place < length c.args.live.now.items = subst (λ (z : List Live). c.in-Some.place < length z) c.deref.ensures.value c.in-Some.ensures.found.0 in
    let named : (get_or c.args.live.now.items c.in-Some.place was).n ≡ c.args.n = subst (λ (z : List Live). (get_or z c.in-Some.place was).n ≡ c.args.n) c.deref.ensures.value (c.in-Some.ensures.found.1 was) in
    one-changed c.args.n 0 c.in-Some.place c.args.live.now.items was c.mark_one.new.live c.requires.1 within named
    (c.mark_one.ensures.next ∙ ap (λ (k : ℕ). cut_at k was) (ap (λ (z : Live). z.n) c.in-Some-get_mut.ensures.value ∙ named) ∙ ap (cut_at c.args.n) c.in-Some-get_mut.ensures.value)

pub returns-in-Some-get_mut-clause-value : goal.returns-in-Some-get_mut-clause-value
returns-in-Some-get_mut-clause-value c =
    let was : Live = c.in-Some-get_mut.one.now in
    let within : c.in-Some.place < length c.args.live.now.items = subst (λ (z : List Live). c.in-Some.place < length z) c.deref.ensures.value c.in-Some.ensures.found.0 in
    let named : (get_or c.args.live.now.items c.in-Some.place was).n ≡ c.args.n = subst (λ (z : List Live). (get_or z c.in-Some.place was).n ≡ c.args.n) c.deref.ensures.value (c.in-Some.ensures.found.1 was) in
    c.mark_one.ensures.value
    ∙ ap (λ (z : Live). numbers_of (filter (λ l. not l.is_cut) (z ∷ []))) c.in-Some-get_mut.ensures.value
    ∙ sym (ap (λ (z : List Live). numbers_of z) (filter-both (λ l. c.args.n == l.n) (λ l. not l.is_cut) c.args.live.now.items
    ∙ ap (λ (z : List Live). filter (λ l. not l.is_cut) z) (one-found c.args.n 0 c.in-Some.place c.args.live.now.items was c.requires.1 within named)))
