use Rattle.std.proofs.Common.{◌≡◌, ◌<◌, ◌+◌, ◌∷◌, ℕ, List, [], ap, arith, drop, length, length-drop, refl, sym, ◌∙◌, None}
use Rattle.std.specs.Prelude.{Option}
use Rattle.std.proofs.lemmas.List.{drop-drop}
use Rattle.floor_loop.specs.Loop.{Outgoing}
use Rattle.floor_loop.specs.steps.Changed.{left_of, whole_of, wrote_of}
use Rattle.floor_loop.proofs.outgoing.Outgoing.advance.Goals as goal

left-some : (rest : List ℕ) (k : ℕ) → 0 < length rest → left_of rest k ≡ k
left-some [] k some = absurd (omega (arith, some))
left-some (b ∷ bs) k some = refl

whole-none : (rest : List ℕ) (k : ℕ) → 0 < length rest → ◌≡◌ {A = Option ℕ} None (whole_of rest k)
whole-none [] k some = absurd (omega (arith, some))
whole-none (b ∷ bs) k some = refl

-- something is left where not all was written
left : (items : List ℕ) (at count : ℕ) → at + count < length items → 0 < length (drop count (drop at items))
left items at count less = omega (arith, length-drop count (drop at items), length-drop at items, less)

drops : (items : List ℕ) (at count : ℕ) → drop (at + count) items ≡ drop count (drop at items)
drops items at count = sym (drop-drop count at items)

wrote : (at count : ℕ) (items : List ℕ) (conference parcels : ℕ) (ready ends fails : Option ℕ) → at + count < length items →
    ◌≡◌ {A = Outgoing} (record { conference = conference; rest = drop (at + count) items; parcels = parcels; ready = ready; ends = ends; fails = fails }) (wrote_of count (record { conference = conference; rest = drop at items; parcels = parcels; ready = ready; ends = ends; fails = fails }))
wrote at count items conference parcels ready ends fails less =
    ap (λ (z : List ℕ). record { conference = conference; rest = z; parcels = parcels; ready = ready; ends = ends; fails = fails }) (drops items at count)
    ∙ ap (λ (k : ℕ). record { conference = conference; rest = drop count (drop at items); parcels = k; ready = ready; ends = ends; fails = fails }) (sym (left-some (drop count (drop at items)) parcels (left items at count less)))

pub returns-then-self-len-clause-next : goal.returns-then-self-len-clause-next
returns-then-self-len-clause-next c =
    let i = c.self.inside in
    let less : i.at + c.args.count < length i.bytes.items = omega (arith, c.if-self-len.true, c.len.ensures) in
    wrote i.at c.args.count i.bytes.items i.conference i.parcels i.ready i.ends i.fails less ∙ ap (wrote_of c.args.count) c.self.view_is

pub returns-then-self-len-clause-value : goal.returns-then-self-len-clause-value
returns-then-self-len-clause-value c =
    let i = c.self.inside in
    let less : i.at + c.args.count < length i.bytes.items = omega (arith, c.if-self-len.true, c.len.ensures) in
    whole-none (drop c.args.count (drop i.at i.bytes.items)) i.parcels (left i.bytes.items i.at c.args.count less) ∙ ap (λ (o : Outgoing). whole_of (drop c.args.count o.rest) o.parcels) c.self.view_is
