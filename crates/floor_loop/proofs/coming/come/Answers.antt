use Rattle.std.proofs.Common.{◌≡◌, ◌⊎◌, inl, inr, ℕ, List, [], true, false, ap, refl, subst, sym, ◌∙◌, Some, None}
use Rattle.std.specs.List.{Contains}
use Rattle.std.proofs.lemmas.Option.{none-some}
use Rattle.floor_hub.specs.Connections.{connection_at}
use Rattle.floor_loop.specs.Done.{Returns, Steps}
use Rattle.floor_loop.specs.Away.{is_stay_of, stay_of}
use Rattle.floor_loop.specs.Laws.{IsNew}
use Rattle.floor_loop.specs.Loop.{Attended, Loop, Outgoing, outgoing_in}
use Rattle.std.specs.Prelude.{IsSome}
use Rattle.floor_loop.specs.Returned.{Returned}
use Rattle.floor_loop.specs.steps.Entered.{Entered}
use Rattle.floor_loop.specs.steps.Moved.{IsLoop, loop_of}
use Rattle.floor_loop.proofs.Entering.{last-moves, returns-none, still-spares, still-wakes}
use Rattle.floor_loop.proofs.Gathering.{if-both, named-stands, nobody-away}
use Rattle.floor_loop.proofs.Watching.{gathers-refl}
use Rattle.floor_loop.proofs.coming.come.Goals as goal

pub returns-in-Err : goal.returns-in-Err
returns-in-Err c =
    let hub = c.args.hub.now in
    let old = c.args.attended.now in
    let new = c.set_back.new.self in
    let kept : new.outgoing ≡ old.outgoing = ap (λ (z : Attended). z.outgoing) c.set_back.ensures.next in
    let back : new.away.back ≡ [] = ap (λ (z : Attended). z.away.back) c.set_back.ensures.next ∙ c.new.ensures.items in
    let m = last-moves (loop_of hub old) hub old new kept (λ k s is. ap (λ (z : Attended). stay_of z.away k) (sym c.set_back.ensures.next) ∙ is) in
    record {
      steps = subst (λ (ks : List ℕ). Steps (Returns c.args.conference c.args.user ks) hub hub) (sym back) (returns-none c.args.conference c.args.user hub);
      moved = λ l. (m.serving l, m.timed l, m.took l, m.own l);
      woke = λ l. still-wakes hub old new kept;
      spares = λ l. still-spares hub old new kept;
      joined = λ l. tt;
      fresh = λ l. tt;
      ready = λ l. tt;
      full = λ l r is k. tt;
      left = back;
      refused = inl refl;
      gathered = gathers-refl hub;
    }

pub returns-then-is_kept_place : goal.returns-then-is_kept_place
returns-then-is_kept_place c =
    let hub = c.args.hub.now in
    let old = c.args.attended.now in
    let new = c.set_back-then-is_kept_place.new.self in
    let kept : new.outgoing ≡ old.outgoing = ap (λ (z : Attended). z.outgoing) c.set_back-then-is_kept_place.ensures.next in
    let back : new.away.back ≡ [] = ap (λ (z : Attended). z.away.back) c.set_back-then-is_kept_place.ensures.next ∙ c.new-then-is_kept_place.ensures.items in
    let m = last-moves (loop_of hub old) hub old new kept (λ k s is. ap (λ (z : Attended). stay_of z.away k) (sym c.set_back-then-is_kept_place.ensures.next) ∙ is) in
    record {
      steps = subst (λ (ks : List ℕ). Steps (Returns c.args.conference c.args.user ks) hub hub) (sym back) (returns-none c.args.conference c.args.user hub);
      moved = λ l. (m.serving l, m.timed l, m.took l, m.own l);
      woke = λ l. still-wakes hub old new kept;
      spares = λ l. still-spares hub old new kept;
      joined = λ l. tt;
      fresh = λ l. tt;
      ready = λ l. tt;
      full = λ l r is k. tt;
      left = back;
      refused = inr (inl (c.full.ensures.value, c.is_kept_place.ensures.keeps c.if-is_kept_place.true, c.is_kept_place.ensures.live c.if-is_kept_place.true));
      gathered = gathers-refl hub;
    }

not_both : false ≡ true → ⊥
not_both e = cc

abbrev old : goal.After-enter → Loop
old c = loop_of c.args.hub.now c.args.attended.now

abbrev new : goal.After-enter → Loop
new c = loop_of c.enter.new.hub c.enter.new.attended

-- who has come wasn't there before, and so isn't one of those that have left
returned : (c : goal.After-enter) → IsLoop (old c) → (number : ℕ) → Entered c.args.conference number c.in-Ok.back.items c.args.hub.now c.enter.new.hub → c.enter.new.attended.away.back ≡ c.in-Ok.back.items → Returned c.args.conference c.args.user number (old c) (new c)
returned c l number e same =
    let g = c.in-Ok.ensures.value l in
    let fresh : Contains c.in-Ok.back.items number → ⊥ = λ named.
    let s = named-stands (λ z. is_stay_of c.args.user (stay_of c.args.attended.now.away z.number)) g.0 number (subst (λ (ks : List ℕ). Contains ks number) g.2 named) in
    let x = g.1.there number s.0 s.1 in
    none-some x.0 (sym e.joins.fresh ∙ x.1) in
    record {
      live = g.0;
      members = g.1;
      back = same ∙ g.2;
      next = e.joins.next;
      connection = e.joins.connection;
      there = e.others number fresh ∙ e.joins.put.here;
      place = e.joins.place;
      left = λ k named. e.left k (subst (λ (ks : List ℕ). Contains ks k) same named);
      others = λ k ne never. e.others k (λ named. never (subst (λ (ks : List ℕ). Contains ks k) (sym same) named)) ∙ e.joins.put.others k ne;
    }

ready : (c : goal.After-enter) (number : ℕ) → Returned c.args.conference c.args.user number (old c) (new c) →
    ((connection_at c.enter.new.hub.connections number ≡ None) ⊎ ((o : Outgoing) × (outgoing_in c.enter.new.attended number ≡ Some o) × IsSome o.ready)) → (o : Outgoing) × (outgoing_in c.enter.new.attended number ≡ Some o) × IsSome o.ready
ready c number r (inl e) = absurd (none-some r.connection (sym e ∙ r.there))
ready c number r (inr o) = o

fresh : (c : goal.After-enter) (number : ℕ) → Returned c.args.conference c.args.user number (old c) (new c) → ((connection_at c.enter.new.hub.connections number ≡ None) ⊎ IsNew (new c) number) → IsNew (new c) number
fresh c number r (inl e) = absurd (none-some r.connection (sym e ∙ r.there))
fresh c number r (inr n) = n

pub returns : goal.returns
returns c =
    record {
      steps = c.enter.ensures.steps;
      moved = c.enter.ensures.moved;
      woke = c.enter.ensures.woke;
      spares = c.enter.ensures.spares;
      joined = λ l. if-both c.enter.result (returned c l) c.enter.ensures.joined c.enter.ensures.back;
      fresh = λ l. if-both c.enter.result (fresh c) (if-both c.enter.result (returned c l) c.enter.ensures.joined c.enter.ensures.back) (c.enter.ensures.fresh l);
      ready = λ l. if-both c.enter.result (ready c) (if-both c.enter.result (returned c l) c.enter.ensures.joined c.enter.ensures.back) (c.enter.ensures.ready l);
      full = λ l r is k.
          let g = c.in-Ok.ensures.value l in
          let none = nobody-away c.args.hub.now c.args.attended.now.away c.args.conference c.args.user g.0 g.1 k.nobody in
          absurd (not_both (sym c.if-is_kept_place.false ∙ c.is_kept_place.ensures.value r is (c.as_slice.ensures.value ∙ g.2 ∙ none) k.keeps k.live));
      left = c.enter.ensures.left;
      refused = c.enter.ensures.refused c.args.attended.now.away.keeps_place;
      gathered = c.enter.ensures.gathered;
    }
