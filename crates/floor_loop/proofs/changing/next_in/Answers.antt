use Rattle.std.proofs.Common.{ℕ, List, Bool, ap, subst, sym, ◌∙◌, nat_eq}
use Rattle.std.specs.Prelude.{if◌then◌else◌}
use Rattle.std.specs.Map.{lookup}
use Rattle.floor_loop.specs.declared.outgoing.Mark.TheVariants.{Ready}
use Rattle.floor_loop.specs.Loop.{Outgoing}
use Rattle.floor_loop.specs.steps.Changed.{changed, given}
use Rattle.floor_loop.specs.steps.Listed.{IsListed}
use Rattle.floor_loop.proofs.Listing.{listed-given, listed-stale, nobody-stands, stands-false, stands-true}
use Rattle.floor_loop.proofs.changing.next_in.Goals as goal

pub loop-entry-preserved : goal.loop-entry-preserved
loop-entry-preserved c =
    let es = c.loop-entry.outgoing.entries in
    let entry = c.in-Some.entry in
    let same = c.give_in.ensures.next ∙ ap (λ (b : Bool). if b then changed given entry.number es else es) c.if-give_in.false in (
      same ∙ c.loop-entry.invariant.0,
      λ last l. subst (λ (z : List (ℕ × Outgoing)). IsListed Ready z last c.drop_first.new.self) (sym same)
          (subst (IsListed Ready es last) (sym c.drop_first.ensures.next)
          (listed-stale Ready es last c.loop-entry.ready entry c.in-Some.ensures.value (stands-false Ready entry.time (lookup (nat_eq entry.number) es) (sym c.give_in.ensures.value ∙ c.if-give_in.false)) (c.loop-entry.invariant.1 last l))),
    )

pub returns-then-give_in : goal.returns-then-give_in
returns-then-give_in c =
    let es = c.loop-entry.outgoing.entries in
    let entry = c.in-Some.entry in
    let was = c.loop-entry.invariant.0 in
    let now = c.give_in.ensures.next ∙ ap (λ (b : Bool). if b then changed given entry.number es else es) c.if-give_in.true in
    let o = stands-true Ready entry.time (lookup (nat_eq entry.number) es) (sym c.give_in.ensures.value ∙ c.if-give_in.true) in
    record {
      next = now ∙ ap (changed given entry.number) was;
      listed = λ last l.
          subst (λ (z : List (ℕ × Outgoing)). IsListed Ready z last c.drop_first.new.self) (sym now)
          (subst (IsListed Ready (changed given entry.number es) last) (sym c.drop_first.ensures.next) (listed-given es last c.loop-entry.ready entry o.0 c.in-Some.ensures.value o.1 o.2 (c.loop-entry.invariant.1 last l)));
      found = (o.0, ap (λ (z : List (ℕ × Outgoing)). lookup (nat_eq entry.number) z) (sym was) ∙ o.1, entry.time, o.2);
      none = tt;
    }

pub returns : goal.returns
returns c =
    let es = c.loop-entry.outgoing.entries in
    let was = c.loop-entry.invariant.0 in
    record {
      next = was;
      listed = c.loop-entry.invariant.1;
      found = tt;
      none = λ last l number o is. nobody-stands Ready es last c.loop-entry.ready c.in_default.ensures.value (c.loop-entry.invariant.1 last l) number o (ap (λ (z : List (ℕ × Outgoing)). lookup (nat_eq number) z) was ∙ is);
    }
