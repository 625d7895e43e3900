use Rattle.std.proofs.Common.{subst, sym, ◌∙◌, nat_eq}
use Rattle.std.specs.Map.{lookup}
use Rattle.floor_loop.specs.steps.Listed.{IsListed}
use Rattle.floor_loop.proofs.Listing.{first-of-all, listed-stale, nobody-stands, stands-false, stands-true}
use Rattle.floor_loop.proofs.changing.first_of.Goals as goal

pub loop-entry-preserved : goal.loop-entry-preserved
loop-entry-preserved c = λ last l.
    let es = c.args.outgoing.now.entries in
    let entry = c.in-Some.entry in
    subst (IsListed c.args.mark es last) (sym c.drop_first.ensures.next)
    (listed-stale c.args.mark es last c.loop-entry.line entry c.in-Some.ensures.value (stands-false c.args.mark entry.time (lookup (nat_eq entry.number) es) (sym c.stands.ensures.value ∙ c.if-stands.false)) (c.loop-entry.invariant last l))

pub returns-then-stands : goal.returns-then-stands
returns-then-stands c =
    let es = c.args.outgoing.now.entries in
    let entry = c.in-Some.entry in
    record {
      listed = c.loop-entry.invariant;
      found = stands-true c.args.mark entry.time (lookup (nat_eq entry.number) es) (sym c.stands.ensures.value ∙ c.if-stands.true);
      first = λ last l. first-of-all c.args.mark es last c.loop-entry.line entry c.in-Some.ensures.value (c.loop-entry.invariant last l);
      none = tt;
    }

pub returns : goal.returns
returns c =
    record {
      listed = c.loop-entry.invariant;
      found = tt;
      first = tt;
      none = λ last l. nobody-stands c.args.mark c.args.outgoing.now.entries last c.loop-entry.line c.in_default.ensures.value (c.loop-entry.invariant last l);
    }
