use Rattle.std.proofs.Common.{sym, ◌∙◌, nat_eq}
use Rattle.indexmap.specs.IndexMap.{get}
use Rattle.floor_keeping.proofs.Listing.{listed-asked, listed-line, listed-looked, listed-passed, nothing-same, nothing-stands}
use Rattle.floor_keeping.proofs.turn.turn_in.Goals as goal

pub loop-conference-preserved : goal.loop-conference-preserved
loop-conference-preserved c = (
  λ k. c.in-None.ensures.none k ∙ c.loop-conference.invariant.0 k,
  λ time h. listed-passed c.args.policy time c.args.now c.in-Some.conference (get nat_eq c.loop-conference.files) (get nat_eq c.ask_in.new.files) c.loop-conference.line c.next.new.self c.in-None.ensures.none
      c.in-Some.ensures.first c.in-Some.ensures.left.0 c.in-Some.ensures.left.1 c.in-None.ensures.nothing (c.loop-conference.invariant.1 time h),
)

pub returns-in-Some-ask_in-clause-listed : goal.returns-in-Some-ask_in-clause-listed
returns-in-Some-ask_in-clause-listed c = λ time h.
    listed-asked c.args.policy time c.args.now c.in-Some.conference c.in-Some-ask_in.deed (get nat_eq c.loop-conference.files) (get nat_eq c.ask_in.new.files) c.loop-conference.line c.next.new.self
    c.stand_in.new.line c.in-Some-ask_in.ensures.asked c.in-Some.ensures.first c.in-Some.ensures.left.0 c.in-Some.ensures.left.1 c.stand_in.ensures.here c.stand_in.ensures.others c.stand_in.ensures.short
    c.stand_in.ensures.wakings (c.loop-conference.invariant.1 time h)

pub returns-then-not-is_short-clause-nothing : goal.returns-then-not-is_short-clause-nothing
returns-then-not-is_short-clause-nothing c = λ time h.
    let whole = sym c.in_default.ensures.left.1 ∙ sym c.is_short.ensures.value ∙ c.if-not-is_short.true in
    nothing-same c.args.policy c.args.now (get nat_eq c.args.files.now) (get nat_eq c.loop-conference.files) c.loop-conference.invariant.0
    (nothing-stands c.args.policy c.args.now (get nat_eq c.loop-conference.files) c.loop-conference.line.conferences c.in_default.ensures.none ((c.loop-conference.invariant.1 time h).stand whole))

pub returns-then-not-is_short-clause-listed : goal.returns-then-not-is_short-clause-listed
returns-then-not-is_short-clause-listed c = λ time h.
    listed-line c.args.policy time c.args.now (get nat_eq c.loop-conference.files) c.loop-conference.line c.next.new.self c.in_default.ensures.first c.in_default.ensures.left.0 c.in_default.ensures.left.1
    (c.loop-conference.invariant.1 time h)

pub returns-clause-listed : goal.returns-clause-listed
returns-clause-listed c = λ time h.
    listed-looked c.args.policy time c.args.now (get nat_eq c.loop-conference.files) (get nat_eq c.look_in.new.files) c.loop-conference.line c.look_in.new.line (c.look_in.ensures.wakings ∙ c.in_default.ensures.left.0)
    c.look_in.ensures.stand c.look_in.ensures.woken (c.loop-conference.invariant.1 time h)
