use Rattle.std.proofs.Common.{◌≡◌, ◌+◌, arith}
use Rattle.floor_hub.specs.declared.step.Answer.TheVariants.{Done, Refused}
use Rattle.floor_script.specs.State.{most_at_once}
use Rattle.floor_script.proofs.Standing.{serves_begin, serves_last, serves_next, serves_over, stops_done, stops_refused}
use Rattle.floor_script.proofs.conferences.serve_all.Goals as goal

pub loop-served-init : goal.loop-served-init
loop-served-init c = (most_at_once, omega arith, serves_begin most_at_once c.args.connection _)

pub loop-served-preserved : goal.loop-served-preserved
loop-served-preserved c =
    let far = c.loop-served.invariant in
    serves_next far.0 c.loop-served.served c.args.connection c.in_ok-serve_in.field-0 _ _ _ far.1 c.loop-served-test.true far.2 c.in_ok-serve_in.ensures.took c.in-Served.is

pub returns-in-Refused : goal.returns-in-Refused
returns-in-Refused c =
    let far = c.loop-served.invariant in
    record {
      took = serves_last far.0 c.loop-served.served c.args.connection c.in_ok-serve_in.field-0 (Refused c.in-Refused.refusal) _ _ _ far.1 c.loop-served-test.true far.2 c.in_ok-serve_in.ensures.took
          (stops_refused c.in_ok-serve_in.field-0 c.in-Refused.refusal c.in-Refused.is);
    }

pub returns-in-Nothing : goal.returns-in-Nothing
returns-in-Nothing c =
    let far = c.loop-served.invariant in
    record {
      took = serves_last far.0 c.loop-served.served c.args.connection c.in_ok-serve_in.field-0 Done _ _ _ far.1 c.loop-served-test.true far.2 c.in_ok-serve_in.ensures.took
          (stops_done c.in_ok-serve_in.field-0 c.in-Nothing.is);
    }

pub returns : goal.returns
returns c =
    let far = c.loop-served.invariant in
    record { took = serves_over far.0 c.loop-served.served c.args.connection _ _ far.1 c.loop-served-test.false far.2 }
