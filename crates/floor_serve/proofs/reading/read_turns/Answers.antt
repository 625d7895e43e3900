use Rattle.std.proofs.Common.{◌<◌, ◌+◌, ◌∙◌, ap, arith, length, length-take, refl, sym, subst, take}
use Rattle.std.specs.Prelude.{Err}
use Rattle.floor_serve.specs.declared.fault.ReadFault.{ReadFault}
use Rattle.floor_serve.specs.Read.{Ended}
use Rattle.floor_serve.specs.Seat.{Seat}
use Rattle.floor_serve.proofs.Submitting.{read-more, read-none, read-refused, read-unpushed}
use Rattle.floor_serve.proofs.reading.read_turns.Goals as goal

pub loop-turn-init : goal.loop-turn-init
loop-turn-init g c =
    record {
      unmarked = c.requires.unmarked;
      conference = c.requires.seat;
      read = read-none c.args.seat.now (g.S.Source.remaining c.args.source.now) c.new-framer.result c.new-framer.ensures;
    }

pub returns-in_default-push : goal.returns-in_default-push
returns-in_default-push g c =
    read-unpushed c.args.limit c.loop-turn._turn c.args.seat.now c.loop-turn.seat (g.S.Source.remaining c.args.source.now) (g.S.Source.remaining c.loop-turn.source) (g.S.Source.remaining c.read.new.self) c.loop-turn.framer (take c.in-Some.count c.read.new.buffer)
    (g.S.Source.marked c.read.new.self) c.loop-turn.invariant.read c.in-Some.ensures.some.1 c.in-Some.ensures.some.3

pub returns-in-Err : goal.returns-in-Err
returns-in-Err g c =
    let was = g.S.Source.remaining c.args.source.now in
    let now = g.S.Source.remaining c.read.new.self in
    let marked = g.S.Source.marked c.read.new.self in
    subst (λ (f : ReadFault). Ended c.args.limit (Err f) c.args.seat.now c.submit_all.new.seat was now marked) (sym c.fault_of.ensures)
    (read-refused c.args.limit c.loop-turn._turn c.args.seat.now c.loop-turn.seat c.submit_all.new.seat was (g.S.Source.remaining c.loop-turn.source) now c.loop-turn.framer (take c.in-Some.count c.read.new.buffer) c.push.new.self c.in-Err.refusal marked
    c.loop-turn.invariant.read c.in-Some.ensures.some.1 c.in-Ok.ensures.next c.in-Err.ensures.left c.in-Some.ensures.some.3)

pub loop-turn-preserved : goal.loop-turn-preserved
loop-turn-preserved g c =
    let ok = c.in-Ok-submit_all.ensures in
    let some : 0 < length (take c.in-Some.count c.read.new.buffer) = omega (arith, length-take c.in-Some.count c.read.new.buffer, c.in-Some.ensures.some.0, c.if-count-eq0.false) in
    record {
      unmarked = c.in-Some.ensures.some.3;
      conference = ap (λ (s : Seat). s.conference) ok.took.next ∙ c.loop-turn.invariant.conference;
      read = read-more c.loop-turn._turn (c.loop-turn._turn + 1) c.args.seat.now c.loop-turn.seat c.submit_all.new.seat (g.S.Source.remaining c.args.source.now) (g.S.Source.remaining c.loop-turn.source) (g.S.Source.remaining c.read.new.self) c.loop-turn.framer (take c.in-Some.count c.read.new.buffer)
          c.push.new.self c.submit_all.new.framer c.loop-turn.invariant.read c.in-Some.ensures.some.1 c.in-Ok.ensures.next ok.took ok.rest some refl;
    }
