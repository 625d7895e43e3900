use Rattle.std.proofs.Common.{ℕ, ◌≤◌, List, length, take, subst, ap, ◌∙◌}
use Rattle.std.specs.Io.KnownBytes.{Appends}
use Rattle.floor_loop.specs.Loop.{rest_at}
use Rattle.floor_streams.specs.Wrote.{WritesSome}
use Rattle.floor_streams.specs.declared.writing.Written.{Written}
use Rattle.floor_streams.proofs.Cut.{cut, within}
use Rattle.floor_streams.proofs.writing.write_once.Goals as goal

pub wrote-requires : goal.wrote-requires
wrote-requires g c =
    let some = subst (λ (m : Written). WritesSome (g.S.Write.contents c.args.stream.now) (g.S.Write.contents c.write_some-written.new.stream) c.writing.result.now m) c.in-Bytes.is c.write_some-written.ensures.value in
    within 65536 c.in-Bytes.count (rest_at c.args.hub.now c.args.number) (subst (λ (b : List ℕ). c.in-Bytes.count ≤ length b) c.writing.ensures.value some.0)

pub returns-in-Bytes : goal.returns-in-Bytes
returns-in-Bytes g c =
    let was = g.S.Write.contents c.args.stream.now in
    let is = g.S.Write.contents c.write_some-written.new.stream in
    let rest = rest_at c.args.hub.now c.args.number in
    let count = c.in-Bytes.count in
    let some = subst (λ (m : Written). WritesSome was is c.writing.result.now m) c.in-Bytes.is c.write_some-written.ensures.value in
    let le = subst (λ (b : List ℕ). count ≤ length b) c.writing.ensures.value some.0 in
    let same = ap (take count) c.writing.ensures.value ∙ cut 65536 count rest le in
    record {
      value = record {
        within = within 65536 count rest le;
        grew = subst (λ (b : List ℕ). Appends was is b) same some.1;
        steps = c.wrote.ensures.steps;
        took = c.wrote.ensures.took;
        others = c.wrote.ensures.others;
      };
    }
