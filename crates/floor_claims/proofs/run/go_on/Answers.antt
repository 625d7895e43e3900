use Rattle.floor_claims.specs.steps.Led.{Writes}
use Rattle.floor_claims.proofs.Calling.{on-ok-of, writes-both, writes-led}
use Rattle.floor_claims.proofs.run.go_on.Goals as goal

pub returns-clause-writes : goal.returns-clause-writes
returns-clause-writes c =
    let n = c.args.begun.now.number in
    let a = c.args.begun.now.hub in
    let first = c.args.taken.now.items in
    let mid = c.write.new.taken.items in
    let last = c.write-2.new.taken.items in
    let d = c.leave_and_return.new.hub in
    let e = c.write-2.new.hub in
    let begun = writes-led n a c.speak.new.hub c.write.new.hub first mid c.in_ok-other.ensures.led c.in_ok-write.ensures.writes in
    on-ok-of (Writes n d e mid last) (Writes n a e first last) c.write-2.result
    (λ f. writes-both n a c.write.new.hub e first mid last begun (writes-led n c.write.new.hub d e mid last c.in_ok-leave_and_return.ensures.led f)) c.write-2.ensures.writes
