use Rattle.std.proofs.Common.{ℕ, ◌≤◌, List, length, subst, sym}
use Rattle.floor_loop.specs.Loop.{rest_at}
use Rattle.test_loops.proofs.Written.{short}
use Rattle.test_loops.proofs.calls.write.Goals as goal

pub wrote-requires : goal.wrote-requires
wrote-requires c = subst (λ (b : List ℕ). length b ≤ length (rest_at c.args.serving.now c.args.number)) (sym c.writing-count.ensures.value)
    (short 65536 (rest_at c.args.serving.now c.args.number))
