use Rattle.floor_hub.specs.declared.step.Step.TheVariants.{Serve}
use Rattle.floor_loop.specs.Done.{AddsMessages, AtMost}
use Rattle.floor_loop.specs.Written.{Spares, Wakes}
use Rattle.floor_loop.specs.steps.Moved.{IsLoop, Moved, loop_of}
use Rattle.floor_loop.proofs.turn.serve_turn.Given as goal

-- so many messages were served and no more have come to the journal, whoever was concerned is ready, and nobody is to be shut down without a reason
abbrev pub invariant-loop-turn : goal.invariant-loop-turn
invariant-loop-turn l =
    Moved (AtMost l._turn (Serve l.number)) (loop_of l.fn.hub l.fn.attended) (loop_of l.hub l.attended)
    × (IsLoop (loop_of l.fn.hub l.fn.attended) → Wakes (loop_of l.fn.hub l.fn.attended) (loop_of l.hub l.attended))
    × (IsLoop (loop_of l.fn.hub l.fn.attended) → Spares (loop_of l.fn.hub l.fn.attended) (loop_of l.hub l.attended))
    × (IsLoop (loop_of l.fn.hub l.fn.attended) → AddsMessages l.number l._turn l.fn.hub l.hub)
