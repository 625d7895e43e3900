-- One turn more of a run.
use Rattle.std.proofs.Common.{◌≡◌, ℕ, suc, ◌+◌, ◌<◌, length, get_or, drop-cons, arith, List, [], ◌∷◌, ◌++◌, drop, sym, ◌∙◌, ap, append_assoc, append-nil}
use Rattle.floor_hub.specs.declared.step.Step.{Step}
use Rattle.floor_hub.specs.declared.step.Answer.{Answer}
use Rattle.floor_hub.specs.World.{World, nothing, turn}
use Rattle.floor_hub.specs.Runs.{answers, queues, queues_from, run}
use Rattle.floor_hub.specs.declared.transcript.Queued.{Queued}

pub goes_on : (w : World) (sofar all : List Answer) (left more : List Step) (s : Step) (a : Answer)
    → left ≡ s ∷ more → (turn w s).answer ≡ a → sofar ++ answers w left ≡ all
    → (sofar ++ a ∷ []) ++ answers (turn w s).world more ≡ all
goes_on w sofar all left more s a e f g =
    append_assoc sofar (a ∷ []) (answers (turn w s).world more)
    ∙ ap (λ b. sofar ++ b ∷ answers (turn w s).world more) (sym f)
    ∙ sym (ap (λ l. sofar ++ answers w l) e) ∙ g

pub item_next : (l : List Step) (j : ℕ) (s : Step) → s ≡ get_or l j s → j < length l → drop j l ≡ s ∷ drop (j + 1) l
item_next l j s e h =
    let next : suc j ≡ j + 1 = omega arith in
    drop-cons l j s h ∙ ap (λ x. x ∷ drop (suc j) l) (sym e) ∙ ap (λ k. s ∷ drop k l) next

pub runs_on : (w all : World) (left more : List Step) (s : Step) → left ≡ s ∷ more → run w left ≡ all → run (turn w s).world more ≡ all
runs_on w all left more s e h = sym (ap (run w) e) ∙ h

-- at the end of the steps
pub ends : (steps left : List Step) (w : World) (xs : List Answer) (qs : List Queued) → left ≡ [] → xs ++ answers w left ≡ answers nothing steps → run w left ≡ run nothing steps →
    qs ≡ queues_from w.parts 1 w.places → (xs ≡ answers nothing steps) × (qs ≡ queues steps)
ends steps left w xs qs e h r q = (
  sym (append-nil xs) ∙ sym (ap (λ (l : List Step). xs ++ answers w l) e) ∙ h,
  q ∙ ap (λ (v : World). queues_from v.parts 1 v.places) (sym (ap (run w) e) ∙ r),
)
