use Rattle.std.proofs.Common.{◌≡◌, ◌∙◌, ap, sym, true, false, Bool, refl}
use Rattle.std.specs.Prelude.{◌==◌, ◌&&◌, ◌||◌}
use Rattle.floor_queue.specs.steps.Lines.{is_number_due}
use Rattle.floor_queue.specs.steps.Numbers.{is_in}
use Rattle.floor_queue.proofs.Numbering.{is_in-with_number}
use Rattle.floor_queue.proofs.due.add_if_due.Goals as goal

-- where two hold, all three hold if the last does
last : (a b c : Bool) → (a && b) ≡ true → c ≡ (a && (b && c))
last true true c e = refl
last true false c e = cc
last false b c e = cc

pub returns-in_ok-add : goal.returns-in_ok-add
returns-in_ok-add c =
    λ k. ap (is_in k) c.in_ok-add.ensures.next ∙ is_in-with_number c.args.rank.number k c.args.numbers.now
    ∙ ap (λ b. is_in k c.args.numbers.now || b)
    (last c.args.rank.waits (is_number_due c.args.floors.now c.args.lines.now c.args.requests.now c.args.rank.number) (c.args.rank.number == k) (sym c.is_rank_due.ensures ∙ c.if-is_rank_due.true))
