-- A client whose answer waited for a place that it was told is answered.
use Rattle.std.proofs.Common.{◌≡◌, ◌∙◌, Bool, true, Option, Some, None, Ok, ap, sym, subst}
use Rattle.std.specs.Prelude.{unwrap_or}
use Rattle.floor_rpc.specs.declared.answer.Answer.{Answer}
use Rattle.floor_clients.specs.Clients.{Client, answered_by}
use Rattle.floor_desk.specs.Answering.{EndsAt, EndsWhereTold, IsAnswered, IsAnsweredIf}
use Rattle.floor_desk.specs.Callers.{EndsTask, is_told_to, task_at, told_at, told_of}
use Rattle.floor_desk.specs.Clients.{OrCloses}
use Rattle.floor_desk.specs.declared.caller.Caller.{Caller}
use Rattle.floor_desk.specs.declared.caller.PlaceOf.{PlaceOf}
use Rattle.floor_desk.specs.declared.caller.Task.{Task}
use Rattle.floor_desk.specs.declared.caller.Task.TheVariants as task

-- the task is taken, and then the answer that it had is given
answered_then : (a : Answer) (c : Caller) (p q : Option Caller) → EndsTask task.Nothing (λ old new. new ≡ old) (Some c) p → IsAnswered (Ok a) p q → IsAnswered (Ok a) (Some c) q
answered_then a c p q first next =
    let n = subst (λ (x : Option Caller). IsAnswered (Ok a) x q) first.1 next in
    (n.0, n.1, n.2 ∙ first.2, n.3, subst (λ (x : Client). OrCloses (answered_by (Ok a)) x n.0.client) first.4 n.4)

told_is : (c : Caller) (t u : PlaceOf) (a : Answer) → told_of c.task ≡ Some t → c.task ≡ task.Told u a → u ≡ t
told_is c t u a told waits = ap (λ (o : Option PlaceOf). unwrap_or o u) (subst (λ (k : Task). told_of k ≡ Some t) waits told)

pub ends_where_told : (o p q : Option Caller) (t u : PlaceOf) (a : Answer)
    → told_at o ≡ Some t → is_told_to t o ≡ true → task_at o ≡ task.Told u a
    → EndsTask task.Nothing (λ old new. new ≡ old) o p → IsAnswered (Ok a) p q → EndsWhereTold o q
ends_where_told None p q t u a told is waits first next = subst (λ (x : Option Caller). IsAnswered (Ok a) x q) first next
ends_where_told (Some c) p q t u a told is waits first next =
    let is_u = subst (λ (x : PlaceOf). is_told_to x (Some c) ≡ true) (sym (told_is c t u a told waits)) is in
    subst (λ (k : Task). EndsAt k (Some c) q) (sym waits) (subst (λ (b : Bool). IsAnsweredIf b a (Some c) q) (sym is_u) (answered_then a c p q first next))
