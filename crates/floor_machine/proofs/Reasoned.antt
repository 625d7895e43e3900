-- What a chair's reason leaves of the requests.
use Rattle.std.proofs.Common.{◌≡◌, ℕ, List, [], ◌∷◌, map, Option, Some, None, refl, ◌∙◌, ap}
use Rattle.std.specs.Prelude.{IfSome}
use Rattle.floor_queue.specs.declared.request.Request.{Request}
use Rattle.floor_queue.specs.Queue.{Queue, IsQueue, IsReason, is_ascending, numbers_of, with_reason}
use Rattle.floor_queue.proofs.Kept.{is_ascending-map}
use Rattle.floor_queue.proofs.Reasons.{IsQueue-set_reason, number-with_reason}
use Rattle.floor_machine.specs.Change.{reasoned_among}

numbers-with : (k : ℕ) (reason : List ℕ) (rs : List Request) → numbers_of (map (with_reason k reason) rs) ≡ numbers_of rs
numbers-with k reason [] = refl
numbers-with k reason (r ∷ rs) =
    ap (λ (n : ℕ). n ∷ numbers_of (map (with_reason k reason) rs)) (number-with_reason k reason r) ∙ ap (λ (ns : List ℕ). r.number ∷ ns) (numbers-with k reason rs)

-- each keeps its number
pub numbers-reasoned : (k : ℕ) (reason : Option (List ℕ)) (rs : List Request) → numbers_of (reasoned_among k reason rs) ≡ numbers_of rs
numbers-reasoned k None rs = refl
numbers-reasoned k (Some reason) rs = numbers-with k reason rs

pub ascending-reasoned : (k : ℕ) (reason : Option (List ℕ)) (rs : List Request) → is_ascending (reasoned_among k reason rs) ≡ is_ascending rs
ascending-reasoned k None rs = refl
ascending-reasoned k (Some reason) rs = is_ascending-map (with_reason k reason) (number-with_reason k reason) rs

-- and stays what a queue keeps
pub queue-reasoned : (q : Queue) (k : ℕ) (reason : Option (List ℕ)) → IfSome reason IsReason → IsQueue q → IsQueue (record q { ongoing = reasoned_among k reason q.ongoing })
queue-reasoned q k None fits h = h
queue-reasoned q k (Some reason) fits h = IsQueue-set_reason q k reason fits h
