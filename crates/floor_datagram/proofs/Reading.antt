-- Messages that are taken one behind another.
use Rattle.std.proofs.Common.{◌≡◌, ℕ, suc, ◌+◌, ◌<◌, List, ◌∷◌, ◌++◌, length, drop, get_or, drop-cons, sym, ap, ◌∙◌, append_assoc, arith}
use Rattle.floor_datagram.specs.Session.{Session, message, messages_take}

-- the message at the front of those that are left
pub front-message : (ms : List (List ℕ)) (i : ℕ) (m : List ℕ) → i < length ms → m ≡ get_or ms i m → drop i ms ≡ m ∷ drop (i + 1) ms
front-message ms i m h e =
    let next : suc i ≡ i + 1 = omega arith in
    drop-cons ms i m h ∙ ap (λ x. x ∷ drop (suc i) ms) (sym e) ∙ ap (λ k. m ∷ drop k ms) next

-- one more is taken
pub after-more : (all : Session) (s t : Session) (now : ℕ) (left more : List (List ℕ)) (m : List ℕ)
    → all ≡ (messages_take s now left).after → left ≡ m ∷ more → t ≡ (message s now m).after → all ≡ (messages_take t now more).after
after-more all s t now left more m before front after =
    before ∙ ap (λ l. (messages_take s now l).after) front ∙ ap (λ (u : Session). (messages_take u now more).after) (sym after)

pub down-more : (all sent : List (List ℕ)) (s t : Session) (now : ℕ) (left more : List (List ℕ)) (m : List ℕ)
    → all ≡ sent ++ (messages_take s now left).down → left ≡ m ∷ more → t ≡ (message s now m).after
    → all ≡ (sent ++ (message s now m).down) ++ (messages_take t now more).down
down-more all sent s t now left more m before front after =
    before ∙ ap (λ l. sent ++ (messages_take s now l).down) front
    ∙ sym (append_assoc sent (message s now m).down (messages_take (message s now m).after now more).down)
    ∙ ap (λ (u : Session). (sent ++ (message s now m).down) ++ (messages_take u now more).down) (sym after)

pub sent-more : (old now next sent added : List (List ℕ)) → now ≡ old ++ sent → next ≡ now ++ added → next ≡ old ++ (sent ++ added)
sent-more old now next sent added before more = more ∙ ap (λ l. l ++ added) before ∙ append_assoc old sent added
