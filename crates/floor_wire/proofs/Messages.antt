-- What `messages` does at the front of a stream.
use Rattle.std.proofs.Common.{◌≡◌, ◌≢◌, ℕ, zero, suc, ◌+◌, ◌≤◌, ◌<◌, List, [], ◌∷◌, ◌++◌, length, take, drop, get_or, refl, sym, ◌∙◌, ap, subst, arith, inl, inr, append_assoc, length-append, length-drop}
use Rattle.std.proofs.lemmas.List.{take-append-drop, take_at, drop_at, length-take-le, append-nil, drop-drop, get_or-take, get_or_append_left}
use Rattle.std.proofs.lemmas.List.Elements.{All-cons, All-head, All-tail, All-nil}
use Rattle.std.proofs.lemmas.List.Folds.{concat-append}
use Rattle.std.proofs.lemmas.Bool.{le-leb, lt-leb}
use Rattle.std.proofs.lemmas.Bool.Decides.{leb_tells}
use Rattle.std.specs.List.{All, concat}
use Rattle.floor_wire.specs.Message.{message_len, IsMessage, messages_of_at_most, messages, rest, Divides}

step-none : (n : ℕ) (s : List ℕ) → length s < message_len s → messages_of_at_most (suc n) s ≡ []
unfolding messages_of_at_most
step-none n s h = let e = lt-leb (message_len s) (length s) h in rw e refl

step-whole : (n : ℕ) (s : List ℕ) → message_len s ≤ length s
    → messages_of_at_most (suc n) s ≡ take (message_len s) s ∷ messages_of_at_most n (drop (message_len s) s)
unfolding messages_of_at_most
step-whole n s h = let e = le-leb (message_len s) (length s) h in rw e refl

-- enough steps are enough
messages_of-enough : (n m : ℕ) (s : List ℕ) → length s ≤ n → length s ≤ m → messages_of_at_most n s ≡ messages_of_at_most m s
unfolding messages_of_at_most
messages_of-enough zero zero s hn hm = refl
messages_of-enough zero (suc m) s hn hm = sym (step-none m s (omega arith))
messages_of-enough (suc n) zero s hn hm = step-none n s (omega arith)
messages_of-enough (suc n) (suc m) s hn hm =
    elim (leb_tells (message_len s) (length s)) [
      | inl w ↦ step-whole n s w.1
          ∙ ap (λ ms. take (message_len s) s ∷ ms) (messages_of-enough n m (drop (message_len s) s)
          (omega (arith, w.1, length-drop (message_len s) s)) (omega (arith, w.1, length-drop (message_len s) s)))
          ∙ sym (step-whole m s w.1)
      | inr w ↦ step-none n s w.1 ∙ sym (step-none m s w.1)
    ]

one_more : (s : List ℕ) → messages s ≡ messages_of_at_most (suc (length s)) s
unfolding messages
one_more s = messages_of-enough (length s) (suc (length s)) s (omega arith) (omega arith)

pub messages-none : (s : List ℕ) → length s < message_len s → messages s ≡ []
messages-none s h = one_more s ∙ step-none (length s) s h

pub messages-whole : (s : List ℕ) → message_len s ≤ length s → messages s ≡ take (message_len s) s ∷ messages (drop (message_len s) s)
unfolding messages
messages-whole s h = one_more s ∙ step-whole (length s) s h
    ∙ ap (λ ms. take (message_len s) s ∷ ms) (messages_of-enough (length s) (length (drop (message_len s) s)) (drop (message_len s) s)
    (omega (arith, length-drop (message_len s) s)) (omega arith))

-- where none stands at the front, the stream is short
pub short_of_none : (s : List ℕ) → messages s ≡ [] → length s < message_len s
short_of_none s e = elim (leb_tells (message_len s) (length s)) [
  | inl w ↦ let whole = messages-whole s w.1 in absurd (cc)
  | inr w ↦ w.1
]

pub long_of_some : (s : List ℕ) → messages s ≢ [] → message_len s ≤ length s
long_of_some s some = elim (leb_tells (message_len s) (length s)) [ inl w ↦ w.1 | inr w ↦ absurd (some (messages-none s w.1)) ]

pub takes_first : (s frame left : List ℕ) → message_len s ≤ length s → frame ≡ take (message_len s) s → left ≡ drop (message_len s) s
    → (messages s ≡ frame ∷ messages left) × (s ≡ frame ++ left)
takes_first s frame left h f l = (messages-whole s h ∙ rw (f, l) refl, rw (f, l) (sym (take-append-drop (message_len s) s)))

-- the length that a stream tells stands in its first 4 bytes
message_len-take : (n : ℕ) (s : List ℕ) → 4 ≤ n → message_len (take n s) ≡ message_len s
message_len-take n s h =
    let high : get_or (take n s) 2 0 ≡ get_or s 2 0 = get_or-take n s 2 0 (omega arith) in
    let low : get_or (take n s) 3 0 ≡ get_or s 3 0 = get_or-take n s 3 0 (omega arith) in omega (arith, high, low)

message_len-append : (m t : List ℕ) → 4 ≤ length m → message_len (m ++ t) ≡ message_len m
message_len-append m t h =
    let high : get_or (m ++ t) 2 0 ≡ get_or m 2 0 = get_or_append_left m t 0 2 (omega arith) in
    let low : get_or (m ++ t) 3 0 ≡ get_or m 3 0 = get_or_append_left m t 0 3 (omega arith) in omega (arith, high, low)

-- what stands at the front is a message
pub IsMessage-take : (s : List ℕ) → message_len s ≤ length s → IsMessage (take (message_len s) s)
IsMessage-take s h = length-take-le (message_len s) s h ∙ sym (message_len-take (message_len s) s (omega arith))

pub messages-message : (m t : List ℕ) → IsMessage m → messages (m ++ t) ≡ m ∷ messages t
messages-message m t h =
    let len : message_len (m ++ t) ≡ length m = message_len-append m t (omega (arith, h)) ∙ sym h in
    let whole = messages-whole (m ++ t) (omega (arith, len, length-append m t)) in
    let front : take (message_len (m ++ t)) (m ++ t) ≡ m = take_at m t (message_len (m ++ t)) (sym len) in
    let back : drop (message_len (m ++ t)) (m ++ t) ≡ t = drop_at m t (message_len (m ++ t)) (sym len) in
    whole ∙ (rw (front, back) refl)

-- messages at the front come first
pub messages-concat : (ms : List (List ℕ)) (t : List ℕ) → All IsMessage ms → messages (concat ms ++ t) ≡ ms ++ messages t
messages-concat [] t h = refl
messages-concat (m ∷ ms) t h =
    rw (append_assoc m (concat ms) t)
    (messages-message m (concat ms ++ t) (All-head IsMessage m ms h) ∙ ap (λ x. m ∷ x) (messages-concat ms t (All-tail IsMessage m ms h)))

each_of : (n : ℕ) (s : List ℕ) → All IsMessage (messages_of_at_most n s)
unfolding messages_of_at_most
each_of zero s = All-nil IsMessage
each_of (suc n) s = elim (leb_tells (message_len s) (length s)) [
  | inl w ↦ rw (step-whole n s w.1) (All-cons IsMessage (take (message_len s) s) (messages_of_at_most n (drop (message_len s) s))
      (IsMessage-take s w.1) (each_of n (drop (message_len s) s)))
  | inr w ↦ rw (step-none n s w.1) (All-nil IsMessage)
]

pub messages_are_messages : (s : List ℕ) → All IsMessage (messages s)
unfolding messages
messages_are_messages s = each_of (length s) s

front_then_back : (len : ℕ) (s c : List ℕ) → len ≤ length s → drop len s ≡ c ++ drop (length c) (drop len s)
    → s ≡ (take len s ++ c) ++ drop (length (take len s ++ c)) s
front_then_back len s c h e =
    let size : length (take len s ++ c) ≡ len + length c = omega (arith, length-append (take len s) c, length-take-le len s h) in
    sym (take-append-drop len s)
    ∙ ap (λ x. take len s ++ x) (e ∙ ap (λ x. c ++ x) (drop-drop (length c) len s ∙ ap (λ n. drop n s) (sym size)))
    ∙ sym (append_assoc (take len s) c (drop (length (take len s ++ c)) s))

whole_of : (n : ℕ) (s : List ℕ) → s ≡ concat (messages_of_at_most n s) ++ drop (length (concat (messages_of_at_most n s))) s
whole_of zero s = unfold messages_of_at_most in refl
whole_of (suc n) s = elim (leb_tells (message_len s) (length s)) [
  | inl w ↦ rw (step-whole n s w.1) (front_then_back (message_len s) s (concat (messages_of_at_most n (drop (message_len s) s))) w.1
      (whole_of n (drop (message_len s) s)))
  | inr w ↦ rw (step-none n s w.1) refl
]

pub whole : (s : List ℕ) → s ≡ concat (messages s) ++ rest s
unfolding messages rest
whole s = whole_of (length s) s

-- the pieces of a stream give the messages of the stream
pub messages-append : (s t : List ℕ) → messages (s ++ t) ≡ messages s ++ messages (rest s ++ t)
messages-append s t =
    ap messages (ap (λ x. x ++ t) (whole s) ∙ append_assoc (concat (messages s)) (rest s) t)
    ∙ messages-concat (messages s) (rest s ++ t) (messages_are_messages s)

pub divides : (s : List ℕ) → Divides s (messages s) (rest s)
divides s = record {
  whole = whole s;
  each = messages_are_messages s;
  longest = λ others more each e.
      let same : messages s ≡ others ++ messages more = ap messages e ∙ messages-concat others more each in
      rw same (rw (concat-append others (messages more)) (omega (arith, length-append (concat others) (concat (messages more)))));
}

-- no other list divides the stream
pub only : (s : List ℕ) (ms : List (List ℕ)) (more : List ℕ) → Divides s ms more → ms ≡ messages s
only s ms more d =
    let same : messages s ≡ ms ++ messages more = ap messages d.whole ∙ messages-concat ms more d.each in
    let long : length (concat (messages s)) ≤ length (concat ms) = d.longest (messages s) (rest s) (messages_are_messages s) (whole s) in
    let none : messages more ≡ [] = elim (leb_tells (message_len more) (length more)) [
      | inl w ↦
          let first = messages-whole more w.1 in
          let sizes : length (concat (messages s)) ≡ length (concat ms) + length (concat (messages more))
          = rw same (rw (concat-append ms (messages more)) (length-append (concat ms) (concat (messages more)))) in
          let some : length (concat (messages more)) ≡ length (take (message_len more) more) + length (concat (messages (drop (message_len more) more)))
          = rw first (length-append (take (message_len more) more) (concat (messages (drop (message_len more) more)))) in
          absurd (omega (arith, sizes, some, long, w.1, length-take-le (message_len more) more w.1))
      | inr w ↦ messages-none more w.1
    ] in
    sym (same ∙ rw none (append-nil ms))

-- what is left of a stream that divides
pub only_rest : (s : List ℕ) (ms : List (List ℕ)) (more : List ℕ) → Divides s ms more → more ≡ rest s
only_rest s ms more d =
    let same : concat (messages s) ++ rest s ≡ concat (messages s) ++ more = sym (whole s) ∙ d.whole ∙ ap (λ x. concat x ++ more) (only s ms more d) in
    sym (drop_at (concat (messages s)) more (length (concat (messages s))) refl) ∙ ap (λ x. drop (length (concat (messages s))) x) (sym same)
    ∙ drop_at (concat (messages s)) (rest s) (length (concat (messages s))) refl

-- the messages of a stream, and those of what follows them, take the stream together
pub rest-append : (s t : List ℕ) → rest (s ++ t) ≡ rest (rest s ++ t)
rest-append s t =
    sym (only_rest (s ++ t) (messages s ++ messages (rest s ++ t)) (rest (rest s ++ t)) (record {
      whole = ap (λ x. x ++ t) (whole s) ∙ append_assoc (concat (messages s)) (rest s) t ∙ ap (λ x. concat (messages s) ++ x) (whole (rest s ++ t))
          ∙ sym (append_assoc (concat (messages s)) (concat (messages (rest s ++ t))) (rest (rest s ++ t)))
          ∙ ap (λ x. x ++ rest (rest s ++ t)) (sym (concat-append (messages s) (messages (rest s ++ t))));
      each = subst (λ (ms : List (List ℕ)). All IsMessage ms) (messages-append s t) (messages_are_messages (s ++ t));
      longest = λ others more each e. rw (← messages-append s t) ((divides (s ++ t)).longest others more each e);
    }))

cancelled : (front a b : List ℕ) → front ++ a ≡ front ++ b → a ≡ b
cancelled front a b e =
    sym (drop_at front a (length front) refl) ∙ ap (λ x. drop (length front) x) e ∙ drop_at front b (length front) refl

-- what is left behind a message at the front
pub rest-message : (m t : List ℕ) → IsMessage m → rest (m ++ t) ≡ rest t
rest-message m t h =
    cancelled (m ++ concat (messages t)) (rest (m ++ t)) (rest t)
    (ap (λ x. concat x ++ rest (m ++ t)) (sym (messages-message m t h)) ∙ sym (whole (m ++ t)) ∙ ap (λ x. m ++ x) (whole t)
    ∙ sym (append_assoc m (concat (messages t)) (rest t)))

-- what is left behind messages at the front
pub rest-concat : (ms : List (List ℕ)) (t : List ℕ) → All IsMessage ms → rest (concat ms ++ t) ≡ rest t
rest-concat [] t h = refl
rest-concat (m ∷ ms) t h =
    rw (append_assoc m (concat ms) t)
    (rest-message m (concat ms ++ t) (All-head IsMessage m ms h) ∙ rest-concat ms t (All-tail IsMessage m ms h))

-- what is left once the first message is taken off
pub rest-taken : (s left : List ℕ) → message_len s ≤ length s → left ≡ drop (message_len s) s → rest left ≡ rest s
rest-taken s left h l =
    ap rest l ∙ sym (rest-message (take (message_len s) s) (drop (message_len s) s) (IsMessage-take s h))
    ∙ ap rest (take-append-drop (message_len s) s)

no_more : (xs ys : List (List ℕ)) → xs ≡ xs ++ ys → ys ≡ []
no_more xs [] e = refl
no_more xs (y ∷ ys) e = absurd (omega (arith, ap length e, length-append xs (y ∷ ys)))

-- what is left holds no message
pub messages-rest : (s : List ℕ) → messages (rest s) ≡ []
messages-rest s =
    no_more (messages s) (messages (rest s)) (ap messages (whole s) ∙ messages-concat (messages s) (rest s) (messages_are_messages s))

-- what holds no message is left whole
pub rest-whole : (s : List ℕ) → messages s ≡ [] → rest s ≡ s
unfolding rest
rest-whole s e = ap (λ ms. drop (length (concat ms)) s) e
