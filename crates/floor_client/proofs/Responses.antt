-- The next number, and the response to what is asked under it.
use Rattle.std.proofs.Common.{◌≡◌, ℕ, ◌+◌, ◌%◌, ◌<◌, ◌≤◌, Bool, true, false, ◌||◌, eqb, List, Some, refl, sym, ap, subst, ◌∙◌, inl, inr, arith}
use Rattle.std.proofs.Math.Nat.{eq-or-lt_of_le}
use Rattle.std.proofs.lemmas.Bool.{cases_lt, ne_eqb, eq-eqb}
use Rattle.floor_message.specs.Fits.{HeadFits, TellFits}
use Rattle.floor_message.specs.Laws.{WrittenTellIsRead}
use Rattle.floor_message.specs.Tell.{tell}
use Rattle.floor_message.specs.Written.{tell_bytes}
use Rattle.floor_message.specs.declared.ask.Ask.{Ask}
use Rattle.floor_message.specs.declared.head.Head.{Head}
use Rattle.floor_message.specs.declared.tell.Tell.{Tell}
use Rattle.floor_client.proofs.Numbering.{any-insert_key, any-restored}
use Rattle.floor_client.specs.Client.{Client, Asks, head_of, heard_of, hearing}
use Rattle.floor_client.specs.Laws.{ResponseIsHeard, ResponseRestores}
use Rattle.floor_client.specs.Transactions.{Transactions, IsNext, IsFull, is_open, number_after, opened}
use Rattle.floor_client.specs.declared.heard.Heard.{Heard}
use Rattle.floor_client.specs.declared.heard.Heard.TheVariants.{Reply}

-- the next number is one of 1 to 65,535
pub next_in_range : (t : Transactions) (number : ℕ) → IsNext t number → (0 < number) × (number ≤ 65535)
next_in_range t number next = let behind = next.behind in (omega (arith, behind), omega (arith, behind))

-- a next number has no other before it that is free too
not_before : (t : Transactions) (a b : ℕ) (earlier : IsNext t a) (later : IsNext t b) → earlier.places < later.places → ⊥
not_before t a b earlier later before =
    let IsOpen : ℕ → Type 0 = λ n. is_open t.open_numbers n ≡ true in
    let open_too : is_open t.open_numbers a ≡ true = subst IsOpen (sym earlier.behind) (later.first earlier.places before) in
    let bad : false ≡ true = sym earlier.free ∙ open_too in cc

-- no two numbers are next
pub next_is_only : (t : Transactions) (a b : ℕ) → IsNext t a → IsNext t b → a ≡ b
next_is_only t a b next_a next_b =
    elim (cases_lt next_a.places next_b.places) [
      | inl before ↦ absurd (not_before t a b next_a next_b before)
      | inr up_to ↦ elim (eq-or-lt_of_le up_to) [
        | inl same ↦ next_a.behind ∙ ap (λ (places : ℕ). number_after t.last places) (sym same) ∙ sym next_b.behind
        | inr before ↦ absurd (not_before t b a next_b next_a before)
      ]
    ]

-- where all are open none is next
pub none_is_next : (t : Transactions) (number : ℕ) → IsFull t → IsNext t number → ⊥
none_is_next t number full next =
    let range = next_in_range t number next in
    let bad : false ≡ true = sym next.free ∙ full number range.0 range.1 in cc

-- a message under an open number is the response to it
heard_of-response : (client : Client) (number : ℕ) (answer : Tell) → 0 < number → is_open client.transactions.open_numbers number ≡ true
    → heard_of client (Some (head_of client number, answer)) ≡ Reply number answer
heard_of-response client number answer some open_number =
    let conference = eq-eqb client.conference client.conference refl in
    let user = eq-eqb client.user client.user refl in
    let no_notice = ne_eqb number 0 (λ zero. omega arith) in
    rw (conference, user, no_notice, open_number) refl

-- what is told under an open number is the response to it
pub response_is_heard : WrittenTellIsRead → ResponseIsHeard
response_is_heard is_read client number answer head_fits fits some open_number =
    ap (heard_of client) (is_read (head_of client number) answer head_fits fits) ∙ heard_of-response client number answer some open_number

-- the response to what was asked leaves the open numbers as they were
pub response_restores : WrittenTellIsRead → ResponseRestores
response_restores is_read old ask frame new asks answer head_fits fits =
    let number = asks.number in
    let range = next_in_range old.transactions number asks.next in
    let asked : Client = record old { transactions = opened old.transactions number } in
    let open_number : is_open asked.transactions.open_numbers number ≡ true =
    any-insert_key number number old.transactions.open_numbers ∙ ap (λ (b : Bool). b || is_open old.transactions.open_numbers number) (eq-eqb number number refl) in
    let Heard_as : Client → Type 0 = λ c. heard_of c (tell (tell_bytes (head_of old number) answer)) ≡ Reply number answer in
    let heard = subst Heard_as (sym asks.after) (response_is_heard is_read asked number answer head_fits fits range.0 open_number) in
    let Restored : Client → Heard → Type 0 = λ c h. (other : ℕ) → is_open (hearing c h).transactions.open_numbers other ≡ is_open old.transactions.open_numbers other in
    let restored : Restored asked (Reply number answer) = λ other. any-restored number other old.transactions.open_numbers asks.next.free in
    (heard, subst (λ (h : Heard). Restored new h) (sym heard) (subst (λ (c : Client). Restored c (Reply number answer)) (sym asks.after) restored))
