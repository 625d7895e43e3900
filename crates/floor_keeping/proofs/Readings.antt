-- What stands in a file is read as its conference with its first events.
use Rattle.std.proofs.Common.{◌≡◌, ◌≤◌, ◌+◌, ℕ, Bool, true, false, List, [], ◌∷◌, ◌++◌, length, refl, sym, ◌∙◌, ap, subst, arith, append_assoc, length-append}
use Rattle.std.proofs.lemmas.List.{append-nil}
use Rattle.toml.specs.Data.{Members}
use Rattle.floor_config.specs.Configuration.{Configuration}
use Rattle.floor_machine.specs.declared.event.Event.{Event}
use Rattle.floor_kept.specs.Body.{is_one_line}
use Rattle.floor_kept.specs.File.{IsFile}
use Rattle.floor_kept.specs.Head.{IsHeadOf}
use Rattle.floor_kept.specs.Laws.{GoOn, IsReadAs, Turn, WrittenIsFile, journal_behind, turns_lines}
use Rattle.floor_keeping.specs.Kept.{begins}
use Rattle.floor_keeping.specs.Laws.{IsFront, events_behind}
use Rattle.floor_keeping.specs.Read.{IsKeptAs, WhatIsKeptIsRead}
use Rattle.floor_keeping.specs.Runs.{Past, begun, steps}
use Rattle.floor_keeping.specs.State.{asks_in_turn}
use Rattle.floor_keeping.specs.declared.policy.Policy.{Policy}
use Rattle.floor_keeping.specs.declared.state.Course.TheVariants as course
use Rattle.floor_keeping.specs.declared.state.Front.TheVariants as front
use Rattle.floor_keeping.proofs.Fronts as fronts

go_front : (before : List Event) (xs ys : List Turn) → GoOn before (xs ++ ys) → GoOn before xs
go_front before [] ys g = tt
go_front before (x ∷ xs) ys g = (g.0, g.1, g.2, go_front x.journal xs ys g.3)

go_back : (before : List Event) (xs ys : List Turn) → GoOn before (xs ++ ys) → GoOn (journal_behind before xs) ys
go_back before [] ys g = g
go_back before (x ∷ xs) ys g = go_back x.journal xs ys g.3

behind_both : (before : List Event) (xs ys : List Turn) → journal_behind before (xs ++ ys) ≡ journal_behind (journal_behind before xs) ys
behind_both before [] ys = refl
behind_both before (x ∷ xs) ys = behind_both x.journal xs ys

-- A journal goes on from another.
record GrowsTo (before after : List Event) : Type 0 where
  more : List Event
  is : after ≡ before ++ more

grows : (before : List Event) (ts : List Turn) → GoOn before ts → GrowsTo before (journal_behind before ts)
grows before [] g = record { more = []; is = sym (append-nil before) }
grows before (t ∷ ts) g =
    let r = grows t.journal ts g.3 in
    record { more = g.0.0 ++ r.more; is = r.is ∙ ap (λ (l : List Event). l ++ r.more) g.0.1 ∙ append_assoc before g.0.0 r.more }

grows_both : (before : List Event) (xs ys : List Turn) → GoOn before (xs ++ ys) → GrowsTo (journal_behind before xs) (journal_behind before (xs ++ ys))
grows_both before xs ys g =
    let r = grows (journal_behind before xs) ys (go_back before xs ys g) in
    record { more = r.more; is = behind_both before xs ys ∙ r.is }

count_behind : (before : List Event) (ts : List Turn) → events_behind (length before) ts ≡ length (journal_behind before ts)
count_behind before [] = refl
count_behind before (t ∷ ts) = count_behind t.journal ts

within : (a b : List Event) (k : ℕ) → GrowsTo a b → k ≡ length a → k ≤ length b
within a b k g e =
    let l : length b ≡ length a + length g.more = ap (λ (es : List Event). length es) g.is ∙ length-append a g.more in
    omega (arith, l, e)

-- the bytes, as floor_kept's law has them
bytes-same : (head texts torn : List ℕ) → head ++ ((texts ++ []) ++ torn) ≡ head ++ (texts ++ torn)
bytes-same head texts torn = ap (λ (l : List ℕ). head ++ (l ++ torn)) (append-nil texts)

read_front : (conference : Members) (head : List ℕ) (config : Configuration) (torn : List ℕ) (p : Policy) (past : Past) → WrittenIsFile → IsHeadOf conference head config → is_one_line torn ≡ true → GoOn [] past.turns → IsFront p 0 past
    → IsKeptAs config (head ++ (past.texts ++ torn)) past
read_front conference head config torn p past written is one go f =
    let on : GoOn [] (f.done ++ f.behind) = subst (λ (ts : List Turn). GoOn [] ts) f.parts go in
    let first : GoOn [] f.done = go_front [] f.done f.behind on in
    let grown = grows_both [] f.done f.behind on in
    let same : head ++ ((turns_lines 0 f.done ++ []) ++ torn) ≡ head ++ (past.texts ++ torn) =
    bytes-same head (turns_lines 0 f.done) torn ∙ ap (λ (l : List ℕ). head ++ (l ++ torn)) (sym f.written.bytes_are) in
    let law = written conference head config f.done false torn is first one in
    let count : past.file.state.written ≡ length (journal_behind [] f.done) = f.written.count_is ∙ count_behind [] f.done in
    let on_disk : GoOn [] (f.on_disk ++ f.later) = subst (λ (ts : List Turn). GoOn [] ts) f.on_disk_parts first in
    let kept_grown : GrowsTo (journal_behind [] f.on_disk) (journal_behind [] f.done) =
    subst (λ (ts : List Turn). GrowsTo (journal_behind [] f.on_disk) (journal_behind [] ts)) (sym f.on_disk_parts) (grows_both [] f.on_disk f.later on_disk) in
    record {
      journal = journal_behind [] f.done;
      more = grown.more;
      first = ap (λ (ts : List Turn). journal_behind [] ts) f.parts ∙ grown.is;
      count = count;
      kept = by (asks_in_turn p.syncing) refl kept_grown count;
      entries = law.0.0;
      head_lines = law.0.1;
      stands = law.0.2;
      file = subst (λ (bytes : List ℕ). IsFile bytes config law.0.0 law.0.1 law.0.2) same law.0.3;
      read = subst (λ (bytes : List ℕ). IsReadAs bytes config (journal_behind [] f.done)) same law.1;
    }
  where
    by : (b : Bool) → asks_in_turn p.syncing ≡ b → GrowsTo (journal_behind [] f.on_disk) (journal_behind [] f.done) → past.file.state.written ≡ length (journal_behind [] f.done)
        → past.file.state.kept ≤ length (journal_behind [] f.done)
    by false e grown count = let all = f.at_once e ∙ count in omega (arith, all)
    by true e grown count = within (journal_behind [] f.on_disk) (journal_behind [] f.done) past.file.state.kept grown ((f.synced e).count_is ∙ count_behind [] f.on_disk)

pub law : WrittenIsFile → WhatIsKeptIsRead
law written p conference head config ss torn is one go =
    read_front conference head config torn p (steps p ss (begun (begins head))) written is one go (fronts.law p 0 front.New course.GoesOn head ss)
