use Rattle.std.proofs.Common.{◌≡◌, ◌<◌, ◌^◌, ◌∙◌, List, ℕ, Bor, map, sym, ap, arith}
use Rattle.std.proofs.lemmas.Result.{IfOk-weaker}
use Rattle.std.specs.Prelude.{Option, None}
use Rattle.std.specs.Option.{IfSome}
use Rattle.floor_kept.proofs.Found.{checked_found, checked_none, nothing}
use Rattle.floor_kept.specs.Entries.{IsLineOf}
use Rattle.floor_kept.specs.declared.entry.Entry.{Entry}
use Rattle.floor_kept.specs.steps.Parsed.{checked}
use Rattle.floor_kept.proofs.reading.read_entry.Goals as goal

pub returns-in-None-clause-none : goal.returns-in-None-clause-none
returns-in-None-clause-none c = λ _ entry h.
    nothing c.words_are_read_back.ensures c.numbers_are_read_back.ensures c.args.place c.args.text.now (map (λ (w : Bor (List ℕ)). w.now) c.deref.result.now) (omega arith)
    (ap (map (λ (w : Bor (List ℕ)). w.now)) c.deref.ensures.value ∙ c.in_ok-words.ensures) (rw c.in-None.is at c.in_ok-entry_of.ensures) entry h

pub returns-clause-found : goal.returns-clause-found
returns-clause-found c =
    let place = c.args.place in
    let text = c.args.text.now in
    let said = rw c.in-Some.is at c.in_ok-entry_of.ensures in
    IfOk-weaker c.checked.result (λ (o : Option Entry). o ≡ checked place text c.in-Some.entry) (λ (o : Option Entry). IfSome o (IsLineOf place text))
    (λ o e. checked_found place text c.in-Some.entry (map (λ (w : Bor (List ℕ)). w.now) c.deref.result.now) o said e) c.checked.ensures

pub returns-clause-none : goal.returns-clause-none
returns-clause-none c =
    let place = c.args.place in
    let text = c.args.text.now in
    let said = rw c.in-Some.is at c.in_ok-entry_of.ensures in
    let few : place < 2 ^ 32 = omega arith in
    IfOk-weaker c.checked.result (λ (o : Option Entry). o ≡ checked place text c.in-Some.entry) (λ (o : Option Entry). o ≡ None → (entry : Entry) → IsLineOf place text entry → ⊥)
    (λ o e none entry h.
    checked_none c.words_are_read_back.ensures c.numbers_are_read_back.ensures place text (map (λ (w : Bor (List ℕ)). w.now) c.deref.result.now) c.in-Some.entry few
    (ap (map (λ (w : Bor (List ℕ)). w.now)) c.deref.ensures.value ∙ c.in_ok-words.ensures) said (sym none ∙ e) entry h)
    c.checked.ensures
