-- What becomes of an exchange of which bytes came.
use Rattle.std.proofs.Common.{◌≡◌, ℕ, List, [], ◌++◌, ap, ◌∙◌, refl, subst}
use Rattle.std.specs.Prelude.{Bool, true, false, Option, Some, None, Result, Ok, Err}
use Rattle.floor_http.specs.declared.head.Asked.{Asked}
use Rattle.floor_http.specs.declared.head.Unasked.{Unasked}
use Rattle.floor_http.specs.Heads.{Reads}
use Rattle.floor_http.specs.Exchanges.{Exchange, Came, read, answered, heard, plain, reply, status_of}

-- an exchange by its parts
abbrev exchange : (came : List ℕ) → (is_asked : Bool) → (answer : List ℕ) → (taken : ℕ) → Exchange
exchange came is_asked answer taken = record { came = came; is_asked = is_asked; answer = answer; taken = taken }

-- what is read of the bytes of a buffer is read of those before and those that came
reads_of : (before bytes held seen : List ℕ) (reading : Option (Result Asked Unasked))
    → held ≡ before ++ bytes → seen ≡ held → Reads seen reading → Reads (before ++ bytes) reading
reads_of before bytes held seen reading grown same reads = subst (λ (xs : List ℕ). Reads xs reading) (same ∙ grown) reads

pub came_more : (before bytes held seen answer : List ℕ) (is_asked : Bool) (taken : ℕ)
    → is_asked ≡ false → held ≡ before ++ bytes → seen ≡ held → Reads seen None
    → Came (exchange before is_asked answer taken) bytes None (exchange held is_asked answer taken)
came_more before bytes held seen answer is_asked taken off grown same reads =
    read None off (reads_of before bytes held seen None grown same reads) refl (ap (λ (xs : List ℕ). exchange xs is_asked answer taken) grown)

pub came_asked : (before bytes held seen answer : List ℕ) (is_asked : Bool) (taken : ℕ) (asked : Asked)
    → is_asked ≡ false → held ≡ before ++ bytes → seen ≡ held → Reads seen (Some (Ok asked))
    → Came (exchange before is_asked answer taken) bytes (Some asked) (exchange held true answer taken)
came_asked before bytes held seen answer is_asked taken asked off grown same reads =
    read (Some (Ok asked)) off (reads_of before bytes held seen (Some (Ok asked)) grown same reads) refl (ap (λ (xs : List ℕ). exchange xs true answer taken) grown)

-- it is answered why nothing is asked
pub came_refused : (before bytes held seen answer status : List ℕ) (is_asked : Bool) (taken : ℕ) (why : Unasked) (after : Exchange)
    → is_asked ≡ false → held ≡ before ++ bytes → seen ≡ held → Reads seen (Some (Err why)) → status ≡ status_of why
    → after ≡ answered (exchange held is_asked answer taken) (reply status plain [])
    → Came (exchange before is_asked answer taken) bytes None (exchange after.came true after.answer after.taken)
came_refused before bytes held seen answer status is_asked taken why after off grown same reads named said =
    read (Some (Err why)) off (reads_of before bytes held seen (Some (Err why)) grown same reads) refl
    (ap (λ (e : Exchange). exchange e.came true e.answer e.taken) said
    ∙ (ap (λ (xs : List ℕ). exchange xs true (answer ++ reply status plain []) taken) grown
    ∙ ap (λ (s : List ℕ). exchange (before ++ bytes) true (answer ++ reply s plain []) taken) named))
