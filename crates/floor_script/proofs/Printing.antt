-- What a line prints, and what it leaves.
use Rattle.std.proofs.Common.{◌≡◌, ◌≢◌, ℕ, Bool, true, false, List, sym, ◌∙◌, ap, subst, inl, inr}
use Rattle.std.specs.Prelude.{Option, Result, Ok, Err, MatchResult}
use Rattle.std.specs.Io.KnownBytes.{Appends}
use Rattle.std.proofs.KnownBytes.{Appends-nil}
use Rattle.floor_script.specs.Line.{Reads, command_of}
use Rattle.floor_script.specs.Names.{name_of_line_fault}
use Rattle.floor_script.specs.Run.{Said, error_line, is_silent, said, said_aloud, said_by}
use Rattle.floor_script.specs.State.{State}
use Rattle.floor_script.specs.Written.{Began}
use Rattle.floor_script.specs.declared.fault.RunFault.{RunFault}
use Rattle.floor_script.specs.declared.fault.RunFault.TheVariants as fault_of
use Rattle.floor_script.specs.declared.conferences.Conferences.{Conferences}
use Rattle.floor_script.specs.declared.line.Command.{Command}
use Rattle.floor_script.specs.declared.line.LineFault.{LineFault}
use Rattle.floor_script.specs.declared.line.LineFault.TheVariants.{Memory}
use Rattle.floor_script.specs.steps.Running.{LeavesLine, LeavesText, Refuses, Runs, Stopped}
use Rattle.floor_script.specs.steps.Standing.{Does, Stands}

-- a line that says nothing
pub runs_silent : (number : ℕ) (line : List ℕ) (c : Conferences) (is : Option (List ℕ)) → is_silent line ≡ true → Runs number line c c is is
unfolding said
runs_silent number line c is silent = record {
  goes_on = λ s h. ap (λ (b : Bool). (said_aloud b s number line).is_refused) silent;
  leads = λ s h. subst (λ (b : Bool). Stands c (said_aloud b s number line).state) (sym silent) h;
  printed = λ s h. subst (λ (b : Bool). Appends is is (said_aloud b s number line).text) (sym silent) (Appends-nil is);
}

says : (s : State) (number : ℕ) (line : List ℕ) (r : Result Command LineFault) → is_silent line ≡ false → command_of line ≡ r → said s number line ≡ said_by s number r
unfolding said
says s number line r loud e = ap (λ (b : Bool). said_aloud b s number line) loud ∙ ap (said_by s number) e

ok_is : (a b : Command) → ◌≡◌ {A = Result Command LineFault} (Ok a) (Ok b) → a ≡ b
ok_is a b e = cc

read_ok : (line : List ℕ) (command : Command) → Reads (command_of line) (Ok command) → command_of line ≡ Ok command
read_ok line command (inl e) = sym e
read_ok line command (inr e) = cc

err_is : (a b : LineFault) → ◌≡◌ {A = Result Command LineFault} (Err a) (Err b) → a ≡ b
err_is a b e = cc

read_err : (line : List ℕ) (fault : LineFault) → fault ≢ Memory → Reads (command_of line) (Err fault) → command_of line ≡ Err fault
read_err line fault ne (inl e) = sym e
read_err line fault ne (inr e) = absurd (ne (err_is fault Memory e))

-- a line with a command
pub runs_command : (number : ℕ) (line : List ℕ) (command : Command) (a b : Conferences) (text : List ℕ) (is then_is : Option (List ℕ)) → is_silent line ≡ false → Reads (command_of line) (Ok command) → Does command a b text →
    Appends is then_is text → Runs number line a b is then_is
runs_command number line command a b text is then_is loud read does grew =
    let e : command_of line ≡ Ok command = read_ok line command read in record {
      goes_on = λ s h. ap (λ (r : Said). r.is_refused) (says s number line (Ok command) loud e);
      leads = λ s h. subst (λ (r : Said). Stands b r.state) (sym (says s number line (Ok command) loud e)) (does.leads s h);
      printed = λ s h. subst (λ (r : Said). Appends is then_is r.text) (sym (says s number line (Ok command) loud e)) (subst (λ (l : List ℕ). Appends is then_is l) (does.text_is s h) grew);
    }

-- whose writing failed
pub stopped_command : (number : ℕ) (line : List ℕ) (command : Command) (a b : Conferences) (text : List ℕ) (is then_is : Option (List ℕ)) → is_silent line ≡ false → Reads (command_of line) (Ok command) → Does command a b text →
    Began is then_is text → Stopped number line a is then_is
stopped_command number line command a b text is then_is loud read does began =
    let e : command_of line ≡ Ok command = read_ok line command read in record {
      printed = λ s h. subst (λ (r : Said). Began is then_is r.text) (sym (says s number line (Ok command) loud e)) (subst (λ (l : List ℕ). Began is then_is l) (does.text_is s h) began);
    }

-- a line that asks for nothing
pub refuses_line : (number : ℕ) (line : List ℕ) (fault : LineFault) (a : Conferences) (is then_is : Option (List ℕ)) → is_silent line ≡ false → fault ≢ Memory → Reads (command_of line) (Err fault) →
    Appends is then_is (error_line number (name_of_line_fault fault)) → Refuses number line a is then_is
refuses_line number line fault a is then_is loud ne read grew =
    let e : command_of line ≡ Err fault = read_err line fault ne read in record {
      refused = λ s h. ap (λ (r : Said). r.is_refused) (says s number line (Err fault) loud e);
      printed = λ s h. subst (λ (r : Said). Appends is then_is r.text) (sym (says s number line (Err fault) loud e)) grew;
    }

pub stopped_line : (number : ℕ) (line : List ℕ) (fault : LineFault) (a : Conferences) (is then_is : Option (List ℕ)) → is_silent line ≡ false → fault ≢ Memory → Reads (command_of line) (Err fault) →
    Began is then_is (error_line number (name_of_line_fault fault)) → Stopped number line a is then_is
stopped_line number line fault a is then_is loud ne read began =
    let e : command_of line ≡ Err fault = read_err line fault ne read in record {
      printed = λ s h. subst (λ (r : Said). Began is then_is r.text) (sym (says s number line (Err fault) loud e)) began;
    }

-- what the writing of a line's text leaves
pub leaves_command : (result : Result (Unit {0}) RunFault) (number : ℕ) (line : List ℕ) (command : Command) (a b : Conferences) (text shown : List ℕ) (was is : Option (List ℕ)) → is_silent line ≡ false → Reads (command_of line) (Ok command) →
    Does command a b text → shown ≡ text → MatchResult result (λ _. Appends was is shown) (λ fault. (fault ≡ fault_of.CannotWrite) × Began was is shown) → MatchResult result (λ _. Runs number line a b was is) (λ fault. LeavesLine fault number line a was is)
leaves_command (Ok v) number line command a b text shown was is loud read does e h = runs_command number line command a b text was is loud read does (subst (λ (l : List ℕ). Appends was is l) e h)
leaves_command (Err fault) number line command a b text shown was is loud read does e h =
    subst (λ (f : RunFault). LeavesLine f number line a was is) (sym h.0) (stopped_command number line command a b text was is loud read does (subst (λ (l : List ℕ). Began was is l) e h.1))

-- what the writing of a fault leaves
pub leaves_text : (fault : RunFault) (text shown : List ℕ) (was is : Option (List ℕ)) → shown ≡ text → (fault ≡ fault_of.CannotWrite) × Began was is shown → LeavesText fault text was is
leaves_text fault text shown was is e h = subst (λ (f : RunFault). LeavesText f text was is) (sym h.0) (subst (λ (l : List ℕ). Began was is l) e h.1)

-- what a line leaves that asks for nothing
pub leaves_line : (result : Result (Unit {0}) RunFault) (number : ℕ) (line : List ℕ) (fault : LineFault) (name : List ℕ) (was is : Option (List ℕ)) → (fault ≡ Memory → ⊥) → name ≡ name_of_line_fault fault →
    MatchResult result (λ _. ⊥) (λ left. LeavesText left (error_line number name) was is) →
    MatchResult result (λ _. ⊥) (λ left. (c : Conferences) → is_silent line ≡ false → Reads (command_of line) (Err fault) → LeavesLine left number line c was is)
leaves_line (Ok v) number line fault name was is ne e h = h
leaves_line (Err fault_of.Refused) number line fault name was is ne e h = λ c loud read. refuses_line number line fault c was is loud ne read (subst (λ (n : List ℕ). Appends was is (error_line number n)) e h)
leaves_line (Err fault_of.CannotRead) number line fault name was is ne e h = absurd h
leaves_line (Err fault_of.CannotWrite) number line fault name was is ne e h = λ c loud read. stopped_line number line fault c was is loud ne read (subst (λ (n : List ℕ). Began was is (error_line number n)) e h)
leaves_line (Err fault_of.Memory) number line fault name was is ne e h = λ c loud read. h

-- an answer that is no success
pub never_ok : (result : Result (Unit {0}) RunFault) (P : Type 0) (Q R : RunFault → Type 0) → MatchResult result (λ _. ⊥) Q → ((fault : RunFault) → Q fault → R fault) → MatchResult result (λ _. P) R
never_ok (Ok v) P Q R h f = absurd h
never_ok (Err fault) P Q R h f = f fault h

pub refuse_as : (result : Result (Unit {0}) RunFault) (a b : List ℕ) (was is : Option (List ℕ)) → a ≡ b → MatchResult result (λ _. ⊥) (λ fault. LeavesText fault a was is) → MatchResult result (λ _. ⊥) (λ fault. LeavesText fault b was is)
refuse_as result a b was is e h = subst (λ (l : List ℕ). MatchResult result (λ _. ⊥) (λ fault. LeavesText fault l was is)) e h
