-- Conferences are opened, and lines run, one after another.
use Rattle.std.proofs.Common.{◌≡◌, ◌≢◌, ℕ, ◌+◌, Bool, true, false, List, [], ◌∷◌, ◌++◌, map, refl, sym, ◌∙◌, ap, subst, append_assoc, append-nil}
use Rattle.std.specs.Prelude.{Option, Result, Ok, Err, MatchResult}
use Rattle.std.specs.Io.KnownBytes.{Appends}
use Rattle.std.proofs.KnownBytes.{Appends-nil, Appends-trans}
use Rattle.std.specs.Str.Lines.{lines}
use Rattle.floor_config.specs.Configuration.{Configuration}
use Rattle.floor_config.specs.Names.{name_of}
use Rattle.floor_config.specs.Outcome.{Fails}
use Rattle.floor_config.specs.declared.fault.ConfigFault.{ConfigFault}
use Rattle.floor_config.specs.declared.fault.ConfigFault.TheVariants as config
use Rattle.floor_hub.specs.declared.step.Step.TheVariants.{Open}
use Rattle.floor_hub.specs.Runs.{run}
use Rattle.floor_script.specs.Run.{Leaves, Outcome, Ran, behind_line, configurations, error_line, outcome_of, outcome_with, printed_from, said}
use Rattle.floor_script.specs.Script.{configuration_of, lines_passed, script_of}
use Rattle.floor_script.specs.State.{State, begun}
use Rattle.floor_script.specs.Written.{Began}
use Rattle.floor_script.specs.declared.fault.RunFault.{RunFault}
use Rattle.floor_script.specs.declared.fault.RunFault.TheVariants as fault_of
use Rattle.floor_script.specs.declared.conferences.Conferences.{Conferences}
use Rattle.floor_script.specs.steps.Running.{AreOpened, LeavesLine, LeavesText, Refuses, Runs, Stopped, opened_all}
use Rattle.floor_script.specs.steps.Standing.{Leads, Stands, opened}
use Rattle.floor_script.proofs.Growing.{began_more, began_none}

-- conferences and one more
opened_behind : (some : List Configuration) (config : Configuration) (s : State) → opened_all (some ++ config ∷ []) s ≡ opened config (opened_all some s)
opened_behind [] config s = refl
opened_behind (x ∷ some) config s = opened_behind some config (opened x s)

-- no conference yet
pub opened_none : (c : Conferences) → Leads (opened_all []) c c
opened_none c = record { leads = λ s h. h }

-- one conference more
pub opened_more : (some : List Configuration) (config : Configuration) (a b c : Conferences) → Leads (opened_all some) a b → Leads (opened config) b c → Leads (opened_all (some ++ config ∷ [])) a c
opened_more some config a b c p q = record { leads = λ s h. subst (Stands c) (sym (opened_behind some config s)) (q.leads (opened_all some s) (p.leads s h)) }

-- the world behind them
opened_world : (configs : List Configuration) (s : State) → opened_all configs s ≡ record { world = run s.world (map Open configs); printed = s.printed; lives = s.lives }
opened_world [] s = refl
opened_world (config ∷ more) s = opened_world more (opened config s)

-- the demonstration's conference was opened
pub opened_one : (config demonstration : Configuration) (a b : Conferences) → config ≡ demonstration → Leads (opened config) a b → AreOpened (Ok (demonstration ∷ [])) a b
opened_one config demonstration a b e p = record { leads = λ s h. subst (λ (x : Configuration). Stands b (opened x s)) e (p.leads s h) }

-- a fault that was found
fails_as : {A : Type 0} (fault : ConfigFault) (found : Result A ConfigFault) → fault ≢ config.Memory → Fails fault found → found ≡ Err fault
fails_as config.Memory found ne h = absurd (ne refl)
fails_as fault found ne h = h

-- The conferences stand for a state, and what was printed, with what the lines that are left print, is what the text prints.
pub record Far (text : List ℕ) (c : Conferences) (read : ℕ) (rest : List ℕ) (was is : Option (List ℕ)) : Type 0 where
  pub s : State
  pub stands : Stands c s
  pub told : List ℕ
  pub printed : Appends was is told
  pub left : (outcome_of text).printed ≡ told ++ (printed_from (lines rest) (read + 1) s).printed
  pub refused : (outcome_of text).is_refused ≡ (printed_from (lines rest) (read + 1) s).is_refused

-- the outcome of a text whose configuration is read
outcome_ok : (text : List ℕ) (configs : List Configuration) → configurations (configuration_of text) ≡ Ok configs → outcome_of text ≡ printed_from (lines (script_of text)) (lines_passed text + 1) (begun configs)
unfolding outcome_of
outcome_ok text configs e = ap (λ (r : Result (List Configuration) ConfigFault). outcome_with r text) e

-- and of one whose configuration is refused
outcome_err : (text : List ℕ) (fault : ConfigFault) → configurations (configuration_of text) ≡ Err fault → outcome_of text ≡ record { printed = error_line 0 (name_of fault); is_refused = true }
unfolding outcome_of
outcome_err text fault e = ap (λ (r : Result (List Configuration) ConfigFault). outcome_with r text) e

-- no line was run yet
pub far_begun : (text : List ℕ) (given : Option (List ℕ)) (a b : Conferences) (read : ℕ) (rest : List ℕ) (was : Option (List ℕ)) → Stands a (begun []) → given ≡ configuration_of text → AreOpened (configurations given) a b → rest ≡ script_of text → read ≡ lines_passed text →
    Far text b read rest was was
far_begun text given a b read rest was stands given_is opened_are rest_is read_is =
    by (configurations (configuration_of text)) refl (subst (λ (o : Option (List ℕ)). AreOpened (configurations o) a b) given_is opened_are)
  where
    by : (r : Result (List Configuration) ConfigFault) → configurations (configuration_of text) ≡ r → AreOpened r a b → Far text b read rest was was
    by (Err fault) e o = absurd o
    by (Ok configs) e o =
        let whole : outcome_of text ≡ printed_from (lines rest) (read + 1) (begun configs) =
        outcome_ok text configs e ∙ ap (λ (l : List ℕ). printed_from (lines l) (lines_passed text + 1) (begun configs)) (sym rest_is)
        ∙ ap (λ (n : ℕ). printed_from (lines rest) (n + 1) (begun configs)) (sym read_is) in record {
          s = begun configs;
          stands = subst (Stands b) (opened_world configs (begun [])) (o.leads (begun []) stands);
          told = [];
          printed = Appends-nil was;
          left = ap (λ (o : Outcome). o.printed) whole;
          refused = ap (λ (o : Outcome). o.is_refused) whole;
        }

-- a line that goes on is printed first
behind_said : (text : List ℕ) (below : Outcome) (b : Bool) → b ≡ false → (behind_line b text below).printed ≡ text ++ below.printed
behind_said text below false e = refl
behind_said text below true e = cc

-- and refuses nothing
behind_goes : (text : List ℕ) (below : Outcome) (b : Bool) → b ≡ false → (behind_line b text below).is_refused ≡ below.is_refused
behind_goes text below false e = refl
behind_goes text below true e = cc

-- one that is refused is the last
behind_ends : (text : List ℕ) (below : Outcome) (b : Bool) → b ≡ true → behind_line b text below ≡ record { printed = text; is_refused = true }
behind_ends text below true e = refl
behind_ends text below false e = cc

-- one line more
pub far_more : (text line : List ℕ) (a b : Conferences) (number read then_read : ℕ) (rest then_rest : List ℕ) (was is then_is : Option (List ℕ)) → Far text a read rest was is → lines rest ≡ line ∷ lines then_rest → number ≡ read + 1 →
    then_read ≡ read + 1 → Runs number line a b is then_is → Far text b then_read then_rest was then_is
far_more text line a b number read then_read rest then_rest was is then_is far lines_are number_is read_is runs =
    let now = said far.s (read + 1) line in
    let below : Outcome = printed_from (lines then_rest) (read + 1 + 1) now.state in
    let goes : now.is_refused ≡ false = subst (λ (n : ℕ). (said far.s n line).is_refused ≡ false) number_is (runs.goes_on far.s far.stands) in
    let next : below ≡ printed_from (lines then_rest) (then_read + 1) now.state = ap (λ (n : ℕ). printed_from (lines then_rest) (n + 1) now.state) (sym read_is) in
    let whole : printed_from (lines rest) (read + 1) far.s ≡ behind_line now.is_refused now.text below = ap (λ (l : List (List ℕ)). printed_from l (read + 1) far.s) lines_are in record {
      s = now.state;
      stands = subst (λ (n : ℕ). Stands b (said far.s n line).state) number_is (runs.leads far.s far.stands);
      told = far.told ++ now.text;
      printed = Appends-trans was is then_is far.told now.text far.printed (subst (λ (n : ℕ). Appends is then_is (said far.s n line).text) number_is (runs.printed far.s far.stands));
      left = far.left ∙ ap (λ (o : Outcome). far.told ++ o.printed) whole ∙ ap (λ (l : List ℕ). far.told ++ l) (behind_said now.text below now.is_refused goes)
          ∙ sym (append_assoc far.told now.text below.printed) ∙ ap (λ (o : Outcome). (far.told ++ now.text) ++ o.printed) next;
      refused = far.refused ∙ ap (λ (o : Outcome). o.is_refused) whole ∙ behind_goes now.text below now.is_refused goes ∙ ap (λ (o : Outcome). o.is_refused) next;
    }

-- the last line was run
pub far_end : (text : List ℕ) (c : Conferences) (read : ℕ) (rest : List ℕ) (was is : Option (List ℕ)) → Far text c read rest was is → rest ≡ [] → Ran text false was is
far_end text c read rest was is far empty =
    let none : printed_from (lines rest) (read + 1) far.s ≡ record { printed = []; is_refused = false } = ap (λ (l : List ℕ). printed_from (lines l) (read + 1) far.s) empty in record {
      refused = far.refused ∙ ap (λ (o : Outcome). o.is_refused) none;
      printed = subst (λ (l : List ℕ). Appends was is l) (sym (far.left ∙ ap (λ (o : Outcome). far.told ++ o.printed) none ∙ append-nil far.told)) far.printed;
    }

-- a line was refused
pub far_refused : (text line : List ℕ) (a : Conferences) (number read : ℕ) (rest then_rest : List ℕ) (was is then_is : Option (List ℕ)) → Far text a read rest was is → lines rest ≡ line ∷ lines then_rest → number ≡ read + 1 →
    Refuses number line a is then_is → Ran text true was then_is
far_refused text line a number read rest then_rest was is then_is far lines_are number_is refuses =
    let now = said far.s (read + 1) line in
    let below : Outcome = printed_from (lines then_rest) (read + 1 + 1) now.state in
    let ends : now.is_refused ≡ true = subst (λ (n : ℕ). (said far.s n line).is_refused ≡ true) number_is (refuses.refused far.s far.stands) in
    let whole : printed_from (lines rest) (read + 1) far.s ≡ record { printed = now.text; is_refused = true } =
    ap (λ (l : List (List ℕ)). printed_from l (read + 1) far.s) lines_are ∙ behind_ends now.text below now.is_refused ends in record {
      refused = far.refused ∙ ap (λ (o : Outcome). o.is_refused) whole;
      printed = subst (λ (l : List ℕ). Appends was then_is l) (sym (far.left ∙ ap (λ (o : Outcome). far.told ++ o.printed) whole))
          (Appends-trans was is then_is far.told now.text far.printed (subst (λ (n : ℕ). Appends is then_is (said far.s n line).text) number_is (refuses.printed far.s far.stands)));
    }

-- either is printed first
text_first : (text : List ℕ) (below : Outcome) (b : Bool) → (more : List ℕ) × ((behind_line b text below).printed ≡ text ++ more)
text_first text below true = ([], sym (append-nil text))
text_first text below false = (below.printed, refl)

-- a line was begun
pub far_stopped : (text line : List ℕ) (a : Conferences) (number read : ℕ) (rest then_rest : List ℕ) (was is then_is : Option (List ℕ)) → Far text a read rest was is → lines rest ≡ line ∷ lines then_rest → number ≡ read + 1 →
    Stopped number line a is then_is → Began was then_is (outcome_of text).printed
far_stopped text line a number read rest then_rest was is then_is far lines_are number_is stopped =
    let now = said far.s (read + 1) line in
    let below : Outcome = printed_from (lines then_rest) (read + 1 + 1) now.state in
    let first = text_first now.text below now.is_refused in
    began_more was is then_is far.told now.text first.0 (outcome_of text).printed far.printed (subst (λ (n : ℕ). Began is then_is (said far.s n line).text) number_is (stopped.printed far.s far.stands))
    (far.left ∙ ap (λ (l : List (List ℕ)). far.told ++ (printed_from l (read + 1) far.s).printed) lines_are ∙ ap (λ (l : List ℕ). far.told ++ l) first.1)

-- a configuration was refused
pub refused_configuration : (text : List ℕ) (fault : ConfigFault) (was is : Option (List ℕ)) → configurations (configuration_of text) ≡ Err fault → Appends was is (error_line 0 (name_of fault)) → Ran text true was is
refused_configuration text fault was is e grew = record {
  refused = ap (λ (o : Outcome). o.is_refused) (outcome_err text fault e);
  printed = subst (λ (l : List ℕ). Appends was is l) (sym (ap (λ (o : Outcome). o.printed) (outcome_err text fault e))) grew;
}

pub began_configuration : (text : List ℕ) (fault : ConfigFault) (was is : Option (List ℕ)) → configurations (configuration_of text) ≡ Err fault → Began was is (error_line 0 (name_of fault)) → Began was is (outcome_of text).printed
began_configuration text fault was is e began = subst (λ (l : List ℕ). Began was is l) (sym (ap (λ (o : Outcome). o.printed) (outcome_err text fault e))) began

-- what the fault of a configuration leaves
pub leaves_configuration : (result : Result (Unit {0}) RunFault) (fault : ConfigFault) (name : List ℕ) (was is : Option (List ℕ)) → (fault ≡ config.Memory → ⊥) → name ≡ name_of fault →
    MatchResult result (λ _. ⊥) (λ left. LeavesText left (error_line 0 name) was is) →
    MatchResult result (λ _. ⊥) (λ left. (text : List ℕ) → Fails fault (configurations (configuration_of text)) → Leaves left text was is)
leaves_configuration (Ok v) fault name was is ne e h = h
leaves_configuration (Err fault_of.Refused) fault name was is ne e h = λ text fails. refused_configuration text fault was is (fails_as fault (configurations (configuration_of text)) ne fails) (subst (λ (n : List ℕ). Appends was is (error_line 0 n)) e h)
leaves_configuration (Err fault_of.CannotRead) fault name was is ne e h = absurd h
leaves_configuration (Err fault_of.CannotWrite) fault name was is ne e h = λ text fails. began_configuration text fault was is (fails_as fault (configurations (configuration_of text)) ne fails) (subst (λ (n : List ℕ). Began was is (error_line 0 n)) e h)
leaves_configuration (Err fault_of.Memory) fault name was is ne e h = λ text fails. began_none was is (outcome_of text).printed h

-- what a text leaves whose line ended the run
pub leaves_by : (fault : RunFault) (text line : List ℕ) (a : Conferences) (number read : ℕ) (rest then_rest : List ℕ) (was is then_is : Option (List ℕ)) → Far text a read rest was is → lines rest ≡ line ∷ lines then_rest → number ≡ read + 1 →
    LeavesLine fault number line a is then_is → Leaves fault text was then_is
leaves_by fault_of.Refused text line a number read rest then_rest was is then_is far lines_are number_is h = far_refused text line a number read rest then_rest was is then_is far lines_are number_is h
leaves_by fault_of.CannotRead text line a number read rest then_rest was is then_is far lines_are number_is h = h
leaves_by fault_of.CannotWrite text line a number read rest then_rest was is then_is far lines_are number_is h = far_stopped text line a number read rest then_rest was is then_is far lines_are number_is h
leaves_by fault_of.Memory text line a number read rest then_rest was is then_is far lines_are number_is h =
    began_more was is then_is far.told [] (printed_from (lines rest) (read + 1) far.s).printed (outcome_of text).printed far.printed (began_none is then_is [] h) far.left
