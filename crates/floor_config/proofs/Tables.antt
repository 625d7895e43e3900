-- The tables among items, read one after the other as a loop does.
use Rattle.std.proofs.Common.{◌≡◌, ℕ, suc, ◌+◌, ◌≤◌, ◌<◌, true, ◌&&◌, List, [], ◌∷◌, ◌++◌, length, drop, get_or, Option, Some, None, is_some, option_to_list, Result, Ok, Err, refl, sym, ap, ◌∙◌, append_assoc}
use Rattle.std.specs.List.{list_all}
use Rattle.std.proofs.lemmas.Bool.{and_parts, false≢true}
use Rattle.std.proofs.lemmas.List.{append-nil, drop_all}
use Rattle.toml.specs.Data.{Members, as_table}
use Rattle.toml.specs.View.{view, items_view}
use Rattle.toml.specs.declared.value.Value.{Value}
use Rattle.toml.proofs.Views.{items_view-drop}
use Rattle.floor_config.specs.declared.fault.ConfigFault.{ConfigFault}
use Rattle.floor_config.specs.declared.fault.ConfigFault.TheVariants as faults
use Rattle.floor_config.specs.Outcome.{◌>>=◌, Fails}
use Rattle.floor_config.specs.Values.{tables, are_tables}
use Rattle.floor_config.specs.Reading.{all_of}

-- each item is a table where each value is one
pub are_tables_all : (vs : List Value) → are_tables (items_view vs) ≡ list_all (λ value. is_some (as_table (view value))) vs
are_tables_all [] = refl
are_tables_all (v ∷ vs) = ap (λ b. is_some (as_table (view v)) && b) (are_tables_all vs)

one_more : (o : Option Members) (ts : List Members) (n : ℕ) → is_some o ≡ true → length ts ≡ n → length (option_to_list o ++ ts) ≡ suc n
one_more None ts n some e = absurd (false≢true some)
one_more (Some t) ts n some e = ap suc e

-- where each item is a table, there are as many tables as items
pub length_tables : (vs : List Value) → are_tables (items_view vs) ≡ true → length (tables (items_view vs)) ≡ length vs
length_tables [] h = refl
length_tables (v ∷ vs) h =
    let p = and_parts (is_some (as_table (view v))) (are_tables (items_view vs)) h in
    one_more (as_table (view v)) (tables (items_view vs)) (length vs) p.0 (length_tables vs p.1)

-- what was read before, and what is still read
abbrev pub with_front : {A : Type 0} → List A → Result (List A) ConfigFault → Result (List A) ConfigFault
with_front front read = read >>= λ others. Ok (front ++ others)

regroup : {A : Type 0} (front : List A) (x : A) (read : Result (List A) ConfigFault) → with_front front (read >>= λ others. Ok (x ∷ others)) ≡ with_front (front ++ x ∷ []) read
regroup front x (Ok others) = ap Ok (simp append_assoc)
regroup front x (Err fault) = refl

-- the table at the front of what is left
first_table : (vs : List Value) (i : ℕ) (v : Value) → i < length vs → v ≡ get_or vs i v → tables (items_view (drop i vs)) ≡ option_to_list (as_table (view v)) ++ tables (items_view (drop (i + 1) vs))
first_table vs i v lt at_i = rw (items_view-drop vs i v lt, sym at_i) refl

-- a table that is read stands behind those before it
pub goes_on : {A : Type 0} (read : Members → Result A ConfigFault) (front : List A) (vs : List Value) (i : ℕ) (v : Value) (t : Members) (x : A) (total : Result (List A) ConfigFault)
    → i < length vs → v ≡ get_or vs i v → as_table (view v) ≡ Some t → read t ≡ Ok x
    → with_front front (all_of read (tables (items_view (drop i vs)))) ≡ total → with_front (front ++ x ∷ []) (all_of read (tables (items_view (drop (i + 1) vs)))) ≡ total
unfolding all_of
goes_on read front vs i v t x total lt at_i is_table h so_far =
    let one : with_front front (all_of read (tables (items_view (drop i vs)))) ≡ with_front (front ++ x ∷ []) (all_of read (tables (items_view (drop (i + 1) vs)))) =
    rw (first_table vs i v lt at_i, is_table, h) (regroup front x (all_of read (tables (items_view (drop (i + 1) vs))))) in
    sym one ∙ so_far

-- what is no table is passed over
pub passes_over : {A : Type 0} (read : Members → Result A ConfigFault) (front : List A) (vs : List Value) (i : ℕ) (v : Value) (total : Result (List A) ConfigFault)
    → i < length vs → v ≡ get_or vs i v → as_table (view v) ≡ None
    → with_front front (all_of read (tables (items_view (drop i vs)))) ≡ total → with_front front (all_of read (tables (items_view (drop (i + 1) vs)))) ≡ total
passes_over read front vs i v total lt at_i no_table so_far =
    let one : tables (items_view (drop i vs)) ≡ tables (items_view (drop (i + 1) vs)) = rw (first_table vs i v lt at_i, no_table) refl in
    ap (λ ts. with_front front (all_of read ts)) (sym one) ∙ so_far

-- a fault that was found is one that a call may answer
pub Fails-found : {A : Type 0} (e : ConfigFault) (found : Result A ConfigFault) → found ≡ Err e → Fails e found
Fails-found faults.Memory found h = tt
Fails-found faults.Syntax found h = h
Fails-found faults.MissingKey found h = h
Fails-found faults.WrongType found h = h
Fails-found faults.OutOfRange found h = h
Fails-found faults.DoubleUser found h = h
Fails-found faults.DoubleFloor found h = h
Fails-found faults.NoFloor found h = h
Fails-found faults.UnknownChair found h = h
Fails-found faults.DoubleConference found h = h
Fails-found faults.DoublePort found h = h

-- a fault ends the reading
ends : {A : Type 0} (read : Members → Result A ConfigFault) (e : ConfigFault) (front : List A) (vs : List Value) (i : ℕ) (v : Value) (t : Members) (total : Result (List A) ConfigFault)
    → i < length vs → v ≡ get_or vs i v → as_table (view v) ≡ Some t → read t ≡ Err e
    → with_front front (all_of read (tables (items_view (drop i vs)))) ≡ total → total ≡ Err e
unfolding all_of
ends read e front vs i v t total lt at_i is_table h so_far =
    let one : with_front front (all_of read (tables (items_view (drop i vs)))) ≡ Err e = rw (first_table vs i v lt at_i, is_table, h) refl in
    sym so_far ∙ one

-- a call that failed ends the reading
pub stops : {A : Type 0} (read : Members → Result A ConfigFault) (e : ConfigFault) (front : List A) (vs : List Value) (i : ℕ) (v : Value) (t : Members) (total : Result (List A) ConfigFault)
    → i < length vs → v ≡ get_or vs i v → as_table (view v) ≡ Some t → Fails e (read t)
    → with_front front (all_of read (tables (items_view (drop i vs)))) ≡ total → Fails e total
stops read faults.Memory front vs i v t total lt at_i is_table h so_far = tt
stops read faults.Syntax front vs i v t total lt at_i is_table h so_far = ends read faults.Syntax front vs i v t total lt at_i is_table h so_far
stops read faults.MissingKey front vs i v t total lt at_i is_table h so_far = ends read faults.MissingKey front vs i v t total lt at_i is_table h so_far
stops read faults.WrongType front vs i v t total lt at_i is_table h so_far = ends read faults.WrongType front vs i v t total lt at_i is_table h so_far
stops read faults.OutOfRange front vs i v t total lt at_i is_table h so_far = ends read faults.OutOfRange front vs i v t total lt at_i is_table h so_far
stops read faults.DoubleUser front vs i v t total lt at_i is_table h so_far = ends read faults.DoubleUser front vs i v t total lt at_i is_table h so_far
stops read faults.DoubleFloor front vs i v t total lt at_i is_table h so_far = ends read faults.DoubleFloor front vs i v t total lt at_i is_table h so_far
stops read faults.NoFloor front vs i v t total lt at_i is_table h so_far = ends read faults.NoFloor front vs i v t total lt at_i is_table h so_far
stops read faults.UnknownChair front vs i v t total lt at_i is_table h so_far = ends read faults.UnknownChair front vs i v t total lt at_i is_table h so_far
stops read faults.DoubleConference front vs i v t total lt at_i is_table h so_far = ends read faults.DoubleConference front vs i v t total lt at_i is_table h so_far
stops read faults.DoublePort front vs i v t total lt at_i is_table h so_far = ends read faults.DoublePort front vs i v t total lt at_i is_table h so_far

-- all values are read
pub is_done : {A : Type 0} (read : Members → Result A ConfigFault) (front : List A) (vs : List Value) (i : ℕ) (total : Result (List A) ConfigFault) → length vs ≤ i
    → with_front front (all_of read (tables (items_view (drop i vs)))) ≡ total → total ≡ Ok front
unfolding all_of
is_done read front vs i total le so_far =
    let one : with_front front (all_of read (tables (items_view (drop i vs)))) ≡ Ok front = rw (drop_all i vs le) (ap Ok (append-nil front)) in
    sym so_far ∙ one
