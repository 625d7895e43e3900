-- What the tests of a configuration's parts say of them.
use Rattle.std.proofs.Common.{◌≡◌, ◌==◌, Bool, true, ℕ, suc, ◌+◌, ◌<◌, ◌∙◌, List, [], ◌∷◌, length, take, get_or, Option, Some, None, IfSome, All, Contains, arith, ⊎_elim}
use Rattle.std.specs.List.{list_any, list_all, AllByRecursion}
use Rattle.std.proofs.lemmas.List.Folds.{list_all_more}
use Rattle.std.proofs.lemmas.Bool.{and_parts, and_from, or_cases, eqb-true, false≢true}
use Rattle.std.proofs.lemmas.List.Elements.{All-from_recursion}
use Rattle.floor_config.specs.declared.users.User.{User}
use Rattle.floor_config.specs.declared.floors.Floor.{Floor}
use Rattle.floor_config.specs.Configuration.{user_ids}
use Rattle.floor_config.specs.Limits.{is_known, chairs_are_known}

user_found : (users : List User) (chair : ℕ) → list_any (λ u. u.id == chair) users ≡ true → Contains (user_ids users) chair
user_found [] chair h = absurd (false≢true h)
user_found (u ∷ users) chair h =
    ⊎_elim (λ (same : (u.id == chair) ≡ true). (0, omega arith, eqb-true u.id chair same))
    (λ (later : list_any (λ v. v.id == chair) users ≡ true). let p = user_found users chair later in (suc p.0, omega (arith, p.1), p.2))
    (or_cases (u.id == chair) (list_any (λ v. v.id == chair) users) h)

pub chair_known : (users : List User) (chair : Option ℕ) → is_known users chair ≡ true → IfSome chair (Contains (user_ids users))
chair_known users None h = tt
chair_known users (Some chair) h = user_found users chair h

each_chair : (users : List User) (floors : List Floor) → chairs_are_known users floors ≡ true → AllByRecursion (λ f. IfSome f.chair (Contains (user_ids users))) floors
each_chair users [] h = tt
each_chair users (f ∷ floors) h =
    let p = and_parts (is_known users f.chair) (chairs_are_known users floors) h in (chair_known users f.chair p.0, each_chair users floors p.1)

-- where the test passes, each chair is one of the users
pub chairs_known : (users : List User) (floors : List Floor) → chairs_are_known users floors ≡ true → All (λ f. IfSome f.chair (Contains (user_ids users))) floors
chairs_known users floors h = All-from_recursion (λ f. IfSome f.chair (Contains (user_ids users))) floors (each_chair users floors h)

-- one more item passes a test
pub passes_more : {X : Type 0} (test : X → Bool) (xs : List X) (i : ℕ) (d : X) → i < length xs → list_all test (take i xs) ≡ true → test (get_or xs i d) ≡ true → list_all test (take (i + 1) xs) ≡ true
passes_more test xs i d lt before one = list_all_more test xs i d lt ∙ and_from (list_all test (take i xs)) (test (get_or xs i d)) before one
