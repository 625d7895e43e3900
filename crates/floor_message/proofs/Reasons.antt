-- The reason of a floor is found by going through the groups once.
use Rattle.std.proofs.Common.{◌≡◌, ℕ, zero, suc, ◌+◌, ◌-◌, ◌<◌, Bool, true, false, not, cond, ◌&&◌, ◌||◌, List, [], ◌∷◌, ◌++◌, length, map, take, drop, get_or, filter, Option, Some, None, refl, sym, ◌∙◌, ap, arith, length-drop}
use Rattle.std.specs.Prelude.{filter_map, ◌==◌}
use Rattle.std.specs.List.{list_any, cons_option}
use Rattle.std.proofs.lemmas.List.{append-nil, drop_more, map-append, take_more}
use Rattle.std.proofs.lemmas.List.Elements.{filter_map-append}
use Rattle.floor_wire.specs.declared.attribute.Attr.{Attr}
use Rattle.floor_message.specs.Fields.{status_info_in, floor_reason, reason_for}
use Rattle.floor_message.specs.Picked.{first, group_in, groups, if_kind, once_by}
use Rattle.floor_message.specs.steps.Reasons.{floors_named, reason_unless_named, reason_behind}
use Rattle.floor_message.proofs.Once.{filter_both, filter_same, any_more, flip}

-- the floor of the group isn't named already
abbrev is_unnamed : List ℕ → ℕ × List Attr → Bool
is_unnamed named g = not (list_any (λ floor. g.0 == floor) named)

-- the groups of floors that aren't named already, of each floor the first
abbrev unnamed : List ℕ → List (ℕ × List Attr) → List (ℕ × List Attr)
unnamed named gs = filter (is_unnamed named) (once_by (λ g. g.0) gs)

-- the first reason among them
abbrev reason_among : List (ℕ × List Attr) → Option (List ℕ)
reason_among gs = first (filter_map (λ g. status_info_in g.1) gs)

-- behind a group its floor is named
named_more : (named : List ℕ) (n : ℕ) (xs : List (ℕ × List Attr)) → filter (is_unnamed named) (filter (λ y. not (y.0 == n)) xs) ≡ filter (is_unnamed (named ++ n ∷ [])) xs
named_more named n xs =
    filter_both (is_unnamed named) (λ y. not (y.0 == n)) xs
    ∙ filter_same (λ y. not (y.0 == n) && is_unnamed named y) (is_unnamed (named ++ n ∷ [])) (λ y. rw (any_more (λ floor. y.0 == floor) named n) (flip (y.0 == n) (list_any (λ floor. y.0 == floor) named))) xs

reason_in_front : (o : Option (List ℕ)) (rest : List (List ℕ)) → first (cons_option o rest) ≡ reason_for o (first rest)
reason_in_front None rest = refl
reason_in_front (Some reason) rest = refl

step : (g : ℕ × List Attr) (rest : List (ℕ × List Attr)) (b : Bool)
    → reason_for (cond b None (status_info_in g.1)) (reason_among rest) ≡ reason_among (cond (not b) (g ∷ rest) rest)
step g rest true = refl
step g rest false = sym (reason_in_front (status_info_in g.1) (filter_map (λ g. status_info_in g.1) rest))

pub reason_behind-is : (named : List ℕ) (gs : List (ℕ × List Attr)) → reason_behind named gs ≡ reason_among (unnamed named gs)
reason_behind-is named [] = refl
reason_behind-is named (g ∷ gs) =
    ap (λ r. reason_for (reason_unless_named named g) r) (reason_behind-is (named ++ g.0 ∷ []) gs)
    ∙ ap (λ l. reason_for (reason_unless_named named g) (reason_among l)) (sym (named_more named g.0 (once_by (λ x. x.0) gs)))
    ∙ step g (filter (is_unnamed named) (filter (λ y. not (y.0 == g.0)) (once_by (λ x. x.0) gs))) (list_any (λ floor. g.0 == floor) named)

all_kept : {A : Type 0} (xs : List A) → filter (λ y. true) xs ≡ xs
all_kept [] = refl
all_kept (x ∷ xs) = ap (λ l. x ∷ l) (all_kept xs)

-- where no floor is named yet, it is the reason of a floor
pub reason_from_start : (inside : List Attr) → reason_behind [] (groups 17 inside) ≡ floor_reason inside
reason_from_start inside = reason_behind-is [] (groups 17 inside) ∙ ap reason_among (all_kept (once_by (λ g. g.0) (groups 17 inside)))

-- the floors that are named behind one attribute more
named_behind : (front : List Attr) (a : Attr) (o : Option (ℕ × List Attr)) → if_kind group_in 17 a ≡ o → floors_named (front ++ a ∷ []) ≡ map (λ g. g.0) (groups 17 front ++ cons_option o [])
named_behind front a o is =
    ap (map (λ g. g.0)) (filter_map-append (if_kind group_in 17) front (a ∷ []) ∙ ap (λ x. groups 17 front ++ cons_option x []) is)

-- no reason is passed over with an attribute that is no such group
pub past_other : (front rest : List Attr) (a : Attr) → if_kind group_in 17 a ≡ None
    → reason_behind (floors_named (front ++ a ∷ [])) (groups 17 rest) ≡ reason_behind (floors_named front) (groups 17 (a ∷ rest))
past_other front rest a is =
    ap (λ named. reason_behind named (groups 17 rest)) (named_behind front a None is ∙ ap (map (λ g. g.0)) (append-nil (groups 17 front)))
    ∙ ap (λ o. reason_behind (floors_named front) (cons_option o (groups 17 rest))) (sym is)

-- nor with a group that has none, or whose floor is named already
pub past_group : (front rest : List Attr) (a : Attr) (g : ℕ × List Attr) → if_kind group_in 17 a ≡ Some g → reason_unless_named (floors_named front) g ≡ None
    → reason_behind (floors_named (front ++ a ∷ [])) (groups 17 rest) ≡ reason_behind (floors_named front) (groups 17 (a ∷ rest))
past_group front rest a g is none =
    ap (λ named. reason_behind named (groups 17 rest)) (named_behind front a (Some g) is ∙ map-append (λ x. x.0) (groups 17 front) (g ∷ []))
    ∙ ap (λ o. reason_for o (reason_behind (floors_named front ++ g.0 ∷ []) (groups 17 rest))) (sym none)
    ∙ ap (λ o. reason_behind (floors_named front) (cons_option o (groups 17 rest))) (sym is)

-- so at each place
pub past_at : (inside : List Attr) (place : ℕ) (d : Attr) → place < length inside
    → (reason_behind (floors_named (take place inside ++ get_or inside place d ∷ [])) (groups 17 (drop (place + 1) inside))
    ≡ reason_behind (floors_named (take place inside)) (groups 17 (get_or inside place d ∷ drop (place + 1) inside)))
    → reason_behind (floors_named (take (place + 1) inside)) (groups 17 (drop (place + 1) inside)) ≡ reason_behind (floors_named (take place inside)) (groups 17 (drop place inside))
past_at inside place d within past =
    ap (λ xs. reason_behind (floors_named xs) (groups 17 (drop (place + 1) inside))) (take_more inside place d within)
    ∙ past
    ∙ ap (λ xs. reason_behind (floors_named (take place inside)) (groups 17 xs)) (sym (drop_more inside place d within))

-- what stands at a place, and behind it
pub record StandsAt (inside : List Attr) (place : ℕ) (a : Attr) (rest : List Attr) : Type 0 where
  pub within : place < length inside
  pub here : get_or inside place a ≡ a
  pub behind : drop (place + 1) inside ≡ rest

pub stands_at : (inside : List Attr) (place : ℕ) (a : Attr) (rest : List Attr) → drop place inside ≡ a ∷ rest → StandsAt inside place a rest
stands_at inside place a rest e =
    let within : place < length inside = omega (arith, length-drop place inside, ap length e) in
    let both : get_or inside place a ∷ drop (place + 1) inside ≡ a ∷ rest = sym (drop_more inside place a within) ∙ e in
    record { within = within; here = cc; behind = cc }

-- a group of another floor, or an attribute that is no such group, names the floor no more than those behind it
pub named_by_others : (floor left : ℕ) (xs rest : List Attr) (a : Attr) → 0 < left → xs ≡ a ∷ rest → if_kind group_in 17 a ≡ None
    → list_any (λ n. floor == n) (floors_named (take (left - 1) rest)) ≡ list_any (λ n. floor == n) (floors_named (take left xs))
named_by_others floor zero xs rest a some e is = absurd (omega arith)
named_by_others floor (suc left) xs rest a some e is =
    ap (λ k. list_any (λ n. floor == n) (floors_named (take k rest))) (let one : suc left - 1 ≡ left = omega arith in one)
    ∙ sym (ap (λ l. list_any (λ n. floor == n) (floors_named (take (suc left) l))) e
    ∙ ap (λ o. list_any (λ n. floor == n) (map (λ g. g.0) (cons_option o (groups 17 (take left rest))))) is)

pub named_by_other_floors : (floor left : ℕ) (xs rest : List Attr) (a : Attr) (g : ℕ × List Attr) → 0 < left → xs ≡ a ∷ rest → if_kind group_in 17 a ≡ Some g → (floor == g.0) ≡ false
    → list_any (λ n. floor == n) (floors_named (take (left - 1) rest)) ≡ list_any (λ n. floor == n) (floors_named (take left xs))
named_by_other_floors floor zero xs rest a g some e is other = absurd (omega arith)
named_by_other_floors floor (suc left) xs rest a g some e is other =
    ap (λ k. list_any (λ n. floor == n) (floors_named (take k rest))) (let one : suc left - 1 ≡ left = omega arith in one)
    ∙ sym (ap (λ l. list_any (λ n. floor == n) (floors_named (take (suc left) l))) e
    ∙ ap (λ o. list_any (λ n. floor == n) (map (λ g. g.0) (cons_option o (groups 17 (take left rest))))) is
    ∙ ap (λ b. b || list_any (λ n. floor == n) (floors_named (take left rest))) other)
