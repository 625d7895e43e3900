-- Words in ascending order of their keys, before a key and behind it.
use Rattle.std.proofs.Common.{◌≡◌, ◌∙◌, ap, sym, subst, refl, Bool, true, false, cond, not, ℕ, ◌<◌, ◌≤◌, suc, List, [], ◌∷◌, ◌++◌, length, take, drop, arith, slice_set}
use Rattle.std.specs.Prelude.{◌&&◌, filter}
use Rattle.std.specs.List.{insert, list_all, slice_get}
use Rattle.std.specs.Option.{option_map_or}
use Rattle.std.specs.Ordering.{is_eq, is_lt, nat_cmp, ordering_reverse}
use Rattle.std.specs.declared.cmp.Ordering.{Ordering}
use Rattle.std.specs.declared.cmp.Ordering.TheVariants.{Less, Equal, Greater}
use Rattle.std.specs.Cmp.Lexicographic.{slice_cmp}
use Rattle.std.proofs.lemmas.Bool.{false≢true}
use Rattle.std.proofs.lemmas.Cmp.{nat_list_cmp_total}
use Rattle.std.proofs.lemmas.Map.Text.{is_eq-slice_cmp}
use Rattle.std.proofs.lemmas.Slice.Eq.{bytes_eq-Decides}
use Rattle.std.proofs.lemmas.List.{set_split}
use Rattle.std.proofs.lemmas.List.Folds.{list_all-append}
use Rattle.floor_socket.specs.declared.words.Word.{Word}
use Rattle.floor_socket.specs.Words.{ascend, before, behind, is_before, is_same, others, with_word}

-- ---- two keys

abbrev order : List ℕ → List ℕ → Ordering
order a b = slice_cmp nat_cmp a b

less : (r : Ordering) → is_lt r ≡ true → r ≡ Less
less Less e = refl
less Equal e = absurd (false≢true e)
less Greater e = absurd (false≢true e)

turned : (a b : List ℕ) (r : Ordering) → order a b ≡ r → order b a ≡ ordering_reverse r
turned a b r e = nat_list_cmp_total.antisymm b a ∙ ap ordering_reverse e

-- a key that stands before another doesn't stand behind it, and isn't the same
not_back : (a b : List ℕ) → is_before a b ≡ true → is_before b a ≡ false
not_back a b e = ap is_lt (turned a b Less (less (order a b) e))

not_same : (a b : List ℕ) → is_before a b ≡ true → is_same b a ≡ false
not_same a b e = sym (is_eq-slice_cmp b a) ∙ ap is_eq (turned a b Less (less (order a b) e))

differs : (a b : List ℕ) → is_before a b ≡ true → is_same a b ≡ false
differs a b e = sym (is_eq-slice_cmp a b) ∙ ap is_eq (less (order a b) e)

before_trans : (a b d : List ℕ) → is_before a b ≡ true → is_before b d ≡ true → is_before a d ≡ true
before_trans a b d e f = ap is_lt (nat_list_cmp_total.trans a b d (less (order a b) e) (less (order b d) f))

is_same-refl : (a : List ℕ) → is_same a a ≡ true
is_same-refl a = (bytes_eq-Decides a a).1 refl

equal_isnt_less : (r : Ordering) → is_eq r ≡ true → is_lt r ≡ false
equal_isnt_less Less e = absurd (false≢true e)
equal_isnt_less Equal e = refl
equal_isnt_less Greater e = refl

is_before-irrefl : (a : List ℕ) → is_before a a ≡ false
is_before-irrefl a = equal_isnt_less (order a a) (is_eq-slice_cmp a a ∙ is_same-refl a)

-- how one key stands to another
data Stands (a k : List ℕ) : Type 0 where
  Before : is_before a k ≡ true → Stands a k
  Same : a ≡ k → Stands a k
  Behind : is_before k a ≡ true → Stands a k

stands : (a k : List ℕ) → Stands a k
stands a k =
    elim (order a k) as (λ r. order a k ≡ r → Stands a k) [
      | Less ↦ λ e. Before (ap is_lt e)
      | Equal ↦ λ e. Same ((bytes_eq-Decides a k).0 (sym (is_eq-slice_cmp a k) ∙ ap is_eq e))
      | Greater ↦ λ e. Behind (ap is_lt (turned a k Greater e))
    ] refl

-- ---- lists that are filtered

both : (a b : Bool) → (a && b) ≡ true → (a ≡ true) × (b ≡ true)
both true b e = (refl, e)
both false b e = absurd (false≢true e)

join : (a b : Bool) → a ≡ true → b ≡ true → (a && b) ≡ true
join a b e f = ap (λ v. v && b) e ∙ f

yes : {X : Type 0} (p : X → Bool) (x : X) (xs : List X) → p x ≡ true → filter p (x ∷ xs) ≡ x ∷ filter p xs
yes p x xs e = ap (λ b. cond b (x ∷ filter p xs) (filter p xs)) e

no : {X : Type 0} (p : X → Bool) (x : X) (xs : List X) → p x ≡ false → filter p (x ∷ xs) ≡ filter p xs
no p x xs e = ap (λ b. cond b (x ∷ filter p xs) (filter p xs)) e

all_filter : {X : Type 0} (q p : X → Bool) (xs : List X) → list_all q xs ≡ true → list_all q (filter p xs) ≡ true
all_filter q p [] h = refl
all_filter q p (x ∷ xs) h =
    elim (p x) as (λ b. list_all q (cond b (x ∷ filter p xs) (filter p xs)) ≡ true) [
      | true ↦ join (q x) (list_all q (filter p xs)) (both (q x) (list_all q xs) h).0 (all_filter q p xs (both (q x) (list_all q xs) h).1)
      | false ↦ all_filter q p xs (both (q x) (list_all q xs) h).1
    ]

-- ---- words

abbrev all_behind : List ℕ → List Word → Bool
all_behind key words = list_all (λ later. is_before key later.key) words

all_later : (k a : List ℕ) (ws : List Word) → is_before k a ≡ true → all_behind a ws ≡ true → all_behind k ws ≡ true
all_later k a [] e h = refl
all_later k a (w ∷ ws) e h =
    let parts = both (is_before a w.key) (all_behind a ws) h in
    join (is_before k w.key) (all_behind k ws) (before_trans k a w.key e parts.0) (all_later k a ws e parts.1)

record AllBehind (k : List ℕ) (ws : List Word) : Type 0 where
  none : before k ws ≡ []
  all : behind k ws ≡ ws
  other : others k ws ≡ ws

-- of words that all stand behind a key, none stands before it
from_all_behind : (k : List ℕ) (ws : List Word) → all_behind k ws ≡ true → AllBehind k ws
from_all_behind k [] h = record { none = refl; all = refl; other = refl }
from_all_behind k (w ∷ ws) h =
    let parts = both (is_before k w.key) (all_behind k ws) h in
    let rest = from_all_behind k ws parts.1 in
    record {
      none = no (λ v. is_before v.key k) w ws (not_back k w.key parts.0) ∙ rest.none;
      all = yes (λ v. is_before k v.key) w ws parts.0 ∙ ap (λ vs. w ∷ vs) rest.all;
      other = yes (λ v. not (is_same v.key k)) w ws (ap not (not_same k w.key parts.0)) ∙ ap (λ vs. w ∷ vs) rest.other;
    }

abbrev pub is_there : List ℕ → List Word → ℕ → Bool
is_there key words place = option_map_or (λ word. is_same word.key key) (slice_get words place) false

-- where words in ascending order stand to a key
pub record Parts (k : List ℕ) (ws : List Word) : Type 0 where
  pub front : take (length (before k ws)) ws ≡ before k ws
  pub rest : is_there k ws (length (before k ws)) ≡ false → drop (length (before k ws)) ws ≡ behind k ws
  pub after : is_there k ws (length (before k ws)) ≡ true → drop (suc (length (before k ws))) ws ≡ behind k ws
  pub all : others k ws ≡ before k ws ++ behind k ws
  pub within : length (before k ws) ≤ length ws
  pub there : is_there k ws (length (before k ws)) ≡ true → length (before k ws) < length ws

none_before : (k : List ℕ) (w : Word) (ws : List Word) → is_before w.key k ≡ false → AllBehind k ws → before k (w ∷ ws) ≡ []
none_before k w ws e rest = no (λ v. is_before v.key k) w ws e ∙ rest.none

parts_before : (k : List ℕ) (w : Word) (ws : List Word) → is_before w.key k ≡ true → Parts k ws → Parts k (w ∷ ws)
parts_before k w ws e p =
    let f : before k (w ∷ ws) ≡ w ∷ before k ws = yes (λ v. is_before v.key k) w ws e in
    let g : behind k (w ∷ ws) ≡ behind k ws = no (λ v. is_before k v.key) w ws (not_back w.key k e) in
    let o : others k (w ∷ ws) ≡ w ∷ others k ws = yes (λ v. not (is_same v.key k)) w ws (ap not (differs w.key k e)) in
    record {
      front = subst (λ bs. take (length bs) (w ∷ ws) ≡ bs) (sym f) (ap (λ vs. w ∷ vs) p.front);
      rest = λ h. subst (λ bs. drop (length bs) (w ∷ ws) ≡ behind k ws) (sym f)
          (p.rest (subst (λ bs. is_there k (w ∷ ws) (length bs) ≡ false) f h)) ∙ sym g;
      after = λ h. subst (λ bs. drop (suc (length bs)) (w ∷ ws) ≡ behind k ws) (sym f)
          (p.after (subst (λ bs. is_there k (w ∷ ws) (length bs) ≡ true) f h)) ∙ sym g;
      all = o ∙ ap (λ vs. w ∷ vs) p.all ∙ (λ i. sym f i ++ sym g i);
      within = subst (λ bs. length bs ≤ length (w ∷ ws)) (sym f) (omega (arith, p.within));
      there = λ h. subst (λ bs. length bs < length (w ∷ ws)) (sym f)
          (let long : length (before k ws) < length ws = p.there (subst (λ bs. is_there k (w ∷ ws) (length bs) ≡ true) f h) in omega arith);
    }

parts_same : (k : List ℕ) (w : Word) (ws : List Word) → w.key ≡ k → AllBehind k ws → Parts k (w ∷ ws)
parts_same k w ws e rest =
    let f : before k (w ∷ ws) ≡ [] = no (λ v. is_before v.key k) w ws (ap (λ a. is_before a k) e ∙ is_before-irrefl k) ∙ rest.none in
    let g : behind k (w ∷ ws) ≡ ws = no (λ v. is_before k v.key) w ws (ap (λ a. is_before k a) e ∙ is_before-irrefl k) ∙ rest.all in
    let same : is_same w.key k ≡ true = ap (λ a. is_same a k) e ∙ is_same-refl k in
    let o : others k (w ∷ ws) ≡ ws = no (λ v. not (is_same v.key k)) w ws (ap not same) ∙ rest.other in
    record {
      front = subst (λ bs. take (length bs) (w ∷ ws) ≡ bs) (sym f) refl;
      rest = λ h. absurd (false≢true (sym (subst (λ bs. is_there k (w ∷ ws) (length bs) ≡ false) f h) ∙ same));
      after = λ h. subst (λ bs. drop (suc (length bs)) (w ∷ ws) ≡ ws) (sym f) refl ∙ sym g;
      all = o ∙ (λ i. sym f i ++ sym g i);
      within = subst (λ bs. length bs ≤ length (w ∷ ws)) (sym f) (omega arith);
      there = λ h. subst (λ bs. length bs < length (w ∷ ws)) (sym f) (omega arith);
    }

parts_behind : (k : List ℕ) (w : Word) (ws : List Word) → is_before k w.key ≡ true → AllBehind k ws → Parts k (w ∷ ws)
parts_behind k w ws e rest =
    let f : before k (w ∷ ws) ≡ [] = no (λ v. is_before v.key k) w ws (not_back k w.key e) ∙ rest.none in
    let g : behind k (w ∷ ws) ≡ w ∷ ws = yes (λ v. is_before k v.key) w ws e ∙ ap (λ vs. w ∷ vs) rest.all in
    let other : is_same w.key k ≡ false = not_same k w.key e in
    let o : others k (w ∷ ws) ≡ w ∷ ws = yes (λ v. not (is_same v.key k)) w ws (ap not other) ∙ ap (λ vs. w ∷ vs) rest.other in
    record {
      front = subst (λ bs. take (length bs) (w ∷ ws) ≡ bs) (sym f) refl;
      rest = λ h. subst (λ bs. drop (length bs) (w ∷ ws) ≡ w ∷ ws) (sym f) refl ∙ sym g;
      after = λ h. absurd (false≢true (sym other ∙ subst (λ bs. is_there k (w ∷ ws) (length bs) ≡ true) f h));
      all = o ∙ (λ i. sym f i ++ sym g i);
      within = subst (λ bs. length bs ≤ length (w ∷ ws)) (sym f) (omega arith);
      there = λ h. subst (λ bs. length bs < length (w ∷ ws)) (sym f) (omega arith);
    }

pub parts : (k : List ℕ) (ws : List Word) → ascend ws ≡ true → Parts k ws
parts k [] up = record {
  front = refl;
  rest = λ h. refl;
  after = λ h. absurd (false≢true h);
  all = refl;
  within = omega arith;
  there = λ h. absurd (false≢true h);
}
parts k (w ∷ ws) up =
    let up_parts = both (all_behind w.key ws) (ascend ws) up in
    elim (stands w.key k) [
      | Before e ↦ parts_before k w ws e (parts k ws up_parts.1)
      | Same e ↦ parts_same k w ws e (from_all_behind k ws (subst (λ a. all_behind a ws ≡ true) e up_parts.0))
      | Behind e ↦ parts_behind k w ws e (from_all_behind k ws (all_later k w.key ws e up_parts.0))
    ]

-- a word in the place of the one under its key
pub set_there : (k v : List ℕ) (ws : List Word) → ascend ws ≡ true → is_there k ws (length (before k ws)) ≡ true
    → slice_set ws (length (before k ws)) (record { key = k; value = v }) ≡ with_word k v ws
set_there k v ws up h =
    let p = parts k ws up in
    set_split ws (length (before k ws)) (record { key = k; value = v }) (p.there h)
    ∙ (λ i. p.front i ++ record { key = k; value = v } ∷ p.after h i)

-- a word more, where none is under its key
pub inserted : (k v : List ℕ) (ws : List Word) → ascend ws ≡ true → is_there k ws (length (before k ws)) ≡ false
    → insert ws (length (before k ws)) (record { key = k; value = v }) ≡ with_word k v ws
inserted k v ws up h =
    let p = parts k ws up in
    λ i. p.front i ++ record { key = k; value = v } ∷ p.rest h i

pub place_there : (k : List ℕ) (ws : List Word) → ascend ws ≡ true → is_there k ws (length (before k ws)) ≡ true → length (before k ws) < length ws
place_there k ws up h = (parts k ws up).there h

pub place_within : (k : List ℕ) (ws : List Word) → ascend ws ≡ true → length (before k ws) ≤ length ws
place_within k ws up = (parts k ws up).within

-- words that are filtered still ascend
pub ascend-filter : (p : Word → Bool) (ws : List Word) → ascend ws ≡ true → ascend (filter p ws) ≡ true
ascend-filter p [] up = refl
ascend-filter p (w ∷ ws) up =
    let up_parts = both (all_behind w.key ws) (ascend ws) up in
    elim (p w) as (λ b. ascend (cond b (w ∷ filter p ws) (filter p ws)) ≡ true) [
      | true ↦ join (all_behind w.key (filter p ws)) (ascend (filter p ws)) (all_filter (λ later. is_before w.key later.key) p ws up_parts.0) (ascend-filter p ws up_parts.1)
      | false ↦ ascend-filter p ws up_parts.1
    ]

all_with : (q : Word → Bool) (k v : List ℕ) (ws : List Word) → list_all q ws ≡ true → q (record { key = k; value = v }) ≡ true
    → list_all q (with_word k v ws) ≡ true
all_with q k v ws h e =
    list_all-append q (before k ws) (record { key = k; value = v } ∷ behind k ws)
    ∙ join (list_all q (before k ws)) (q (record { key = k; value = v }) && list_all q (behind k ws))
    (all_filter q (λ w. is_before w.key k) ws h)
    (join (q (record { key = k; value = v })) (list_all q (behind k ws)) e (all_filter q (λ w. is_before k w.key) ws h))

-- with a word more they ascend too
pub ascend-with_word : (k v : List ℕ) (ws : List Word) → ascend ws ≡ true → ascend (with_word k v ws) ≡ true
ascend-with_word k v [] up = refl
ascend-with_word k v (w ∷ ws) up =
    let up_parts = both (all_behind w.key ws) (ascend ws) up in
    elim (stands w.key k) [
      | Before e ↦
          let f : before k (w ∷ ws) ≡ w ∷ before k ws = yes (λ v. is_before v.key k) w ws e in
          let g : behind k (w ∷ ws) ≡ behind k ws = no (λ v. is_before k v.key) w ws (not_back w.key k e) in
          let made : with_word k v (w ∷ ws) ≡ w ∷ with_word k v ws = λ i. f i ++ record { key = k; value = v } ∷ g i in
          ap ascend made
          ∙ join (all_behind w.key (with_word k v ws)) (ascend (with_word k v ws))
          (all_with (λ later. is_before w.key later.key) k v ws up_parts.0 e) (ascend-with_word k v ws up_parts.1)
      | Same e ↦
          let rest = subst (λ a. all_behind a ws ≡ true) e up_parts.0 in
          let from = from_all_behind k ws rest in
          let f : before k (w ∷ ws) ≡ [] = no (λ v. is_before v.key k) w ws (ap (λ a. is_before a k) e ∙ is_before-irrefl k) ∙ from.none in
          let g : behind k (w ∷ ws) ≡ ws = no (λ v. is_before k v.key) w ws (ap (λ a. is_before k a) e ∙ is_before-irrefl k) ∙ from.all in
          let made : with_word k v (w ∷ ws) ≡ record { key = k; value = v } ∷ ws = λ i. f i ++ record { key = k; value = v } ∷ g i in
          ap ascend made ∙ join (all_behind k ws) (ascend ws) rest up_parts.1
      | Behind e ↦
          let rest = all_later k w.key ws e up_parts.0 in
          let from = from_all_behind k ws rest in
          let f : before k (w ∷ ws) ≡ [] = no (λ v. is_before v.key k) w ws (not_back k w.key e) ∙ from.none in
          let g : behind k (w ∷ ws) ≡ w ∷ ws = yes (λ v. is_before k v.key) w ws e ∙ ap (λ vs. w ∷ vs) from.all in
          let made : with_word k v (w ∷ ws) ≡ record { key = k; value = v } ∷ w ∷ ws = λ i. f i ++ record { key = k; value = v } ∷ g i in
          ap ascend made
          ∙ join (all_behind k (w ∷ ws)) (ascend (w ∷ ws)) (join (is_before k w.key) (all_behind k ws) e rest) up
    ]
