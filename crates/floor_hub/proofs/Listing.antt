-- Lists of live connections, and of their numbers.
use Rattle.std.proofs.Common.{◌≡◌, ◌⊎◌, ◌<◌, ◌≤◌, ◌+◌, ◌++◌, ℕ, zero, suc, List, [], ◌∷◌, Bool, true, false, cond, arith, map, length, refl, sym, ◌∙◌, ap, subst, inl, inr}
use Rattle.std.specs.Prelude.{filter, not, ◌==◌}
use Rattle.std.specs.List.{Contains, slice_index_or}
use Rattle.floor_hub.specs.declared.attached.Live.{Live}
use Rattle.floor_hub.specs.Concerned.{AscendFrom}
use Rattle.floor_hub.specs.steps.Attached.{AreListed, AreWithin, EachOf, IsBehind, IsIn, Stands, without}

pub in-contains : (numbers : List ℕ) (number : ℕ) → IsIn numbers number → Contains numbers number
in-contains [] number h = absurd h
in-contains (k ∷ numbers) number (inl e) = (0, omega arith, e)
in-contains (k ∷ numbers) number (inr h) = let t = in-contains numbers number h in (suc t.0, omega arith, t.2)

pub contains-in : (numbers : List ℕ) (number : ℕ) → Contains numbers number → IsIn numbers number
contains-in numbers number t = by numbers t.0 t.1 t.2
  where
    by : (xs : List ℕ) (k : ℕ) → k < length xs → slice_index_or xs k number ≡ number → IsIn xs number
    by [] k l e = absurd (omega arith)
    by (x ∷ xs) zero l e = inl e
    by (x ∷ xs) (suc k) l e = inr (by xs k (omega arith) e)

-- what ascends from further on ascends from here
pub ascend-from : (j k : ℕ) (numbers : List ℕ) → j ≤ k → AscendFrom k numbers → AscendFrom j numbers
ascend-from j k [] l h = tt
ascend-from j k (number ∷ numbers) l h = (omega (arith, h.0), h.1)

-- some of those that ascend ascend
pub ascend-filter : (key : Live → ℕ) (p : Live → Bool) (k : ℕ) (live : List Live) → AscendFrom k (map key live) → AscendFrom k (map key (filter p live))
ascend-filter key p k [] h = tt
ascend-filter key p k (l ∷ live) h = by (p l) refl (ascend-filter key p (key l) live h.1)
  where
    by : (b : Bool) → p l ≡ b → AscendFrom (key l) (map key (filter p live)) → AscendFrom k (map key (filter p (l ∷ live)))
    by true e rest = rw e (h.0, rest)
    by false e rest = rw e (ascend-from k (key l) _ (omega (arith, h.0)) rest)

-- one more, above all
pub ascend-push : (k number : ℕ) (numbers : List ℕ) → k < number → ((i : ℕ) → IsIn numbers i → i < number) → AscendFrom k numbers → AscendFrom k (numbers ++ number ∷ [])
ascend-push k number [] l below h = (l, tt)
ascend-push k number (x ∷ xs) l below h = (h.0, ascend-push x number xs (below x (inl refl)) (λ i j. below i (inr j)) h.1)

-- all that ascend from here on are above
pub above : (k i : ℕ) (numbers : List ℕ) → AscendFrom k numbers → IsIn numbers i → k < i
above k i [] h e = absurd e
above k i (x ∷ xs) h (inl e) = omega (arith, e, h.0)
above k i (x ∷ xs) h (inr e) = omega (arith, h.0, above x i xs h.1 e)

-- whatever is above the first stands behind it
behind : (y i : ℕ) (ys : List ℕ) → y < i → (y ≡ i) ⊎ IsIn ys i → IsIn ys i
behind y i ys l (inl e) = absurd (omega (arith, e, l))
behind y i ys l (inr e) = e

higher : (x y i : ℕ) (xs : List ℕ) → y < x → AscendFrom x xs → IsIn (x ∷ xs) i → y < i
higher x y i xs l up (inl e) = omega (arith, e, l)
higher x y i xs l up (inr e) = omega (arith, l, above x i xs up e)

-- numbers that ascend, of which each is one of others that ascend, are no more than these
pub no-more : (j k : ℕ) (xs ys : List ℕ) → AscendFrom j xs → AscendFrom k ys → ((i : ℕ) → IsIn xs i → IsIn ys i) → length xs ≤ length ys
no-more j k [] ys up ups within = omega arith
no-more j k (x ∷ xs) [] up ups within = absurd (within x (inl refl))
no-more j k (x ∷ xs) (y ∷ ys) up ups within = by (within x (inl refl)) (λ h. no-more x y xs ys up.1 ups.1 h) (λ h. no-more j y (x ∷ xs) ys up ups.1 h)
  where
    by : (y ≡ x) ⊎ IsIn ys x → (((i : ℕ) → IsIn xs i → IsIn ys i) → length xs ≤ length ys) → (((i : ℕ) → IsIn (x ∷ xs) i → IsIn ys i) → length (x ∷ xs) ≤ length ys) → length (x ∷ xs) ≤ length (y ∷ ys)
    by (inl e) same later = omega (arith, same (λ i h. behind y i ys (omega (arith, e, above x i xs up.1 h)) (within i (inr h))))
    by (inr e) same later = omega (arith, later (λ i h. behind y i ys (higher x y i xs (above y x ys ups.1 e) up.1 h) (within i h)))

-- and fewer where one of these isn't among them
pub fewer : (j k n : ℕ) (xs ys : List ℕ) → AscendFrom j xs → AscendFrom k ys → ((i : ℕ) → IsIn xs i → IsIn ys i) → IsIn ys n → ¬ IsIn xs n → length xs < length ys
fewer j k n xs [] up ups within there none = absurd there
fewer j k n [] (y ∷ ys) up ups within there none = omega arith
fewer j k n (x ∷ xs) (y ∷ ys) up ups within there none = by (within x (inl refl)) (λ h i. fewer x y n xs ys up.1 ups.1 h i (λ w. none (inr w)))
  where
    other : y ≡ x → (y ≡ n) ⊎ IsIn ys n → IsIn ys n
    other e (inl h) = absurd (none (inl (sym e ∙ h)))
    other e (inr h) = h

    by : (y ≡ x) ⊎ IsIn ys x → (((i : ℕ) → IsIn xs i → IsIn ys i) → IsIn ys n → length xs < length ys) → length (x ∷ xs) < length (y ∷ ys)
    by (inl e) same = omega (arith, same (λ i h. behind y i ys (omega (arith, e, above x i xs up.1 h)) (within i (inr h))) (other e there))
    by (inr e) same = omega (arith, no-more j y (x ∷ xs) ys up ups.1 (λ i h. behind y i ys (higher x y i xs (above y x ys ups.1 e) up.1 h) (within i h)))

pub each-push : (P : Live → Type 0) (live : List Live) (l : Live) → EachOf P live → P l → EachOf P (live ++ l ∷ [])
each-push P [] l h p = (p, tt)
each-push P (x ∷ live) l h p = (h.0, each-push P live l h.1 p)

pub each-filter : (P : Live → Type 0) (p : Live → Bool) (live : List Live) → EachOf P live → EachOf P (filter p live)
each-filter P p [] h = tt
each-filter P p (l ∷ live) h = by (p l) (each-filter P p live h.1)
  where
    by : (b : Bool) → EachOf P (filter p live) → EachOf P (cond b (l ∷ filter p live) (filter p live))
    by true rest = (h.0, rest)
    by false rest = rest

-- a number among those of the connections that pass a test is that of one of them
pub named-of : (p : Live → Bool) (P : Live → Type 0) (live : List Live) (number : ℕ) → EachOf P live → IsIn (map (λ l. l.number) (filter p live)) number →
    (l : Live) × (p l ≡ true) × Stands live number l.n × P l
named-of p P [] number each h = absurd h
named-of p P (l ∷ live) number each h = by (p l) refl h (λ i. let t = named-of p P live number each.1 i in (t.0, t.1, inr t.2, t.3))
  where
    Found : Type 0
    Found = (m : Live) × (p m ≡ true) × Stands (l ∷ live) number m.n × P m

    split : ((l.number ≡ number) ⊎ IsIn (map (λ l. l.number) (filter p live)) number) → p l ≡ true → (IsIn (map (λ l. l.number) (filter p live)) number → Found) → Found
    split (inl i) e more = (l, e, inl (i, refl), each.0)
    split (inr i) e more = more i

    by : (b : Bool) → p l ≡ b → IsIn (map (λ l. l.number) (filter p (l ∷ live))) number → (IsIn (map (λ l. l.number) (filter p live)) number → Found) → Found
    by true e h more = split (rw e at h) e more
    by false e h more = more (rw e at h)

-- a connection whose number isn't among them doesn't pass it
pub unnamed-of : (p : Live → Bool) (P : Live → Type 0) (live : List Live) (number n : ℕ) → EachOf P live → Stands live number n → ¬ IsIn (map (λ l. l.number) (filter p live)) number →
    (l : Live) × (l.number ≡ number) × (l.n ≡ n) × (p l ≡ false) × P l
unnamed-of p P [] number n each h none = absurd h
unnamed-of p P (l ∷ live) number n each h none = by (p l) refl none h (λ i j. unnamed-of p P live number n each.1 i j)
  where
    Found : Type 0
    Found = (m : Live) × (m.number ≡ number) × (m.n ≡ n) × (p m ≡ false) × P m

    More : Type 0
    More = Stands live number n → ¬ IsIn (map (λ l. l.number) (filter p live)) number → Found

    passed : ¬ ((l.number ≡ number) ⊎ IsIn (map (λ l. l.number) (filter p live)) number) → Stands (l ∷ live) number n → More → Found
    passed none (inl i) more = absurd (none (inl i.0))
    passed none (inr i) more = more i (λ j. none (inr j))

    failed : p l ≡ false → ¬ IsIn (map (λ l. l.number) (filter p live)) number → Stands (l ∷ live) number n → More → Found
    failed e none (inl i) more = (l, i.0, i.1, e, each.0)
    failed e none (inr i) more = more i none

    by : (b : Bool) → p l ≡ b → ¬ IsIn (map (λ l. l.number) (filter p (l ∷ live))) number → Stands (l ∷ live) number n → More → Found
    by true e none h more = passed (rw e at none) h more
    by false e none h more = failed e (rw e at none) h more

-- what keeps numbers
abbrev pub Keeps : (Live → Live) → Type 0
Keeps f = (l : Live) → ((f l).number ≡ l.number) × ((f l).n ≡ l.n)

pub stands-map : (f : Live → Live) (live : List Live) (number n : ℕ) → Keeps f → Stands live number n → Stands (map f live) number n
stands-map f [] number n k h = absurd h
stands-map f (l ∷ live) number n k (inl i) = inl ((k l).0 ∙ i.0, (k l).1 ∙ i.1)
stands-map f (l ∷ live) number n k (inr i) = inr (stands-map f live number n k i)

pub map-stands : (f : Live → Live) (live : List Live) (number n : ℕ) → Keeps f → Stands (map f live) number n → Stands live number n
map-stands f [] number n k h = absurd h
map-stands f (l ∷ live) number n k (inl i) = inl (sym (k l).0 ∙ i.0, sym (k l).1 ∙ i.1)
map-stands f (l ∷ live) number n k (inr i) = inr (map-stands f live number n k i)

-- a change that leaves a key leaves the keys
pub keys-map : (key : Live → ℕ) (f : Live → Live) (live : List Live) → ((l : Live) → key (f l) ≡ key l) → map key (map f live) ≡ map key live
keys-map key f [] k = refl
keys-map key f (l ∷ live) k = ap (λ i. i ∷ map key (map f live)) (k l) ∙ ap (λ i. key l ∷ i) (keys-map key f live k)

pub stands-push : (live : List Live) (l : Live) (number n : ℕ) → Stands live number n → Stands (live ++ l ∷ []) number n
stands-push [] l number n h = absurd h
stands-push (x ∷ live) l number n (inl i) = inl i
stands-push (x ∷ live) l number n (inr i) = inr (stands-push live l number n i)

pub stands-last : (live : List Live) (l : Live) → Stands (live ++ l ∷ []) l.number l.n
stands-last [] l = inl (refl, refl)
stands-last (x ∷ live) l = inr (stands-last live l)

pub push-stands : (live : List Live) (l : Live) (number n : ℕ) → Stands (live ++ l ∷ []) number n → Stands live number n ⊎ ((l.number ≡ number) × (l.n ≡ n))
push-stands [] l number n (inl i) = inr i
push-stands [] l number n (inr i) = absurd i
push-stands (x ∷ live) l number n (inl i) = inl (inl i)
push-stands (x ∷ live) l number n (inr i) = elim (push-stands live l number n i) [ inl j ↦ inl (inr j) | inr j ↦ inr j ]

pub keys-push : (key : Live → ℕ) (live : List Live) (l : Live) → map key (live ++ l ∷ []) ≡ map key live ++ key l ∷ []
keys-push key [] l = refl
keys-push key (x ∷ live) l = ap (λ i. key x ∷ i) (keys-push key live l)

-- a number of the list stands there, as some n, and an n under some number
pub in-stands : (live : List Live) (number : ℕ) → IsIn (map (λ l. l.number) live) number → (n : ℕ) × Stands live number n
in-stands [] number h = absurd h
in-stands (l ∷ live) number (inl i) = (l.n, inl (i, refl))
in-stands (l ∷ live) number (inr i) = let t = in-stands live number i in (t.0, inr t.1)

pub member-stands : (live : List Live) (n : ℕ) → IsIn (map (λ l. l.n) live) n → (number : ℕ) × Stands live number n
member-stands [] n h = absurd h
member-stands (l ∷ live) n (inl i) = (l.number, inl (refl, i))
member-stands (l ∷ live) n (inr i) = let t = member-stands live n i in (t.0, inr t.1)

pub stands-in : (live : List Live) (number n : ℕ) → Stands live number n → IsIn (map (λ l. l.number) live) number
stands-in [] number n h = absurd h
stands-in (l ∷ live) number n (inl i) = inl i.0
stands-in (l ∷ live) number n (inr i) = inr (stands-in live number n i)

-- those that pass a test which the number alone decides
pub stands-filter : (p : Live → Bool) (live : List Live) (number n : ℕ) → ((l : Live) → l.number ≡ number → p l ≡ true) → Stands live number n → Stands (filter p live) number n
stands-filter p [] number n pass h = absurd h
stands-filter p (l ∷ live) number n pass (inl i) = rw (pass l i.0) (inl i)
stands-filter p (l ∷ live) number n pass (inr i) = by (p l) refl (stands-filter p live number n pass i)
  where
    by : (b : Bool) → p l ≡ b → Stands (filter p live) number n → Stands (filter p (l ∷ live)) number n
    by true e rest = rw e (inr rest)
    by false e rest = rw e rest

pub filter-stands : (p : Live → Bool) (live : List Live) (number n : ℕ) → Stands (filter p live) number n → Stands live number n × ((l : Live) × (l.number ≡ number) × (p l ≡ true))
filter-stands p [] number n h = absurd h
filter-stands p (l ∷ live) number n h = by (p l) refl h (λ i. let t = filter-stands p live number n i in (inr t.0, t.1))
  where
    Found : Type 0
    Found = Stands (l ∷ live) number n × ((m : Live) × (m.number ≡ number) × (p m ≡ true))

    split : p l ≡ true → Stands (l ∷ filter p live) number n → (Stands (filter p live) number n → Found) → Found
    split e (inl i) more = (inl i, (l, i.0, e))
    split e (inr i) more = more i

    by : (b : Bool) → p l ≡ b → Stands (filter p (l ∷ live)) number n → (Stands (filter p live) number n → Found) → Found
    by true e h more = split e (rw e at h) more
    by false e h more = more (rw e at h)

length-filter : (p : Live → Bool) (live : List Live) → length (filter p live) ≤ length live
length-filter p [] = omega arith
length-filter p (l ∷ live) = by (p l) refl (length-filter p live)
  where
    by : (b : Bool) → p l ≡ b → length (filter p live) ≤ length live → length (filter p (l ∷ live)) ≤ length (l ∷ live)
    by true e h = rw e (omega (arith, h))
    by false e h = rw e (omega (arith, h))

pub length_without : (number : ℕ) (live : List Live) → length (without number live) ≤ length live
length_without number live = length-filter (λ l. not (l.number == number)) live

pub length-keys : (key : Live → ℕ) (live : List Live) → length (map key live) ≡ length live
length-keys key [] = refl
length-keys key (l ∷ live) = omega (arith, length-keys key live)

pub length-changed : (f : Live → Live) (live : List Live) → length (map f live) ≡ length live
length-changed f [] = refl
length-changed f (l ∷ live) = omega (arith, length-changed f live)

-- one more connection comes behind the others
pub listed-more : (live : List Live) (l : Live) → AreListed live → IsBehind live l.number l.n → AreListed (live ++ l ∷ [])
listed-more live l h behind = (
  subst (AscendFrom 0) (sym (keys-push (λ o. o.number) live l)) (ascend-push 0 l.number (map (λ o. o.number) live) behind.first behind.numbers h.0),
  subst (AscendFrom 0) (sym (keys-push (λ o. o.n) live l)) (ascend-push 0 l.n (map (λ o. o.n) live) behind.first_n behind.members h.1),
)

-- and so do those that are left
pub listed-without : (number : ℕ) (live : List Live) → AreListed live → AreListed (without number live)
listed-without number live h = (
  ascend-filter (λ o. o.number) (λ l. not (l.number == number)) 0 live h.0,
  ascend-filter (λ o. o.n) (λ l. not (l.number == number)) 0 live h.1,
)

-- a change that leaves the numbers leaves the order
pub listed-changed : (f : Live → Live) (live after : List Live) → Keeps f → after ≡ map f live → AreListed live → AreListed after
listed-changed f live after keeps is h = subst AreListed (sym is) (
  subst (AscendFrom 0) (sym (keys-map (λ o. o.number) f live (λ l. (keeps l).0))) h.0,
  subst (AscendFrom 0) (sym (keys-map (λ o. o.n) f live (λ l. (keeps l).1))) h.1,
)

-- who stands behind so many connections, each of which has an outbox, has a further one
pub behind-all : (live : List Live) (number n outboxes members : ℕ) → AreWithin live number outboxes → outboxes ≡ members → n ≡ members + 1 → IsBehind live number n
behind-all live number n outboxes members h same is = record {
  first = h.first;
  first_n = omega (arith, is);
  numbers = h.numbers;
  members = λ k i. omega (arith, is, same, h.members k i);
}
