-- By when connections are to be shut down.
use Rattle.std.proofs.Common.{◌≡◌, ◌⊎◌, inl, inr, ℕ, ◌≤◌, ◌<◌, refl, sym, ◌∙◌, ap, arith, Some, None}
use Rattle.std.specs.Prelude.{Option, IfNone, IfSome, min, option_and_then}
use Rattle.std.specs.Option.{option_map}
use Rattle.std.proofs.lemmas.Bool.{cases_lt}
use Rattle.floor_loop.specs.declared.line.Entry.{Entry}
use Rattle.floor_loop.specs.Loop.{Attended, Outgoing, earlier, outgoing_in, until_in, until_of}

some_time : (a b : ℕ) → ◌≡◌ {A = Option ℕ} (Some a) (Some b) → a ≡ b
some_time a b e = cc

none_time : (a : ℕ) → ◌≡◌ {A = Option ℕ} None (Some a) → ⊥
none_time a e = cc

-- whose socket failed then is to be shut down by then, or before
until-fails : (o : Outgoing) (t : ℕ) → o.fails ≡ Some t → (u : ℕ) × (until_of o ≡ Some u) × (u ≤ t)
until-fails o t e = by o.ends refl
  where
    by : (z : Option ℕ) → o.ends ≡ z → (u : ℕ) × (until_of o ≡ Some u) × (u ≤ t)
    by None h = (t, ap (λ (f : Option ℕ). earlier f o.ends) e ∙ ap (earlier (Some t)) h, omega arith)
    by (Some s) h = (min t s, ap (λ (f : Option ℕ). earlier f o.ends) e ∙ ap (earlier (Some t)) h, omega arith)

until-ends : (o : Outgoing) (z : Option ℕ) → o.fails ≡ None → o.ends ≡ z → until_of o ≡ z
until-ends o z e h = ap (λ (f : Option ℕ). earlier f o.ends) e ∙ h

until-least : (f e : Option ℕ) (u first : ℕ) → earlier f e ≡ Some u → ((t : ℕ) → f ≡ Some t → first ≤ t) → ((t : ℕ) → e ≡ Some t → first ≤ t) → first ≤ u
until-least None None u first h a b = absurd (none_time u h)
until-least None (Some s) u first h a b = b u h
until-least (Some t) None u first h a b = a u h
until-least (Some t) (Some s) u first h a b =
    let x = a t refl in
    let y = b s refl in
    let z : min t s ≡ u = some_time (min t s) u h in
    omega (arith, x, y, z)

-- whose until it is
until-of : (a : Attended) (number until : ℕ) → until_in a number ≡ Some until → (o : Outgoing) × (outgoing_in a number ≡ Some o) × (until_of o ≡ Some until)
until-of a number until e = by (outgoing_in a number) refl e
  where
    by : (z : Option Outgoing) → outgoing_in a number ≡ z → option_and_then until_of z ≡ Some until → (o : Outgoing) × (outgoing_in a number ≡ Some o) × (until_of o ≡ Some until)
    by None h g = absurd (none_time until g)
    by (Some o) h g = (o, h, g)

-- who has failed and is to be shut down longest, and whose time ends first

abbrev pub Found : (Outgoing → Option ℕ) → Attended → Option Entry → Type 0
Found of a r = IfSome r (λ entry. (o : Outgoing) × (outgoing_in a entry.number ≡ Some o) × (of o ≡ Some entry.time))

abbrev pub Least : (Outgoing → Option ℕ) → Attended → Option Entry → Type 0
Least of a r = IfSome r (λ entry. (number time : ℕ) (o : Outgoing) → outgoing_in a number ≡ Some o → of o ≡ Some time → entry.time ≤ time)

abbrev pub Nobody : (Outgoing → Option ℕ) → Attended → Option Entry → Type 0
Nobody of a r = IfNone r ((number : ℕ) (o : Outgoing) → outgoing_in a number ≡ Some o → of o ≡ None)

pub due-failed : (a : Attended) (entry : Entry) → Found (λ o. o.fails) a (Some entry) → entry.time ≤ a.time → (until : ℕ) × (until_in a entry.number ≡ Some until) × (until ≤ a.time)
due-failed a entry f le = let u = until-fails f.0 entry.time f.2 in let earlier_by = u.2 in (u.0, ap (option_and_then until_of) f.1 ∙ u.1, omega (arith, earlier_by, le))

pub due-ending : (a : Attended) (entry : Entry) → Nobody (λ o. o.fails) a None → Found (λ o. o.ends) a (Some entry) → entry.time ≤ a.time → (until : ℕ) × (until_in a entry.number ≡ Some until) × (until ≤ a.time)
due-ending a entry none f le = (entry.time, ap (option_and_then until_of) f.1 ∙ until-ends f.0 (Some entry.time) (none entry.number f.0 f.1) f.2, le)

least-of : (of : Outgoing → Option ℕ) (a : Attended) (r : Option Entry) (first number : ℕ) (o : Outgoing) → Least of a r → Nobody of a r → ((entry : Entry) → r ≡ Some entry → first ≤ entry.time) → outgoing_in a number ≡ Some o → (t : ℕ) → of o ≡ Some t → first ≤ t
least-of of a None first number o l none le is t e = absurd (none_time t (sym (none number o is) ∙ e))
least-of of a (Some entry) first number o l none le is t e = let x = le entry refl in let y = l number t o is e in omega (arith, x, y)

-- nobody is to be shut down before the first of both
pub not-before : (a : Attended) (r s : Option Entry) (first : ℕ) → Least (λ o. o.fails) a r → Nobody (λ o. o.fails) a r → Least (λ o. o.ends) a s → Nobody (λ o. o.ends) a s →
    ((entry : Entry) → r ≡ Some entry → first ≤ entry.time) → ((entry : Entry) → s ≡ Some entry → first ≤ entry.time) → (number until : ℕ) → until_in a number ≡ Some until → first ≤ until
not-before a r s first l none m lacks x y number until is =
    let o = until-of a number until is in
    until-least o.0.fails o.0.ends until first o.2 (least-of (λ o. o.fails) a r first number o.0 l none x o.1) (least-of (λ o. o.ends) a s first number o.0 m lacks y o.1)

-- the first of both is somebody's
pub first-found : (a : Attended) (r s : Option Entry) → Found (λ o. o.fails) a r → Least (λ o. o.fails) a r → Nobody (λ o. o.fails) a r → Found (λ o. o.ends) a s → Least (λ o. o.ends) a s → Nobody (λ o. o.ends) a s →
    IfSome (earlier (option_map (λ e. e.time) r) (option_map (λ e. e.time) s)) (λ until. (number : ℕ) × (until_in a number ≡ Some until))
first-found a None None f l none g m lacks = tt
first-found a None (Some e) f l none g m lacks = (e.number, ap (option_and_then until_of) g.1 ∙ until-ends g.0 (Some e.time) (none e.number g.0 g.1) g.2)
first-found a (Some d) None f l none g m lacks = (d.number, ap (option_and_then until_of) f.1 ∙ ap (λ (z : Option ℕ). earlier z f.0.ends) f.2 ∙ ap (earlier (Some d.time)) (lacks d.number f.0 f.1))
first-found a (Some d) (Some e) f l none g m lacks = by (cases_lt e.time d.time)
  where
    by : (e.time < d.time) ⊎ (d.time ≤ e.time) → (number : ℕ) × (until_in a number ≡ Some (min d.time e.time))
    by (inr le) = (d.number, ap (option_and_then until_of) f.1 ∙ ap (λ (z : Option ℕ). earlier z f.0.ends) f.2 ∙ ends f.0.ends refl)
      where
        ends : (z : Option ℕ) → f.0.ends ≡ z → earlier (Some d.time) f.0.ends ≡ Some (min d.time e.time)
        ends None h = ap (earlier (Some d.time)) h ∙ ap Some (omega (arith, le))
        ends (Some t) h = let least = m d.number t f.0 f.1 h in ap (earlier (Some d.time)) h ∙ ap Some (omega (arith, le, least))
    by (inl less) = (e.number, ap (option_and_then until_of) g.1 ∙ fails g.0.fails refl ∙ ap Some (omega (arith, less)))
      where
        fails : (z : Option ℕ) → g.0.fails ≡ z → until_of g.0 ≡ Some e.time
        fails None h = until-ends g.0 (Some e.time) h g.2
        fails (Some t) h = let least = l e.number t g.0 g.1 h in ap (λ (y : Option ℕ). earlier y g.0.ends) h ∙ ap (earlier (Some t)) g.2 ∙ ap Some (omega (arith, less, least))

pub first-least : (a : Attended) (r s : Option Entry) → Least (λ o. o.fails) a r → Nobody (λ o. o.fails) a r → Least (λ o. o.ends) a s → Nobody (λ o. o.ends) a s →
    IfSome (earlier (option_map (λ e. e.time) r) (option_map (λ e. e.time) s)) (λ first. (number until : ℕ) → until_in a number ≡ Some until → first ≤ until)
first-least a None None l none m lacks = tt
first-least a None (Some e) l none m lacks = not-before a None (Some e) e.time l none m lacks (λ entry h. absurd (no_entry entry h)) (λ entry h. same_time e entry h)
  where
    no_entry : (x : Entry) → ◌≡◌ {A = Option Entry} None (Some x) → ⊥
    no_entry x h = cc

    same_time : (x y : Entry) → ◌≡◌ {A = Option Entry} (Some x) (Some y) → x.time ≤ y.time
    same_time x y h = let time : x.time ≡ y.time = cc in omega (arith, time)
first-least a (Some d) None l none m lacks = not-before a (Some d) None d.time l none m lacks (λ entry h. same_time d entry h) (λ entry h. absurd (no_entry entry h))
  where
    no_entry : (x : Entry) → ◌≡◌ {A = Option Entry} None (Some x) → ⊥
    no_entry x h = cc

    same_time : (x y : Entry) → ◌≡◌ {A = Option Entry} (Some x) (Some y) → x.time ≤ y.time
    same_time x y h = let time : x.time ≡ y.time = cc in omega (arith, time)
first-least a (Some d) (Some e) l none m lacks =
    not-before a (Some d) (Some e) (min d.time e.time) l none m lacks (λ entry h. let time = same_time d entry h in omega (arith, time)) (λ entry h. let time = same_time e entry h in omega (arith, time))
  where
    same_time : (x y : Entry) → ◌≡◌ {A = Option Entry} (Some x) (Some y) → x.time ≡ y.time
    same_time x y h = cc

pub first-none : (a : Attended) (r s : Option Entry) → Nobody (λ o. o.fails) a r → Nobody (λ o. o.ends) a s → IfNone (earlier (option_map (λ e. e.time) r) (option_map (λ e. e.time) s)) ((number : ℕ) → until_in a number ≡ None)
first-none a None (Some e) none lacks = tt
first-none a (Some d) None none lacks = tt
first-none a (Some d) (Some e) none lacks = tt
first-none a None None none lacks = λ number. by number (outgoing_in a number) refl
  where
    by : (number : ℕ) (z : Option Outgoing) → outgoing_in a number ≡ z → option_and_then until_of z ≡ None
    by number None h = refl
    by number (Some o) h = until-ends o None (none number o h) (lacks number o h)

pub if-some : {P Q : Entry → Type 0} (r : Option Entry) → ((e : Entry) → P e → Q e) → IfSome r P → IfSome r Q
if-some None f s = s
if-some (Some e) f s = f e s

pub if-none : {P Q : Type 0} (r : Option Entry) → (P → Q) → IfNone r P → IfNone r Q
if-none None f s = f s
if-none (Some e) f s = s

-- where nobody is to be shut down nobody's time is over
pub none-due : (a : Attended) → Nobody (λ o. o.fails) a None → Nobody (λ o. o.ends) a None → (number until : ℕ) → until_in a number ≡ Some until → a.time < until
none-due a none lacks number until is = absurd (none_time until (sym (first-none a None None none lacks number) ∙ is))

-- nor where the first is later
pub later-due : (a : Attended) (entry : Entry) → Nobody (λ o. o.fails) a None → Least (λ o. o.ends) a (Some entry) → a.time < entry.time → (number until : ℕ) → until_in a number ≡ Some until → a.time < until
later-due a entry none least later number until is =
    let o = until-of a number until is in
    let first = until-least o.0.fails o.0.ends until entry.time o.2 (λ t h. absurd (none_time t (sym (none number o.0 o.1) ∙ h))) (λ t h. least number t o.0 o.1 h) in
    omega (arith, first, later)
