-- What was carried stays so, whatever comes.
use Rattle.std.proofs.Common.{◌≡◌, ℕ, ◌+◌, ◌≤◌, ◌==◌, Bool, true, false, List, [], ◌∷◌, ◌++◌, length, Option, Some, None, inl, inr, nat_eq, nat_lt, refl, sym, ap, subst, ◌∙◌, append-nil, if◌then◌else◌, arith}
use Rattle.std.specs.Prelude.{Result, Ok, Err, IfOk}
use Rattle.std.specs.List.{AllByRecursion, flat_map, list_any}
use Rattle.std.specs.Cmp.Lexicographic.{pointwise, same_text}
use Rattle.std.proofs.lemmas.Grind.{flat_map-append}
use Rattle.floor_datagram.specs.Datagrams.{id_of, primitive_of, kind_of}
use Rattle.floor_datagram.specs.Numbering.{age_of}
use Rattle.floor_datagram.specs.Written.{lowered, error}
use Rattle.floor_datagram.specs.Fragments.{Fragments, none_held, Placed, placed, placed_in, held_of, since_of, without, whole_of, with_range, place_of, is_same_range, overlaps, offset_of, fragment_of, head_of, range_of, payload_of, joined}
use Rattle.floor_datagram.specs.Requests.{Requests, Effect, replied, silent, max_waiting, passed_on, parted, taken, asked, judged, put_together, aged, parts, does, effect, Took}
use Rattle.floor_datagram.specs.declared.heard.Heard.{Heard}
use Rattle.floor_datagram.specs.Taken.{IsAmong, Carries, IsPutTogether, IsMadeOf, Ascends, last_id, sent_of, Carried, KeepsCarried}
use Rattle.floor_datagram.specs.declared.kind.Kind.{Kind}
use Rattle.floor_datagram.specs.declared.kind.Kind.TheVariants as Kinds
use Rattle.floor_datagram.specs.declared.numbering.Age.{Age}
use Rattle.floor_datagram.specs.declared.numbering.Age.TheVariants.{Copy, Older, Newer}
use Rattle.floor_datagram.specs.declared.fragments.Fragment.{Fragment}
use Rattle.floor_datagram.specs.declared.fragments.Fragment.TheVariants as Fragment_is
use Rattle.floor_datagram.specs.declared.fragments.Range.{Range}
use Rattle.floor_datagram.proofs.Each.{each-append, each-insert, each-map}

-- ---- what came

pub among-more : (came more : List (List ℕ)) (d : List ℕ) → IsAmong came d → IsAmong (came ++ more) d
among-more [] more d a = absurd a
among-more (c ∷ came) more d (inl e) = inl e
among-more (c ∷ came) more d (inr a) = inr (among-more came more d a)

pub among-last : (came : List (List ℕ)) (d : List ℕ) → IsAmong (came ++ d ∷ []) d
among-last [] d = inl refl
among-last (c ∷ came) d = inr (among-last came d)

-- ---- more that comes

carries-more : (came more : List (List ℕ)) (head : List ℕ) (r : Range) → Carries came head r → Carries (came ++ more) head r
carries-more came more head r c = record { fragment = c.fragment; among = among-more came more c.fragment c.among; part = c.part; head_is = c.head_is; range_is = c.range_is }

made-more : (came more : List (List ℕ)) (m : List ℕ) → IsMadeOf came m → IsMadeOf (came ++ more) m
made-more came more m (inl a) = inl (among-more came more m a)
made-more came more m (inr p) = inr (record {
  ranges = p.ranges;
  carried = each-map (Carries came (head_of m)) (Carries (came ++ more) (head_of m)) (carries-more came more (head_of m)) p.ranges p.carried;
  payload = p.payload;
})

pub carried-more : (came more : List (List ℕ)) (up : List ℕ) (r : Requests) → Carried came up r → Carried (came ++ more) up r
carried-more came more up r c = record {
  taken = c.taken;
  made = each-map (IsMadeOf came) (IsMadeOf (came ++ more)) (made-more came more) c.taken c.made;
  ascend = c.ascend;
  last = c.last;
  sent = c.sent;
  held = each-map (Carries came r.held.head) (Carries (came ++ more) r.held.head) (carries-more came more r.held.head) r.held.ranges c.held;
}

-- ---- one more that is taken

ascends-snoc : (last : Option ℕ) (ms : List (List ℕ)) (m : List ℕ) → Ascends last ms → age_of (last_id last ms) (id_of m) ≡ Newer → Ascends last (ms ++ m ∷ [])
ascends-snoc last [] m a n = (n, tt)
ascends-snoc last (x ∷ ms) m a n = (a.0, ascends-snoc (Some (id_of x)) ms m a.1 n)

last_id-snoc : (last : Option ℕ) (ms : List (List ℕ)) (m : List ℕ) → last_id last (ms ++ m ∷ []) ≡ Some (id_of m)
last_id-snoc last [] m = refl
last_id-snoc last (x ∷ ms) m = last_id-snoc (Some (id_of x)) ms m

-- what was carried and what an effect adds to it
abbrev pub Kept : List (List ℕ) → List ℕ → Effect → Type 0
Kept came up e = Carried came (up ++ e.up) e.after

choose : (came : List (List ℕ)) (up : List ℕ) (b : Bool) (e f : Effect) → Kept came up e → Kept came up f → Kept came up (if b then e else f)
choose came up true e f p q = p
choose came up false e f p q = q

replied-kept : (came : List (List ℕ)) (up : List ℕ) (r : Requests) (down : List (List ℕ)) → Carried came up r → Kept came up (replied r down)
replied-kept came up r down c = let P : List ℕ → Type 0 = λ l. Carried came l r in subst P (sym (append-nil up)) c

sent-snoc : (ms : List (List ℕ)) (m : List ℕ) → flat_map (λ x. sent_of x) (ms ++ m ∷ []) ≡ flat_map (λ x. sent_of x) ms ++ sent_of m
sent-snoc ms m = flat_map-append (λ x. sent_of x) ms (m ∷ []) ∙ ap (λ l. flat_map (λ x. sent_of x) ms ++ l) (append-nil (sent_of m))

-- a request is taken
one-more : (came : List (List ℕ)) (up added : List ℕ) (r after : Requests) (m : List ℕ) → Carried came up r → IsMadeOf came m → age_of r.last (id_of m) ≡ Newer
    → sent_of m ≡ added → after.last ≡ Some (id_of m) → AllByRecursion (Carries came after.held.head) after.held.ranges → Carried came (up ++ added) after
one-more came up added r after m c made newer sent last held = record {
  taken = c.taken ++ m ∷ [];
  made = each-append (IsMadeOf came) c.taken (m ∷ []) c.made (made, tt);
  ascend = ascends-snoc None c.taken m c.ascend (ap (λ l. age_of l (id_of m)) (sym c.last) ∙ newer);
  last = last ∙ sym (last_id-snoc None c.taken m);
  sent = ap (λ l. l ++ added) c.sent ∙ ap (λ l. flat_map (λ x. sent_of x) c.taken ++ l) (sym sent) ∙ sym (sent-snoc c.taken m);
  held = held;
}

taken-kept : (came : List (List ℕ)) (up : List ℕ) (r : Requests) (waiting : ℕ) (m : List ℕ) (b : Bool) → (primitive_of m == 16) ≡ b
    → Carried came up r → IsMadeOf came m → age_of r.last (id_of m) ≡ Newer → Kept came up (if b then parted r m else passed_on r waiting m)
taken-kept came up r waiting m true is c made newer =
    one-more came up [] r (parted r m).after m c made newer (ap (λ b. if b then [] else lowered m) is) refl tt
taken-kept came up r waiting m false is c made newer =
    choose came up (nat_lt max_waiting (waiting + length m)) (silent r) _ (replied-kept came up r [] c)
    (one-more came up (lowered m) r (record { last = Some (id_of m); answer = []; held = r.held; over = r.over }) m c made newer
    (ap (λ b. if b then [] else lowered m) is) refl c.held)

asked-kept : (came : List (List ℕ)) (up : List ℕ) (r : Requests) (waiting : ℕ) (m : List ℕ) (a : Age) → age_of r.last (id_of m) ≡ a
    → Carried came up r → IsMadeOf came m → Kept came up (asked a r waiting m)
asked-kept came up r waiting m Copy is c made = replied-kept came up r r.answer c
asked-kept came up r waiting m Older is c made = replied-kept came up r [] c
asked-kept came up r waiting m Newer is c made =
    choose came up r.over (silent r) (taken r waiting m) (replied-kept came up r [] c)
    (taken-kept came up r waiting m (primitive_of m == 16) refl c made is)

judged-kept : (came : List (List ℕ)) (up : List ℕ) (r : Requests) (waiting : ℕ) (m : List ℕ) (k : Kind)
    → Carried came up r → IsMadeOf came m → Kept came up (judged k r waiting m)
judged-kept came up r waiting m Kinds.Fragment c made = replied-kept came up r [] c
judged-kept came up r waiting m Kinds.Misfit c made = replied-kept came up r (error 13 m ∷ []) c
judged-kept came up r waiting m Kinds.Acknowledgement c made = replied-kept came up r [] c
judged-kept came up r waiting m Kinds.Request c made = asked-kept came up r waiting m (age_of r.last (id_of m)) refl c made
judged-kept came up r waiting m Kinds.Nothing c made = replied-kept came up r [] c

-- other fragments are held
held-kept : (came : List (List ℕ)) (up : List ℕ) (r : Requests) (held : Fragments) → Carried came up r
    → AllByRecursion (Carries came held.head) held.ranges → Carried came up (record r { held = held })
held-kept came up r held c h = record { taken = c.taken; made = c.made; ascend = c.ascend; last = c.last; sent = c.sent; held = h }

-- ---- fragments

abbrev IsMadeIfAny : List (List ℕ) → Option (List ℕ) → Type 0
IsMadeIfAny came None = Unit {0}
IsMadeIfAny came (Some m) = IsMadeOf came m

-- what is held of a message came, and what is put together of it is made of what came
abbrev Places : List (List ℕ) → Placed → Type 0
Places came p = AllByRecursion (Carries came p.held.head) p.held.ranges × IsMadeIfAny came p.message

choose-placed : (came : List (List ℕ)) (b : Bool) (p q : Placed) → Places came p → Places came q → Places came (if b then p else q)
choose-placed came true p q x y = x
choose-placed came false p q x y = y

-- a list of 12 numbers at least
record Twelve (d : List ℕ) : Type 0 where
  a0 : ℕ
  a1 : ℕ
  a2 : ℕ
  a3 : ℕ
  a4 : ℕ
  a5 : ℕ
  a6 : ℕ
  a7 : ℕ
  a8 : ℕ
  a9 : ℕ
  a10 : ℕ
  a11 : ℕ
  rest : List ℕ
  is : d ≡ a0 ∷ a1 ∷ a2 ∷ a3 ∷ a4 ∷ a5 ∷ a6 ∷ a7 ∷ a8 ∷ a9 ∷ a10 ∷ a11 ∷ rest

twelve : (d : List ℕ) → 12 ≤ length d → Twelve d
twelve [] h = absurd (omega (arith, h))
twelve (a0 ∷ []) h = absurd (omega (arith, h))
twelve (a0 ∷ a1 ∷ []) h = absurd (omega (arith, h))
twelve (a0 ∷ a1 ∷ a2 ∷ []) h = absurd (omega (arith, h))
twelve (a0 ∷ a1 ∷ a2 ∷ a3 ∷ []) h = absurd (omega (arith, h))
twelve (a0 ∷ a1 ∷ a2 ∷ a3 ∷ a4 ∷ []) h = absurd (omega (arith, h))
twelve (a0 ∷ a1 ∷ a2 ∷ a3 ∷ a4 ∷ a5 ∷ []) h = absurd (omega (arith, h))
twelve (a0 ∷ a1 ∷ a2 ∷ a3 ∷ a4 ∷ a5 ∷ a6 ∷ []) h = absurd (omega (arith, h))
twelve (a0 ∷ a1 ∷ a2 ∷ a3 ∷ a4 ∷ a5 ∷ a6 ∷ a7 ∷ []) h = absurd (omega (arith, h))
twelve (a0 ∷ a1 ∷ a2 ∷ a3 ∷ a4 ∷ a5 ∷ a6 ∷ a7 ∷ a8 ∷ []) h = absurd (omega (arith, h))
twelve (a0 ∷ a1 ∷ a2 ∷ a3 ∷ a4 ∷ a5 ∷ a6 ∷ a7 ∷ a8 ∷ a9 ∷ []) h = absurd (omega (arith, h))
twelve (a0 ∷ a1 ∷ a2 ∷ a3 ∷ a4 ∷ a5 ∷ a6 ∷ a7 ∷ a8 ∷ a9 ∷ a10 ∷ []) h = absurd (omega (arith, h))
twelve (a0 ∷ a1 ∷ a2 ∷ a3 ∷ a4 ∷ a5 ∷ a6 ∷ a7 ∷ a8 ∷ a9 ∷ a10 ∷ a11 ∷ rest) h = record { a0 = a0; a1 = a1; a2 = a2; a3 = a3; a4 = a4; a5 = a5; a6 = a6; a7 = a7; a8 = a8; a9 = a9; a10 = a10; a11 = a11; rest = rest; is = refl }

-- what a fragment's header and a payload make up
abbrev Whole : List (List ℕ) → List ℕ → List Range → List ℕ → Type 0
Whole came payload rs d = joined 0 (payload_of d) rs ≡ Some payload → AllByRecursion (Carries came (head_of d)) rs → IsPutTogether came (0x40 ∷ (head_of d ++ payload))

whole-long : (came : List (List ℕ)) (payload : List ℕ) (rs : List Range) (d : List ℕ) → Twelve d → Whole came payload rs d
whole-long came payload rs d t =
    subst (λ (l : List ℕ). Whole came payload rs l) (sym t.is) (λ is h. record { ranges = rs; carried = h; payload = is })

whole-places : (came : List (List ℕ)) (d : List ℕ) (since : ℕ) (o : Option (List ℕ)) (rs : List Range) → 12 ≤ length d → joined 0 (payload_of d) rs ≡ o
    → AllByRecursion (Carries came (head_of d)) rs → Places came (whole_of d since o rs)
whole-places came d since None rs long is h = (h, tt)
whole-places came d since (Some payload) rs long is h = (tt, inr (whole-long came payload rs d (twelve d long) is h))

-- those that are held of a fragment's message
held_of-carried : (came : List (List ℕ)) (d : List ℕ) (f : Fragments) (b : Bool) → pointwise nat_eq f.head (head_of d) ≡ b
    → AllByRecursion (Carries came f.head) f.ranges → AllByRecursion (Carries came (head_of d)) (if b then f.ranges else [])
held_of-carried came d f true is h =
    let P : List ℕ → Type 0 = λ l. AllByRecursion (Carries came l) f.ranges in subst P (same_text f.head (head_of d) (sym is)) h
held_of-carried came d f false is h = tt

without-carried : (came : List (List ℕ)) (f : Fragments) (b : Bool) → AllByRecursion (Carries came f.head) f.ranges
    → let g : Fragments = if b then none_held else f in AllByRecursion (Carries came g.head) g.ranges
without-carried came f true h = tt
without-carried came f false h = h

placed-places : (came : List (List ℕ)) (d : List ℕ) (since : ℕ) (rs : List Range) → 12 ≤ length d → IsAmong came d → fragment_of d ≡ Fragment_is.Part
    → AllByRecursion (Carries came (head_of d)) rs → Places came (placed_in d since rs)
placed-places came d since rs long among part h =
    choose-placed came (list_any (λ r. is_same_range d r) rs) _ _ (h, tt)
    (choose-placed came (list_any (λ r. overlaps d r) rs) _ _ (tt, tt)
    (whole-places came d since (joined 0 (payload_of d) (with_range d rs)) (with_range d rs) long refl
    (each-insert (Carries came (head_of d)) rs (place_of (offset_of d) rs) (range_of d) h
    (record { fragment = d; among = among; part = part; head_is = refl; range_is = refl }))))

put_together-kept : (came : List (List ℕ)) (up : List ℕ) (r : Requests) (waiting : ℕ) (held : Fragments) (o : Option (List ℕ)) → Carried came up r
    → AllByRecursion (Carries came held.head) held.ranges → IsMadeIfAny came o → Kept came up (put_together held o r waiting)
put_together-kept came up r waiting held None c h made = replied-kept came up (record r { held = held }) [] (held-kept came up r held c h)
put_together-kept came up r waiting held (Some m) c h made =
    judged-kept came up (record r { held = held }) waiting m (kind_of m) (held-kept came up r held c h) made

aged-kept : (came : List (List ℕ)) (up : List ℕ) (r : Requests) (waiting now : ℕ) (d : List ℕ) (a : Age) → 12 ≤ length d → IsAmong came d
    → fragment_of d ≡ Fragment_is.Part → Carried came up r → Kept came up (aged a r waiting now d)
aged-kept came up r waiting now d Copy long among part c = replied-kept came up r (if offset_of d == 0 then r.answer else []) c
aged-kept came up r waiting now d Older long among part c = replied-kept came up r [] c
aged-kept came up r waiting now d Newer long among part c =
    let p : Places came (placed r.held now d) = placed-places came d (since_of r.held now d) (held_of r.held d) long among part
    (held_of-carried came d r.held (pointwise nat_eq r.held.head (head_of d)) refl c.held) in
    choose came up r.over (silent r) _ (replied-kept came up r [] c)
    (put_together-kept came up r waiting (placed r.held now d).held (placed r.held now d).message c p.0 p.1)

parts-kept : (came : List (List ℕ)) (up : List ℕ) (r : Requests) (waiting now : ℕ) (d : List ℕ) (f : Fragment) → 12 ≤ length d → IsAmong came d
    → fragment_of d ≡ f → Carried came up r → Kept came up (parts f r waiting now d)
parts-kept came up r waiting now d Fragment_is.Nothing long among is c = replied-kept came up r [] c
parts-kept came up r waiting now d Fragment_is.Beyond long among is c =
    replied-kept came up (record r { held = without r.held d }) (error 13 d ∷ [])
    (held-kept came up r (without r.held d) c (without-carried came r.held (pointwise nat_eq r.held.head (head_of d)) c.held))
parts-kept came up r waiting now d Fragment_is.Part long among is c = aged-kept came up r waiting now d (age_of r.last (id_of d)) long among is c

does-kept : (came : List (List ℕ)) (up : List ℕ) (r : Requests) (waiting now : ℕ) (d : List ℕ) (k : Kind) → 12 ≤ length d → IsAmong came d
    → Carried came up r → Kept came up (does k r waiting now d)
does-kept came up r waiting now d Kinds.Fragment long among c = parts-kept came up r waiting now d (fragment_of d) long among refl c
does-kept came up r waiting now d Kinds.Misfit long among c = judged-kept came up r waiting d Kinds.Misfit c (inl among)
does-kept came up r waiting now d Kinds.Acknowledgement long among c = judged-kept came up r waiting d Kinds.Acknowledgement c (inl among)
does-kept came up r waiting now d Kinds.Request long among c = judged-kept came up r waiting d Kinds.Request c (inl among)
does-kept came up r waiting now d Kinds.Nothing long among c = judged-kept came up r waiting d Kinds.Nothing c (inl among)

-- whatever comes
pub effect-kept : (came : List (List ℕ)) (up : List ℕ) (r : Requests) (waiting now : ℕ) (d : List ℕ) → 12 ≤ length d
    → Carried came up r → Kept (came ++ d ∷ []) up (effect r waiting now d)
effect-kept came up r waiting now d long c =
    does-kept (came ++ d ∷ []) up r waiting now d (kind_of d) long (among-last came d) (carried-more came (d ∷ []) up r c)

-- the call took place
pub took-kept : (r new : Requests) (waiting now : ℕ) (d up_old up_new : List ℕ) → 12 ≤ length d → new ≡ (effect r waiting now d).after
    → up_new ≡ up_old ++ (effect r waiting now d).up → KeepsCarried (d ∷ []) r new up_old up_new
took-kept r new waiting now d up_old up_new long after sent came up c =
    ((effect r waiting now d).up, sent, subst (λ (n : Requests). Carried (came ++ d ∷ []) (up ++ (effect r waiting now d).up) n) (sym after) (effect-kept came up r waiting now d long c))

pub took-carried : {E : Type 0} (outcome : Result Heard E) (r new : Requests) (waiting now : ℕ) (d up_old up_new : List ℕ) (down_old down_new : List (List ℕ)) → 12 ≤ length d
    → IfOk outcome (λ heard. Took (effect r waiting now d) new heard up_old up_new down_old down_new)
    → IfOk outcome (λ heard. KeepsCarried (d ∷ []) r new up_old up_new)
took-carried (Ok h) r new waiting now d up_old up_new down_old down_new long t = took-kept r new waiting now d up_old up_new long t.after t.up
took-carried (Err e) r new waiting now d up_old up_new down_old down_new long t = tt
