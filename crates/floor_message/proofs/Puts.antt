-- Attributes that are put behind others, and how many bytes they take.
use Rattle.std.proofs.Common.{◌≡◌, ℕ, zero, suc, ◌+◌, ◌*◌, ◌<◌, ◌≤◌, List, [], ◌∷◌, ◌++◌, length, take, map, get_or, Option, Some, None, sym, ◌∙◌, ap, subst, arith, length-append, append_assoc}
use Rattle.std.specs.Prelude.{IfSome}
use Rattle.floor_wire.specs.Spelling.{canon, IsWritable}
use Rattle.floor_wire.specs.View.{attributes_of}
use Rattle.floor_wire.specs.declared.attribute.Attr.{Attr}
use Rattle.floor_message.specs.Fits.{TextFits, most_verdicts}
use Rattle.floor_message.specs.Written.{optional, number, octets, status_attr, verdict_attr, overall_attrs, ask_attrs, priority_attr}
use Rattle.floor_message.specs.declared.verdicts.Verdict.{Verdict}
use Rattle.floor_message.specs.declared.ask.Ask.TheVariants.{FloorRequest, ChairAction}
use Rattle.floor_message.specs.steps.Writing.{with_attrs}
use Rattle.floor_message.proofs.Rooms.{canon-append, length-canon-append, length-group, map_take_more}

pub put_both : (s : List ℕ) (xs ys : List Attr) → with_attrs (with_attrs s xs) ys ≡ with_attrs s (xs ++ ys)
put_both s xs ys = append_assoc s (canon (attributes_of xs)) (canon (attributes_of ys)) ∙ ap (λ c. s ++ c) (sym (canon-append xs ys))

-- one list of attributes behind another
pub put_then : (s t u : List ℕ) (xs ys : List Attr) → t ≡ with_attrs s xs → u ≡ with_attrs t ys → u ≡ with_attrs s (xs ++ ys)
put_then s t u xs ys p q = q ∙ ap (λ b. with_attrs b ys) p ∙ put_both s xs ys

-- the attribute of one more of a list of values
pub put_more : {A : Type 0} (f : A → Attr) (xs : List A) (i : ℕ) (x d : A) (s t u : List ℕ) → i < length xs → x ≡ get_or xs i d
    → t ≡ with_attrs s (map f (take i xs)) → u ≡ with_attrs t (f x ∷ []) → u ≡ with_attrs s (map f (take (i + 1) xs))
put_more f xs i x d s t u h e p q = put_then s t u (map f (take i xs)) (f x ∷ []) p q ∙ ap (λ l. with_attrs s l) (sym (map_take_more f xs i x d h e))

pub length-numbers : (floors : List ℕ) → length (canon (attributes_of (map (number 2) floors))) ≡ 4 * length floors
length-numbers [] = omega arith
length-numbers (f ∷ floors) =
    omega (arith, length-numbers floors, length-append (canon (attributes_of (number 2 f ∷ []))) (canon (attributes_of (map (number 2) floors))))

length-verdicts : (verdicts : List (ℕ × Verdict)) → length (canon (attributes_of (map verdict_attr verdicts))) ≡ 8 * length verdicts
length-verdicts [] = omega arith
length-verdicts (v ∷ verdicts) =
    omega (arith, length-verdicts verdicts, length-canon-append (verdict_attr v ∷ []) (map verdict_attr verdicts), length-group 17 v.0 (status_attr (0, 0) ∷ []))

pub length-overall : (request : ℕ) (reason : Option (List ℕ)) (text : List ℕ) (len : ℕ) → reason ≡ Some text → len ≡ length (canon (attributes_of (optional (octets 9) reason)))
    → 4 + len ≡ length (canon (attributes_of (overall_attrs request None reason)))
length-overall request None text len e h = absurd (let no : ⊥ = cc in no)
length-overall request (Some reason) text len e h = omega (arith, h, length-group 18 request (octets 9 reason ∷ []))

pub length-chair_action : (request : ℕ) (verdicts : List (ℕ × Verdict)) (reason : Option (List ℕ)) (len : ℕ) → len ≡ length (canon (attributes_of (overall_attrs request None reason)))
    → 4 + len + 8 * length verdicts ≡ length (canon (attributes_of (ask_attrs (ChairAction request verdicts reason))))
length-chair_action request verdicts reason len h =
    let overall = overall_attrs request None reason in
    let judged = map verdict_attr verdicts in
    omega (arith, h, length-group 15 request (overall ++ judged), length-canon-append overall judged, length-verdicts verdicts)

pub length-floor_request : (b : Option ℕ) (floors : List ℕ) (priority : ℕ) (info : Option (List ℕ)) (m n o : ℕ)
    → m ≡ length (canon (attributes_of (map (number 2) floors)))
    → n ≡ length (canon (attributes_of (optional (number 1) b)))
    → o ≡ length (canon (attributes_of (optional (octets 8) info)))
    → m + n + o + 4 ≡ length (canon (attributes_of (ask_attrs (FloorRequest b floors priority info))))
length-floor_request b floors priority info m n o p q r =
    let x = map (number 2) floors in
    let y = optional (number 1) b in
    let z = optional (octets 8) info in
    let w : length (canon (attributes_of (priority_attr priority ∷ []))) ≡ 4 = omega arith in
    omega (arith, p, q, r, w, length-canon-append x y, length-canon-append (x ++ y) z, length-canon-append (x ++ y ++ z) (priority_attr priority ∷ []))

-- a text that fits is short
pub short_text : (most : ℕ) (text : Option (List ℕ)) → most ≤ 253 → IfSome text (TextFits most) → IfSome text (λ t. length t ≤ 253)
short_text most None h p = tt
short_text most (Some text) h p = omega (arith, h, p.short)

pub few_verdicts : (reason : Option (List ℕ)) (n : ℕ) → n ≤ most_verdicts reason → n ≤ 31
few_verdicts None n h = h
few_verdicts (Some reason) n h = omega (arith, h)

-- one of a list that can be written can be written
pub writable_at : {A : Type 0} (f : A → Attr) (xs : List A) (i : ℕ) (x d : A) → i < length xs → x ≡ get_or xs i d → IsWritable (attributes_of (map f xs))
    → IsWritable (attributes_of (f x ∷ []))
writable_at f [] i x d h e w = absurd (omega arith)
writable_at {A = A} f (y ∷ ys) zero x d h e w = let P : A → Type 0 = λ z. IsWritable (attributes_of (f z ∷ [])) in subst P (sym e) (w.0, w.1, w.2, w.3, tt)
writable_at f (y ∷ ys) (suc i) x d h e w = writable_at f ys i x d (omega arith) e w.4
