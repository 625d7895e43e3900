-- What is sent to the server fits.
use Rattle.std.proofs.Common.{◌≡◌, inl, inr, ℕ, ◌+◌, ◌≤◌, ◌==◌, Bool, true, false, List, [], ◌∷◌, length, Option, Some, None, nat_lt, refl, sym, ◌∙◌, if◌then◌else◌, arith}
use Rattle.std.specs.List.{list_any}
use Rattle.std.proofs.lemmas.Bool.{lt-ltb}
use Rattle.std.proofs.lemmas.Bool.Decides.{leb_tells}
use Rattle.floor_datagram.specs.Datagrams.{id_of, primitive_of, kind_of}
use Rattle.floor_datagram.specs.Numbering.{age_of}
use Rattle.floor_datagram.specs.Written.{lowered}
use Rattle.floor_datagram.specs.Fragments.{Fragments, Placed, placed, placed_in, held_of, since_of, whole_of, with_range, is_same_range, overlaps, payload_of, fragment_of, joined}
use Rattle.floor_datagram.specs.Requests.{Requests, Effect, silent, passed_on, parted, taken, asked, judged, put_together, aged, parts, does, max_waiting}
use Rattle.floor_datagram.specs.Session as session
use Rattle.floor_datagram.specs.Session.{Session}
use Rattle.floor_datagram.specs.Holding.{HasRoom}
use Rattle.floor_datagram.specs.declared.kind.Kind.{Kind}
use Rattle.floor_datagram.specs.declared.kind.Kind.TheVariants as Kinds
use Rattle.floor_datagram.specs.declared.numbering.Age.{Age}
use Rattle.floor_datagram.specs.declared.numbering.Age.TheVariants.{Copy, Older, Newer}
use Rattle.floor_datagram.specs.declared.fragments.Fragment.{Fragment}
use Rattle.floor_datagram.specs.declared.fragments.Fragment.TheVariants as Fragment_is
use Rattle.floor_datagram.specs.declared.fragments.Range.{Range}

choose-room : (waiting : ℕ) (b : Bool) (e f : Effect) → (b ≡ true → HasRoom waiting e.up) → (b ≡ false → HasRoom waiting f.up) → HasRoom waiting (if b then e else f).up
choose-room waiting true e f p q = p refl
choose-room waiting false e f p q = q refl

lowered-len : (m : List ℕ) → 1 ≤ length m → length (lowered m) ≡ length m
lowered-len [] h = absurd (omega (arith, h))
lowered-len (x ∷ m) h = refl

fits : (waiting : ℕ) (m : List ℕ) → 1 ≤ length m → nat_lt max_waiting (waiting + length m) ≡ false → HasRoom waiting (lowered m)
fits waiting m some h =
    let len = lowered-len m some in
    elim (leb_tells (waiting + length m) max_waiting) [
      | inl w ↦ let small : waiting + length m ≤ 65536 = w.1 in inr (omega (arith, len, small))
      | inr w ↦ absurd (cc (sym h ∙ lt-ltb max_waiting (waiting + length m) w.1))
    ]

asked-room : (r : Requests) (waiting : ℕ) (m : List ℕ) (a : Age) → 1 ≤ length m → HasRoom waiting (asked a r waiting m).up
asked-room r waiting m Copy some = inl refl
asked-room r waiting m Older some = inl refl
asked-room r waiting m Newer some =
    choose-room waiting r.over (silent r) (taken r waiting m) (λ h. inl refl)
    (λ h. choose-room waiting (primitive_of m == 16) (parted r m) (passed_on r waiting m) (λ g. inl refl)
    (λ g. choose-room waiting (nat_lt max_waiting (waiting + length m)) (silent r) _ (λ f. inl refl) (λ f. fits waiting m some f)))

judged-room : (r : Requests) (waiting : ℕ) (m : List ℕ) (k : Kind) → 1 ≤ length m → HasRoom waiting (judged k r waiting m).up
judged-room r waiting m Kinds.Fragment some = inl refl
judged-room r waiting m Kinds.Misfit some = inl refl
judged-room r waiting m Kinds.Acknowledgement some = inl refl
judged-room r waiting m Kinds.Request some = asked-room r waiting m (age_of r.last (id_of m)) some
judged-room r waiting m Kinds.Nothing some = inl refl

-- what is put together has a byte
abbrev IsSomeBytes : Option (List ℕ) → Type 0
IsSomeBytes None = Unit {0}
IsSomeBytes (Some m) = 1 ≤ length m

whole-some : (d : List ℕ) (since : ℕ) (o : Option (List ℕ)) (rs : List Range) → IsSomeBytes (whole_of d since o rs).message
whole-some d since None rs = tt
whole-some d since (Some payload) rs = omega arith

choose-some : (b : Bool) (p q : Placed) → IsSomeBytes p.message → IsSomeBytes q.message → IsSomeBytes (if b then p else q).message
choose-some true p q x y = x
choose-some false p q x y = y

placed-some : (d : List ℕ) (since : ℕ) (rs : List Range) → IsSomeBytes (placed_in d since rs).message
placed-some d since rs =
    choose-some (list_any (λ r. is_same_range d r) rs) _ _ tt
    (choose-some (list_any (λ r. overlaps d r) rs) _ _ tt (whole-some d since (joined 0 (payload_of d) (with_range d rs)) (with_range d rs)))

put_together-room : (r : Requests) (waiting : ℕ) (held : Fragments) (o : Option (List ℕ)) → IsSomeBytes o → HasRoom waiting (put_together held o r waiting).up
put_together-room r waiting held None some = inl refl
put_together-room r waiting held (Some m) some = judged-room (record r { held = held }) waiting m (kind_of m) some

aged-room : (r : Requests) (waiting now : ℕ) (d : List ℕ) (a : Age) → HasRoom waiting (aged a r waiting now d).up
aged-room r waiting now d Copy = inl refl
aged-room r waiting now d Older = inl refl
aged-room r waiting now d Newer =
    choose-room waiting r.over (silent r) _ (λ h. inl refl)
    (λ h. put_together-room r waiting (placed r.held now d).held (placed r.held now d).message (placed-some d (since_of r.held now d) (held_of r.held d)))

parts-room : (r : Requests) (waiting now : ℕ) (d : List ℕ) (f : Fragment) → HasRoom waiting (parts f r waiting now d).up
parts-room r waiting now d Fragment_is.Nothing = inl refl
parts-room r waiting now d Fragment_is.Beyond = inl refl
parts-room r waiting now d Fragment_is.Part = aged-room r waiting now d (age_of r.last (id_of d))

does-room : (r : Requests) (waiting now : ℕ) (d : List ℕ) (k : Kind) → 1 ≤ length d → HasRoom waiting (does k r waiting now d).up
does-room r waiting now d Kinds.Fragment some = parts-room r waiting now d (fragment_of d)
does-room r waiting now d Kinds.Misfit some = inl refl
does-room r waiting now d Kinds.Acknowledgement some = inl refl
does-room r waiting now d Kinds.Request some = judged-room r waiting d Kinds.Request some
does-room r waiting now d Kinds.Nothing some = inl refl

pub has-room : (s : Session) (waiting now : ℕ) (d : List ℕ) → 12 ≤ length d → HasRoom waiting (session.datagram s waiting now d).up
has-room s waiting now d long = does-room s.requests waiting now d (kind_of d) (omega (arith, long))
