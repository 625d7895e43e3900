-- Which connections of a conference a call names.
use Rattle.std.proofs.Common.{◌≡◌, ℕ, List, [], ◌∷◌, Bool, true, false, arith, length, map, refl, sym, ◌∙◌, ap, subst}
use Rattle.std.specs.Prelude.{◌==◌}
use Rattle.std.proofs.lemmas.Bool.{eqb-true}
use Rattle.floor_machine.specs.Conference.{AreCut}
use Rattle.floor_room.specs.Ledger.{conference_of}
use Rattle.floor_room.specs.Room.{Room}
use Rattle.floor_hub.specs.declared.attached.Live.{Live}
use Rattle.floor_hub.specs.Concerned.{AscendFrom, is_shut}
use Rattle.floor_hub.specs.steps.Attached.{IsIn, NamedIn, Names, is_named, is_noted, marked, numbers_of}
use Rattle.floor_hub.proofs.Putting.{filter-all, filter-none, marked-none}

true_false : true ≡ false → ⊥
true_false e = cc

-- no numbers are those of nobody
none-pass : (numbers : List ℕ) (test : Live → Bool) (live : List Live) → numbers ≡ [] → ((l : Live) → test l ≡ false) → Names numbers test live
none-pass numbers test live is h = subst (λ (z : List ℕ). Names z test live) (sym is) (record {
  ascending = tt;
  named = λ k i. absurd i;
  all = λ k i. subst (λ (z : List Live). IsIn (numbers_of z) k) (filter-none test live h) i;
})

all-pass : (numbers : List ℕ) (test : Live → Bool) (live : List Live) → numbers ≡ numbers_of live → AscendFrom 0 numbers → ((l : Live) → test l ≡ true) → Names numbers test live
all-pass numbers test live is up h = record {
  ascending = up;
  named = λ k i. subst (λ (z : List Live). IsIn (numbers_of z) k) (sym (filter-all test live h)) (subst (λ (z : List ℕ). IsIn z k) is i);
  all = λ k i. subst (λ (z : List ℕ). IsIn z k) (sym is) (subst (λ (z : List Live). IsIn (numbers_of z) k) (filter-all test live h) i);
}

-- where the room was shut nobody is named
pub none-named : (was : Bool) (s : Room) (told : List ℕ) (live after : List Live) (numbers : List ℕ) → was ≡ true → after ≡ live → numbers ≡ [] → NamedIn was s told live after numbers
none-named was s told live after numbers e same none = record {
  cut = [];
  are_cut = λ a b. absurd (true_false (sym e ∙ a));
  marked = same ∙ marked-none live;
  names = subst (λ (b : Bool). Names numbers (is_named b (is_shut s) told []) live) (sym e) (none-pass numbers (is_named true (is_shut s) told []) live none (λ l. refl));
}

-- where it is shut now all are
pub all-named : (was : Bool) (s : Room) (told : List ℕ) (live after : List Live) (numbers : List ℕ) → was ≡ false → is_shut s ≡ true → after ≡ live → numbers ≡ numbers_of live → AscendFrom 0 numbers →
    NamedIn was s told live after numbers
all-named was s told live after numbers e shut same is up = record {
  cut = [];
  are_cut = λ a b. absurd (true_false (sym shut ∙ b));
  marked = same ∙ marked-none live;
  names = subst (λ (b : Bool). Names numbers (is_named b (is_shut s) told []) live) (sym e)
      (subst (λ (b : Bool). Names numbers (is_named false b told []) live) (sym shut) (all-pass numbers (is_named false true told []) live is up (λ l. refl)));
}

-- else those that are noted
pub noted-named : (was : Bool) (s : Room) (told cut : List ℕ) (live after : List Live) (numbers : List ℕ) → was ≡ false → is_shut s ≡ false → AreCut (conference_of s.ledger).members cut →
    after ≡ map (marked cut) live → Names numbers (is_noted told cut) live → NamedIn was s told live after numbers
noted-named was s told cut live after numbers e is_open are marked names = record {
  cut = cut;
  are_cut = λ a b. are;
  marked = marked;
  names = subst (λ (b : Bool). Names numbers (is_named b (is_shut s) told cut) live) (sym e) (subst (λ (b : Bool). Names numbers (is_named false b told cut) live) (sym is_open) names);
}

-- where nobody was told anything, and nobody is cut, nobody is noted
pub nobody-noted : (was : Bool) (s : Room) (told cut : List ℕ) (live after : List Live) (numbers : List ℕ) → was ≡ false → is_shut s ≡ false → AreCut (conference_of s.ledger).members cut →
    told ≡ [] → cut ≡ [] → after ≡ live → numbers ≡ [] → NamedIn was s told live after numbers
nobody-noted was s told cut live after numbers e is_open are none uncut same nobody =
    noted-named was s told cut live after numbers e is_open are (same ∙ marked-none live ∙ ap (λ (z : List ℕ). map (marked z) live) (sym uncut))
    (none-pass numbers (is_noted told cut) live nobody
    (λ l. ap (λ (z : List ℕ). is_noted z cut l) none ∙ ap (λ (z : List ℕ). is_noted [] z l) uncut))

-- a list without an element is empty
pub empty-none : {A : Type 0} (xs : List A) → (length xs == 0) ≡ true → xs ≡ []
empty-none [] e = refl
empty-none (x ∷ xs) e = absurd (omega (arith, eqb-true (length (x ∷ xs)) 0 e))
