use Rattle.std.proofs.Common.{◌≡◌, Bool, true, false, refl, ap, is_ok, true≢false}
use Rattle.std.specs.Prelude.{Result, Ok, Err}
use Rattle.floor_ffi.proofs.reading.status.Goals as goal

-- a conference that has no room isn't answered
unanswered : {T E : Type 0} (P : Type 0) (b : Bool) (s : T) (x y : E) → (b ≡ false → ◌≡◌ {A = Result T E} (Ok s) (Err x)) → (b ≡ true → ◌≡◌ {A = Result T E} (Ok s) (Err y)) → P
unanswered {T} {E} P false s x y none forgotten = absurd (true≢false (ap (λ (r : Result T E). is_ok r) (none refl)))
unanswered {T} {E} P true s x y none forgotten = absurd (true≢false (ap (λ (r : Result T E). is_ok r) (forgotten refl)))

pub returns-in-Ok : goal.returns-in-Ok
returns-in-Ok c = record {
  gives = record {
    same = refl;
    none = λ is. unanswered _ _ c.in-Ok.status _ _ (c.in-Ok.ensures.no_conference is) (c.in-Ok.ensures.forgotten is);
    found = λ r there. (c.in-Ok.status, c.in-Ok.ensures.found r there, (c.number.ensures.value, refl, refl, refl, c.number_of_phase.ensures.value));
  };
}
