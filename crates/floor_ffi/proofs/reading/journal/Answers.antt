use Rattle.std.proofs.Common.{◌≡◌, Bool, true, false, List, length, refl, ap, is_ok, subst, true≢false}
use Rattle.std.specs.Prelude.{Result, Ok, Err}
use Rattle.floor_machine.specs.declared.event.Event.{Event}
use Rattle.floor_ffi.specs.Gives.{IsPiece}
use Rattle.floor_ffi.proofs.reading.journal.Goals as goal

-- a conference that has no room isn't answered
unanswered : {T E : Type 0} (P : Type 0) (b : Bool) (s : T) (x y : E) → (b ≡ false → ◌≡◌ {A = Result T E} (Ok s) (Err x)) → (b ≡ true → ◌≡◌ {A = Result T E} (Ok s) (Err y)) → P
unanswered {T} {E} P false s x y none forgotten = absurd (true≢false (ap (λ (r : Result T E). is_ok r) (none refl)))
unanswered {T} {E} P true s x y none forgotten = absurd (true≢false (ap (λ (r : Result T E). is_ok r) (forgotten refl)))

pub returns-in-Ok : goal.returns-in-Ok
returns-in-Ok c =
    let value = c.put_lines.ensures.value in
    record {
      gives = record {
        same = refl;
        none = λ is. unanswered _ _ c.in-Ok.events _ _ (c.in-Ok.ensures.no_conference is) (c.in-Ok.ensures.forgotten is);
        found = λ r there. (
          value.0,
          value.1,
          subst (λ (es : List Event). IsPiece es c.args.done c.put_lines.result.events c.put_lines.result.len (length c.args.room.now) c.put_lines.new.room value.0) (c.in-Ok.ensures.found r there) value.2,
        );
      };
    }
