use Rattle.std.proofs.Common.{◌≡◌, ℕ, ◌++◌, List, length, drop, sym, ap, ◌∙◌, subst, Bor}
use Rattle.std.proofs.Math.Seq.{drop-append_seam}
use Rattle.floor_wire.specs.Held.{IsWhole, message_of}
use Rattle.floor_wire.proofs.shared.SharedFrame.payload.Goals as goal
use Rattle.floor_wire.proofs.shared.SharedFrame.payload.Goals.{in-Alone, in-Shared}

-- the second of two parts
second_part : (n : ℕ) (first rest all : List ℕ) → length first ≡ n → first ++ rest ≡ all → rest ≡ drop n all
second_part n first rest all long is =
    sym (ap (drop n) (sym is) ∙ ap (λ (k : ℕ). drop k (first ++ rest)) (sym long) ∙ drop-append_seam first rest)

pub returns-clause-value : goal.returns-clause-value
returns-clause-value c =
    elim c.match-self.branch [
      | in-Alone w ↦
          ap (λ (b : Bor (List ℕ)). b.now) w.payload-is
          ∙ w.behind_header-payload.ensures
          ∙ ap (drop 12) (w.as_slice.ensures.value ∙ sym (ap message_of w.in-Alone.is) ∙ c.self.view_is)
      | in-Shared w ↦
          ap (λ (b : Bor (List ℕ)). b.now) w.payload-is
          ∙ w.as_slice-payload.ensures
          ∙ second_part 12 w.in-Shared._header w.in-Shared.payload c.args.self.now (subst IsWhole w.in-Shared.is c.self.invariant).0
          (sym (ap message_of w.in-Shared.is) ∙ c.self.view_is)
    ]
