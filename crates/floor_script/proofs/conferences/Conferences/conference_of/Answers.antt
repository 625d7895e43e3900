use Rattle.std.proofs.Common.{◌≡◌, ap, sym, ◌∙◌, Some}
use Rattle.floor_script.specs.Answered.{conference_of}
use Rattle.floor_script.specs.State.{State, conference_at}
use Rattle.floor_script.proofs.Standing.{conference_is, split}
use Rattle.floor_script.proofs.conferences.Conferences.conference_of.Goals as goal

pub returns-in-Attach : goal.returns-in-Attach
returns-in-Attach c = record {
  value = λ s h.
      split c.in-Attach.is (λ p. sym (ap (conference_of s) p.1)) (λ q. split q (λ p. sym (ap (conference_of s) p.1)) (λ p. sym (ap (conference_of s) p.2)));
}

pub returns-in-Piece : goal.returns-in-Piece
returns-in-Piece c = record {
  value = λ s h.
      conference_is c.args.self.now s c.in-Piece.connection c.conference_of.result h c.conference_of.ensures.value
      ∙ split c.in-Piece.is (λ p. sym (ap (conference_of s) p.1))
      (λ q. split q (λ e. sym (ap (conference_of s) e))
      (λ q. split q (λ p. sym (ap (conference_of s) p.1))
      (λ q. split q (λ e. sym (ap (conference_of s) e))
      (λ q. split q (λ e. sym (ap (conference_of s) e)) (λ e. sym (ap (conference_of s) e))))));
}
