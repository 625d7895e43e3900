use Rattle.std.proofs.Common.{◌≡◌, ℕ, List, ap, sym, ◌∙◌}
use Rattle.std.specs.Prelude.{None, Some, position}
use Rattle.floor_follow.specs.Conference.{answered}
use Rattle.floor_follow.specs.Following.{is_number}
use Rattle.floor_follow.specs.declared.conference.Conference.{Conference}
use Rattle.floor_follow.proofs.First.{on_ok, over_first-found, over_first-none}
use Rattle.floor_follow.proofs.follower.answer_in.Goals as goal

pub returns-in-None : goal.returns-in-None
returns-in-None c =
    let none = sym (ap (λ (z : List Conference). position (is_number c.args.number) z) c.deref.ensures.value) ∙ sym c.place_of.ensures.found ∙ c.in-None.is in
    record { next = sym (over_first-none (is_number c.args.number) (answered c.args.rows c.args.next) c.args.conferences.now.items none) }

pub returns-in-Some : goal.returns-in-Some
returns-in-Some c =
    let some = sym (ap (λ (z : List Conference). position (is_number c.args.number) z) c.deref.ensures.value) ∙ sym c.place_of.ensures.found ∙ c.in-Some.is in
    record {
      next = on_ok c.take_answer.result
          (λ e. over_first-found (is_number c.args.number) (answered c.args.rows c.args.next) c.args.conferences.now.items c.in-Some.place c.index_mut.result.now c.take_answer.new.self some e c.index_mut.ensures.value)
          c.take_answer.ensures.next;
    }
