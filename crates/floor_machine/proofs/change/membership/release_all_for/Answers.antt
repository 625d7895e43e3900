use Rattle.std.proofs.Common.{◌≡◌, ◌<◌, ◌++◌, List, [], ◌∷◌, length, map, Option, refl, sym, ap, subst, ◌∙◌, append_assoc, append-nil}
use Rattle.std.specs.Prelude.{◌==◌, IfSome, IsSome}
use Rattle.floor_queue.specs.declared.request.Request.{Request}
use Rattle.floor_queue.specs.Queue.{Queue, after_end}
use Rattle.floor_machine.specs.declared.course.Ended.{Ended}
use Rattle.floor_machine.specs.Change.{released}
use Rattle.floor_machine.specs.steps.Serving.{after_release_for, released_for}
use Rattle.floor_machine.proofs.Ended.{first-passing, none-passing, all-left}
use Rattle.floor_machine.proofs.change.membership.release_all_for.Goals as goal

-- a request as it ends where it is given back
abbrev given_back : Request → Ended
given_back r = record { request = r; ending = released r }

pub end_request-requires : goal.end_request-requires
end_request-requires c =
    let first = first-passing (λ r. r.beneficiary == c.args.beneficiary) c.loop-request.requests.ongoing c.in-Some.request c.in-Some.ensures.kept.ascending c.in-Some.ensures.found in
    subst (λ o. IsSome o) (sym first.found) refl

pub loop-request-smaller : goal.loop-request-smaller
loop-request-smaller c =
    let q : Queue = c.loop-request.requests in
    let first = first-passing (λ r. r.beneficiary == c.args.beneficiary) q.ongoing c.in-Some.request c.in-Some.ensures.kept.ascending c.in-Some.ensures.found in
    let W : Queue → Type 0 = λ x. length x.ongoing < length q.ongoing in
    subst W (sym c.in_ok-end_request.ensures.next) first.fewer

pub loop-request-preserved : goal.loop-request-preserved
loop-request-preserved c =
    let q : Queue = c.loop-request.requests in
    let b = c.args.beneficiary in
    let k = c.in-Some.request in
    let first = first-passing (λ r. r.beneficiary == b) q.ongoing k c.in-Some.ensures.kept.ascending c.in-Some.ensures.found in
    let I : Option Request → Type 0 = λ o. IfSome o (λ r. c.end_request.new.ended.items ≡ c.loop-request.ended.items ++ given_back r ∷ []) in
    let noted : c.end_request.new.ended.items ≡ c.loop-request.ended.items ++ given_back first.request ∷ [] =
    subst I first.found c.in_ok-end_request.ensures.ended in
    record {
      next =
          ap (λ (x : Queue). after_release_for x b) c.in_ok-end_request.ensures.next
          ∙ ap (λ (rs : List Request). record q { ongoing = rs }) (sym first.others)
          ∙ c.loop-request.invariant.next;
      told =
          ap (λ (x : Queue). c.end_request.new.ended.items ++ released_for x b) c.in_ok-end_request.ensures.next
          ∙ ap (λ (es : List Ended). es ++ released_for (after_end q k) b) noted
          ∙ append_assoc c.loop-request.ended.items (given_back first.request ∷ []) (released_for (after_end q k) b)
          ∙ ap (λ (rs : List Request). c.loop-request.ended.items ++ map given_back rs) (sym first.passing)
          ∙ c.loop-request.invariant.told;
      noted = λ floors before noted. c.in_ok-end_request.ensures.noted floors before (c.loop-request.invariant.noted floors before noted);
    }

pub returns-clause-next : goal.returns-clause-next
returns-clause-next c =
    let q : Queue = c.loop-request.requests in
    ap (λ (rs : List Request). record q { ongoing = rs }) (sym (all-left (λ r. r.beneficiary == c.args.beneficiary) q.ongoing c.in_default.ensures.found))
    ∙ c.loop-request.invariant.next

pub returns-clause-ended : goal.returns-clause-ended
returns-clause-ended c =
    let q : Queue = c.loop-request.requests in
    sym (append-nil c.loop-request.ended.items)
    ∙ ap (λ (rs : List Request). c.loop-request.ended.items ++ map given_back rs) (sym (none-passing (λ r. r.beneficiary == c.args.beneficiary) q.ongoing c.in_default.ensures.found))
    ∙ c.loop-request.invariant.told

pub returns-clause-noted : goal.returns-clause-noted
returns-clause-noted c = c.loop-request.invariant.noted
