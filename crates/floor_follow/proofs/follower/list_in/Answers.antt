use Rattle.std.proofs.Common.{◌≡◌, ℕ, List, [], ◌∷◌, ◌++◌, ap, sym, ◌∙◌, subst}
use Rattle.std.specs.Prelude.{OnOk, None, Some, position}
use Rattle.std.specs.List.{list_any}
use Rattle.floor_follow.specs.Conference.{listed, listed_first}
use Rattle.floor_follow.specs.Following.{is_number, listed_in, over_first}
use Rattle.floor_follow.specs.declared.conference.Conference.{Conference}
use Rattle.floor_follow.proofs.First.{any-none, any-some, chosen_no, chosen_yes, over_first-found}
use Rattle.floor_follow.proofs.follower.list_in.Goals as goal

pub returns-in-None : goal.returns-in-None
returns-in-None c =
    let n : ℕ = c.args.listed.conference in
    let ks : List Conference = c.args.conferences.now.items in
    let new : Conference = listed_first n c.args.listed.phase c.args.listed.events in
    let none = sym (ap (λ (z : List Conference). position (is_number n) z) c.deref.ensures.value) ∙ sym c.place_of.ensures.found ∙ c.in-None.is in
    record {
      next = subst (λ (z : List Conference). OnOk c.push.result (c.push.new.conferences.items ≡ z))
          (ap (λ (k : Conference). ks ++ k ∷ []) c.new.ensures.value
          ∙ sym (chosen_no (list_any (is_number n) ks) (over_first (is_number n) (listed c.args.listed.phase c.args.listed.events) ks) (ks ++ new ∷ []) (any-none (is_number n) ks none)))
          c.push.ensures.next;
    }

pub returns-in-Some : goal.returns-in-Some
returns-in-Some c =
    let n : ℕ = c.args.listed.conference in
    let ks : List Conference = c.args.conferences.now.items in
    let some = sym (ap (λ (z : List Conference). position (is_number n) z) c.deref.ensures.value) ∙ sym c.place_of.ensures.found ∙ c.in-Some.is in
    record {
      next = over_first-found (is_number n) (listed c.args.listed.phase c.args.listed.events) ks c.in-Some.place c.index_mut.result.now c.list.new.self some c.list.ensures.next c.index_mut.ensures.value
          ∙ sym (chosen_yes (list_any (is_number n) ks) (over_first (is_number n) (listed c.args.listed.phase c.args.listed.events) ks)
          (ks ++ listed_first n c.args.listed.phase c.args.listed.events ∷ []) (any-some (is_number n) ks c.in-Some.place c.index_mut.result.now some));
    }
