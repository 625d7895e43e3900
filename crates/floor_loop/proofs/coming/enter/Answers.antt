use Rattle.std.proofs.Common.{◌≡◌, ℕ, List, [], ap, subst, sym, ◌∙◌}
use Rattle.std.specs.List.{Contains}
use Rattle.floor_loop.specs.Away.{stay_of}
use Rattle.floor_loop.specs.Done.{Leaves, NoSteps, Returns, Steps}
use Rattle.floor_loop.specs.Loop.{Attended}
use Rattle.floor_loop.specs.steps.Moved.{Moved, loop_of}
use Rattle.floor_loop.proofs.Entering.{enter-moved, enter-new, enter-ready, enter-spares, enter-steps, enter-wakes, last-moves, last-spares, last-wakes}
use Rattle.floor_loop.proofs.Moving.{moved-before}
use Rattle.floor_loop.proofs.Watching.{gathers-both}
use Rattle.floor_loop.proofs.coming.enter.Goals as goal

pub returns-in-Ok : goal.returns-in-Ok
returns-in-Ok c =
    let conference = c.args.conference in
    let user = c.args.user in
    let number = c.in-Ok.number in
    let xs = c.as_slice.result.now in
    let same : xs ≡ c.args.back.items = c.as_slice.ensures.value in
    let a = loop_of c.args.hub.now c.args.attended.now in
    let b = loop_of c.attach.new.hub c.attach.new.attended in
    let hub = c.leave_all.new.hub in
    let d = loop_of hub c.leave_all.new.attended in
    let e = loop_of hub c.set_back.new.self in
    let kept : c.set_back.new.self.outgoing ≡ c.leave_all.new.attended.outgoing = ap (λ (z : Attended). z.outgoing) c.set_back.ensures.next in
    let back : c.set_back.new.self.away.back ≡ c.args.back.items = ap (λ (z : Attended). z.away.back) c.set_back.ensures.next in
    let left = c.leave_all.ensures.moved in
    let behind = moved-before (Leaves xs) b d e left (last-moves b hub c.leave_all.new.attended c.set_back.new.self kept (λ k s is. ap (λ (z : Attended). stay_of z.away k) (sym c.set_back.ensures.next) ∙ is)) in
    let moved = c.attach.ensures.moved in
    record {
      steps = subst (λ (ks : List ℕ). Steps (Returns conference user ks) a.hub hub) (same ∙ sym back) (enter-steps conference user number xs a b e c.attach.ensures.steps moved behind);
      moved = enter-moved conference user number xs a b e c.attach.ensures.steps moved behind;
      woke = enter-wakes conference user number xs a b e c.attach.ensures.steps moved behind c.in-Ok.ensures.joined c.attach.ensures.woke (λ l. last-wakes b hub c.leave_all.new.attended c.set_back.new.self kept (c.leave_all.ensures.woke l));
      spares = enter-spares conference user number xs a b e c.attach.ensures.steps moved behind c.attach.ensures.spares (λ l. last-spares b hub c.leave_all.new.attended c.set_back.new.self kept (c.leave_all.ensures.spares l));
      joined = record {
        mid = c.attach.new.hub;
        joins = c.in-Ok.ensures.joined;
        left = λ k named. c.leave_all.ensures.left k (subst (λ (ks : List ℕ). Contains ks k) (sym same) named);
        others = λ k never. c.leave_all.ensures.others k (λ named. never (subst (λ (ks : List ℕ). Contains ks k) same named));
      };
      back = back;
      fresh = enter-new conference user number xs a b e c.attach.ensures.steps moved behind c.in-Ok.ensures.joined;
      ready = enter-ready conference user number xs a b e c.attach.ensures.steps moved behind (λ l. last-wakes b hub c.leave_all.new.attended c.set_back.new.self kept (c.leave_all.ensures.woke l)) c.in-Ok.ensures.ready;
      left = tt;
      refused = λ keeps_place. tt;
      gathered = gathers-both a.hub b.hub hub c.attach.ensures.gathered left.gathered;
    }

pub returns-in-Err : goal.returns-in-Err
returns-in-Err c =
    let conference = c.args.conference in
    let user = c.args.user in
    let a = loop_of c.args.hub.now c.args.attended.now in
    let hub = c.attach.new.hub in
    let b = loop_of hub c.attach.new.attended in
    let e = loop_of hub c.set_back-in-Err.new.self in
    let kept : c.set_back-in-Err.new.self.outgoing ≡ c.attach.new.attended.outgoing = ap (λ (z : Attended). z.outgoing) c.set_back-in-Err.ensures.next in
    let back : c.set_back-in-Err.new.self.away.back ≡ [] = ap (λ (z : Attended). z.away.back) c.set_back-in-Err.ensures.next ∙ c.new.ensures.items in
    let last : Moved NoSteps b e = last-moves b hub c.attach.new.attended c.set_back-in-Err.new.self kept (λ k s is. ap (λ (z : Attended). stay_of z.away k) (sym c.set_back-in-Err.ensures.next) ∙ is) in
    record {
      steps = subst (λ (ks : List ℕ). Steps (Returns conference user ks) a.hub hub) (sym back) (enter-steps conference user 0 [] a b e c.attach.ensures.steps c.attach.ensures.moved last);
      moved = enter-moved conference user 0 [] a b e c.attach.ensures.steps c.attach.ensures.moved last;
      woke = λ l. last-wakes a hub c.attach.new.attended c.set_back-in-Err.new.self kept (c.attach.ensures.woke l);
      spares = λ l. last-spares a hub c.attach.new.attended c.set_back-in-Err.new.self kept (c.attach.ensures.spares l);
      joined = tt;
      back = tt;
      fresh = λ l. tt;
      ready = λ l. tt;
      left = back;
      refused = c.in-Err.ensures.refused;
      gathered = c.attach.ensures.gathered;
    }
