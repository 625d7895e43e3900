use Rattle.std.proofs.Common.{◌-◌, ap, map, refl, ◌∙◌}
use Rattle.std.specs.Prelude.{◌&&◌, not}
use Rattle.floor_machine.specs.steps.Counting.{counted_at, is_watching}
use Rattle.floor_machine.specs.steps.Telling.{is_concerned}
use Rattle.floor_machine.specs.Conference.{live_numbers}
use Rattle.floor_machine.proofs.Counting.{live-at, live-counted, n-counted}
use Rattle.floor_machine.proofs.Cut.{cut-counted, still-cut}
use Rattle.floor_machine.proofs.Those.{still-those, those-same}
use Rattle.floor_machine.proofs.Watchers.{watching-counted}
use Rattle.floor_machine.proofs.tell.backlog.tell_whole.Goals as goal

pub returns-then-not-take_on-clause-live : goal.returns-then-not-take_on-clause-live
returns-then-not-take_on-clause-live c =
    ap live_numbers c.take_on.ensures.members
    ∙ live-counted (counted_at _ c.args.n) (n-counted _ c.args.n) (live-at _ c.args.n) c.note_cut.new.self.members.items
    ∙ ap live_numbers c.note_cut.ensures.members

pub returns-else-not-take_on-clause-live : goal.returns-else-not-take_on-clause-live
returns-else-not-take_on-clause-live c =
    ap live_numbers c.take_on.ensures.members
    ∙ live-counted (counted_at _ c.args.n) (n-counted _ c.args.n) (live-at _ c.args.n) c.note_cut.new.self.members.items
    ∙ ap live_numbers c.note_cut.ensures.members

pub returns-in_err-note_cut-clause-live : goal.returns-in_err-note_cut-clause-live
returns-in_err-note_cut-clause-live c = ap live_numbers c.note_cut.ensures.members

pub returns-in_err-note_cut-clause-cut : goal.returns-in_err-note_cut-clause-cut
returns-in_err-note_cut-clause-cut c = still-cut c.note_cut.ensures.members c.in_err-note_cut.ensures.left

pub returns-then-not-take_on-clause-cut : goal.returns-then-not-take_on-clause-cut
returns-then-not-take_on-clause-cut c = λ h.
    let a = c.args in
    let count = c.len.result - c.len-before.result in
    still-cut (c.take_on.ensures.members ∙ ap (map (counted_at count a.n)) c.note_cut.ensures.members) (c.take_on.ensures.cut ∙ c.in_ok-note_cut.ensures.cut)
    (cut-counted count a.n a.joined.now.members.items a.joined.now.cut.items (λ m. not m.is_cut && is_concerned a.due.now.reply.now a.due.now.updates.now a.due.now.notices.now m) a.joined.now.numbered
    c.requires.concerned h)

pub returns-else-not-take_on-clause-cut : goal.returns-else-not-take_on-clause-cut
returns-else-not-take_on-clause-cut c = λ h.
    let a = c.args in
    let count = c.len.result - c.len-before.result in
    still-cut (c.take_on.ensures.members ∙ ap (map (counted_at count a.n)) c.note_cut.ensures.members) (c.take_on.ensures.cut ∙ c.in_ok-note_cut.ensures.cut)
    (cut-counted count a.n a.joined.now.members.items a.joined.now.cut.items (λ m. not m.is_cut && is_concerned a.due.now.reply.now a.due.now.updates.now a.due.now.notices.now m) a.joined.now.numbered
    c.requires.concerned h)

pub returns-then-not-take_on-clause-watching : goal.returns-then-not-take_on-clause-watching
returns-then-not-take_on-clause-watching c = λ ns h.
    still-those is_watching (c.take_on.ensures.members ∙ ap (map (counted_at (c.len.result - c.len-before.result) c.args.n)) c.note_cut.ensures.members) refl
    (those-same is_watching (counted_at (c.len.result - c.len-before.result) c.args.n) (n-counted _ c.args.n) (live-at _ c.args.n) (watching-counted _ c.args.n) c.args.joined.now.members.items ns h)

pub returns-else-not-take_on-clause-watching : goal.returns-else-not-take_on-clause-watching
returns-else-not-take_on-clause-watching c = λ ns h.
    still-those is_watching (c.take_on.ensures.members ∙ ap (map (counted_at (c.len.result - c.len-before.result) c.args.n)) c.note_cut.ensures.members) refl
    (those-same is_watching (counted_at (c.len.result - c.len-before.result) c.args.n) (n-counted _ c.args.n) (live-at _ c.args.n) (watching-counted _ c.args.n) c.args.joined.now.members.items ns h)

pub returns-in_err-note_cut-clause-watching : goal.returns-in_err-note_cut-clause-watching
returns-in_err-note_cut-clause-watching c = λ ns h. still-those is_watching c.note_cut.ensures.members refl h
