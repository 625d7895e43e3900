use Rattle.std.proofs.Common.{◌≡◌, ℕ, List, Some, ap, subst, sym, ◌∙◌}
use Rattle.std.proofs.lemmas.Option.{none-some}
use Rattle.floor_loop.specs.declared.outgoing.Mark.{Mark}
use Rattle.floor_loop.specs.declared.outgoing.Mark.TheVariants.{Ready, Ends, Fails}
use Rattle.floor_loop.specs.Loop.{Outgoing}
use Rattle.floor_loop.specs.steps.Changed.{changed, mark_of, unended}
use Rattle.floor_loop.specs.steps.Listed.{HasMore, HasRoom, IsListed, Line, deadline}
use Rattle.floor_loop.proofs.Listing.{listed-ended, listed-more}
use Rattle.floor_loop.proofs.attended.Attended.keep.Goals as goal

-- who stands in a line stands there with more room
more : (mark : Mark) (es now : List (ℕ × Outgoing)) (last : ℕ) (line next : Line) → now ≡ es → HasMore line next → IsListed mark es last line → IsListed mark now last next
more mark es now last line next same has l = subst (λ (z : List (ℕ × Outgoing)). IsListed mark z last next) (sym same) (listed-more mark es last line next has.0 has.1 l)

-- one that isn't to be shut down has no mark but that it is ready
ready-same : (o : Outgoing) (t : ℕ) → mark_of Ready (unended o) ≡ Some t → mark_of Ready o ≡ Some t
ready-same o t e = e

ends-none : (o : Outgoing) (t : ℕ) → mark_of Ends (unended o) ≡ Some t → mark_of Ends o ≡ Some t
ends-none o t e = absurd (none-some t e)

fails-none : (o : Outgoing) (t : ℕ) → mark_of Fails (unended o) ≡ Some t → mark_of Fails o ≡ Some t
fails-none o t e = absurd (none-some t e)

pub invariant_of-self-2 : goal.invariant_of-self-2
invariant_of-self-2 c =
    let es = c.self.inside.outgoing.entries in
    let now = c.reserve.new.outgoing.entries in
    let same = c.reserve.ensures.entries in
    let lines = c.reserve.ensures.lines in
    let room = c.in_ok-reserve.ensures.room in
    let time = c.self.inside.time in
    let ended : (mark : Mark) (last : ℕ) (line next : Line) → ((o : Outgoing) (t : ℕ) → mark_of mark (unended o) ≡ Some t → mark_of mark o ≡ Some t) → HasMore line next → HasRoom es next → IsListed mark es last line → IsListed mark c.unend_in.new.outgoing.entries last next =
    λ mark last line next fewer has r l. subst (λ (z : List (ℕ × Outgoing)). IsListed mark z last next) (sym (c.unend_in.ensures.next ∙ ap (changed unended c.args.number) same)) (listed-ended mark c.args.number es last line next fewer has r l) in
    record {
      ready = ended Ready time c.self.inside.ready c.reserve.new.ready ready-same lines.0 room.0 c.self.invariant.ready;
      ending = ended Ends (deadline time) c.self.inside.ending c.reserve.new.ending ends-none lines.1 room.1 c.self.invariant.ending;
      failed = ended Fails time c.self.inside.failed c.reserve.new.failed fails-none lines.2 room.2 c.self.invariant.failed;
    }

pub invariant_of-self : goal.invariant_of-self
invariant_of-self c =
    let es = c.self.inside.outgoing.entries in
    let now = c.reserve.new.outgoing.entries in
    let same = c.reserve.ensures.entries in
    let lines = c.reserve.ensures.lines in
    record {
      ready = more Ready es now c.self.inside.time c.self.inside.ready c.reserve.new.ready same lines.0 c.self.invariant.ready;
      ending = more Ends es now (deadline c.self.inside.time) c.self.inside.ending c.reserve.new.ending same lines.1 c.self.invariant.ending;
      failed = more Fails es now c.self.inside.time c.self.inside.failed c.reserve.new.failed same lines.2 c.self.invariant.failed;
    }
