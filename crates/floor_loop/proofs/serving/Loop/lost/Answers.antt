use Rattle.floor_hub.specs.Gathers.{Gathers}
use Rattle.std.proofs.Common.{◌≡◌, ◌⊎◌, inl, inr, ℕ, [], true, false, ap, refl, subst, sym, ◌∙◌, None, Some, nat_eq}
use Rattle.std.specs.Prelude.{Result, Ok, Err, IfOk, OnOk}
use Rattle.floor_room.specs.Room.{Room}
use Rattle.floor_hub.specs.declared.connection.Connection.{Connection}
use Rattle.floor_hub.specs.declared.step.Step.TheVariants.{Leave}
use Rattle.floor_hub.specs.Connections.{connection_at}
use Rattle.floor_hub.specs.Hub.{room_at}
use Rattle.floor_hub.specs.Members.{user_of}
use Rattle.floor_loop.specs.declared.stay.Stay.{Stay}
use Rattle.floor_loop.specs.Away.{Away, stay_of}
use Rattle.floor_loop.specs.Done.{AtMost, NoSteps}
use Rattle.floor_loop.specs.Loop.{Attended, Loop, stay_at}
use Rattle.floor_loop.specs.Returned.{MayNotStay}
use Rattle.floor_loop.specs.Written.{Dropped, IsOver, Took}
use Rattle.floor_loop.specs.steps.Losing.{CannotStay}
use Rattle.floor_loop.specs.steps.Moved.{IsLoop, loop_of}
use Rattle.floor_loop.proofs.Calls.{moved-kept}
use Rattle.floor_loop.proofs.Losing.{dropped-gone, dropped-loop, dropped-own, dropped-took, lost-moves}
use Rattle.floor_loop.proofs.Moving.{fewer, loop-moves, moved-behind}
use Rattle.floor_loop.proofs.Stepping.{keeps-passed}
use Rattle.floor_loop.proofs.Watching.{gathers-both}
use Rattle.floor_loop.proofs.serving.Loop.lost.Goals as goal

pub invariant_of-self : goal.invariant_of-self
invariant_of-self c =
    let old = loop_of c.self.inside.hub c.self.inside.attended in
    let mid = loop_of c.self.inside.hub c.pass.new.self in
    let kept = loop_of c.self.inside.hub c.stay-lost.new.attended in
    let thrown = loop_of c.throw_away.new.hub c.throw_away.new.attended in
    let passed = moved-kept old mid refl (keeps-passed c.self.inside.attended c.pass.new.self (ap (λ (z : Attended). z.outgoing) c.pass.ensures.next)) (fewer c.self.inside.attended c.pass.new.self (ap (λ (z : Attended). z.away) c.pass.ensures.next)) in
    let first = moved-behind NoSteps old mid kept passed c.stay-lost.ensures.moved in
    dropped-loop c.args.number old kept thrown first c.throw_away.ensures.thrown c.self.invariant

pub returns-then-is_away-clause-others : goal.returns-then-is_away-clause-others
returns-then-is_away-clause-others c =
    let old = loop_of c.self.inside.hub c.self.inside.attended in
    let mid = loop_of c.self.inside.hub c.pass.new.self in
    let kept = loop_of c.self.inside.hub c.stay-lost.new.attended in
    let thrown = loop_of c.throw_away.new.hub c.throw_away.new.attended in
    let passed = moved-kept old mid refl (keeps-passed c.self.inside.attended c.pass.new.self (ap (λ (z : Attended). z.outgoing) c.pass.ensures.next)) (fewer c.self.inside.attended c.pass.new.self (ap (λ (z : Attended). z.away) c.pass.ensures.next)) in
    let first = moved-behind NoSteps old mid kept passed c.stay-lost.ensures.moved in
    subst (λ (l : Loop). (k : ℕ) → nat_eq c.args.number k ≡ false → Took l thrown k [] 0) c.self.view_is (dropped-took c.args.number old kept thrown first c.throw_away.ensures.thrown c.self.invariant)

pub returns-then-is_away-clause-over : goal.returns-then-is_away-clause-over
returns-then-is_away-clause-over c =
    let old = loop_of c.self.inside.hub c.self.inside.attended in
    let mid = loop_of c.self.inside.hub c.pass.new.self in
    let kept = loop_of c.self.inside.hub c.stay-lost.new.attended in
    let thrown = loop_of c.throw_away.new.hub c.throw_away.new.attended in
    let passed = moved-kept old mid refl (keeps-passed c.self.inside.attended c.pass.new.self (ap (λ (z : Attended). z.outgoing) c.pass.ensures.next)) (fewer c.self.inside.attended c.pass.new.self (ap (λ (z : Attended). z.away) c.pass.ensures.next)) in
    let first = moved-behind NoSteps old mid kept passed c.stay-lost.ensures.moved in
    let later = loop-moves NoSteps old mid passed c.self.invariant in
    subst (λ (l : Loop). (x : Connection) (r : Room) → connection_at l.hub.connections c.args.number ≡ Some x → room_at l.hub x.conference ≡ Some r → IsOver r x.n → stay_at l c.args.number ≡ None → true ≡ false) c.self.view_is
    (λ x r is_x is_r is_over none.
    let at = later.serving c.args.number x is_x in
    sym c.if-is_away.true
    ∙ c.is_away.ensures.value
    ∙ c.stay-lost.ensures.over (ap (λ (z : Away). stay_of z c.args.number) (ap (λ (z : Attended). z.away) c.pass.ensures.next) ∙ none) x r at.outgoing is_x is_r at.found at.conference is_over)

pub invariant_of-self-2 : goal.invariant_of-self-2
invariant_of-self-2 c =
    let old = loop_of c.self.inside.hub c.self.inside.attended in
    let mid = loop_of c.self.inside.hub c.pass.new.self in
    let kept = loop_of c.self.inside.hub c.stay-lost.new.attended in
    let thrown = loop_of c.throw_away.new.hub c.throw_away.new.attended in
    let passed = moved-kept old mid refl (keeps-passed c.self.inside.attended c.pass.new.self (ap (λ (z : Attended). z.outgoing) c.pass.ensures.next)) (fewer c.self.inside.attended c.pass.new.self (ap (λ (z : Attended). z.away) c.pass.ensures.next)) in
    let first = moved-behind NoSteps old mid kept passed c.stay-lost.ensures.moved in
    let new = loop_of c.leave_from-left.new.hub c.leave_from-left.new.attended in
    let left = lost-moves c.args.number old kept thrown new first c.throw_away.ensures.thrown c.leave_from-left.ensures.left c.leave_from-left.ensures.moved in
    loop-moves (AtMost 1 (Leave c.args.number)) old new left c.self.invariant

pub returns-clause-others : goal.returns-clause-others
returns-clause-others c =
    let old = loop_of c.self.inside.hub c.self.inside.attended in
    let mid = loop_of c.self.inside.hub c.pass.new.self in
    let kept = loop_of c.self.inside.hub c.stay-lost.new.attended in
    let thrown = loop_of c.throw_away.new.hub c.throw_away.new.attended in
    let passed = moved-kept old mid refl (keeps-passed c.self.inside.attended c.pass.new.self (ap (λ (z : Attended). z.outgoing) c.pass.ensures.next)) (fewer c.self.inside.attended c.pass.new.self (ap (λ (z : Attended). z.away) c.pass.ensures.next)) in
    let first = moved-behind NoSteps old mid kept passed c.stay-lost.ensures.moved in
    let new = loop_of c.leave_from-left.new.hub c.leave_from-left.new.attended in
    let left = lost-moves c.args.number old kept thrown new first c.throw_away.ensures.thrown c.leave_from-left.ensures.left c.leave_from-left.ensures.moved in
    subst (λ (l : Loop). (k : ℕ) → nat_eq c.args.number k ≡ false → Took l new k [] 0) c.self.view_is (λ k ne. left.took c.self.invariant k)

pub returns-then-is_away-clause-dropped : goal.returns-then-is_away-clause-dropped
returns-then-is_away-clause-dropped c =
    let old = loop_of c.self.inside.hub c.self.inside.attended in
    let mid = loop_of c.self.inside.hub c.pass.new.self in
    let kept = loop_of c.self.inside.hub c.stay-lost.new.attended in
    let thrown = loop_of c.throw_away.new.hub c.throw_away.new.attended in
    let passed = moved-kept old mid refl (keeps-passed c.self.inside.attended c.pass.new.self (ap (λ (z : Attended). z.outgoing) c.pass.ensures.next)) (fewer c.self.inside.attended c.pass.new.self (ap (λ (z : Attended). z.away) c.pass.ensures.next)) in
    let first = moved-behind NoSteps old mid kept passed c.stay-lost.ensures.moved in
    subst (λ (l : Loop). Dropped l thrown c.args.number) c.self.view_is (dropped-own c.args.number old kept thrown first c.throw_away.ensures.thrown c.self.invariant)

pub returns-clause-dropped : goal.returns-clause-dropped
returns-clause-dropped c = dropped-gone c.args.self.now (loop_of c.leave_from-left.new.hub c.leave_from-left.new.attended) c.args.number c.leave_from-left.ensures.left

if-on : {T E : Type 0} {P : Type 0} {Q : T → Type 0} (r : Result T E) → (P → (v : T) → Q v) → OnOk r P → IfOk r Q
if-on (Ok v) f p = f p v
if-on (Err e) f p = tt

-- who may not stay, whatever the time is
may-not : (l : Loop) (b : Attended) (number : ℕ) → b.away ≡ l.attended.away → IsLoop (loop_of l.hub b) → (stay_of b.away number ≡ None) × CannotStay l.hub b number → MayNotStay l number
may-not l b number same loop (here, why) = record { here = ap (λ (a : Away). stay_of a number) (sym same) ∙ here; why = by why }
  where
    by : CannotStay l.hub b number → (l.attended.away.grace.lost ≡ 0)
        ⊎ (((x : Connection) (r : Room) → connection_at l.hub.connections number ≡ Some x → room_at l.hub x.conference ≡ Some r → IsOver r x.n)
        ⊎ ((x : Connection) (r : Room) → connection_at l.hub.connections number ≡ Some x → room_at l.hub x.conference ≡ Some r → user_of r.ledger.journal x.n ≡ None))
    by (inl none) = inl (ap (λ (a : Away). a.grace.lost) (sym same) ∙ none)
    by (inr (inl over)) = inr (inl (λ x r is_x is_r. let at = loop.serving number x is_x in over x r at.outgoing is_x is_r at.found at.conference))
    by (inr (inr nobody)) = inr (inr nobody)

pub returns-clause-leaves : goal.returns-clause-leaves
returns-clause-leaves c =
    let old = loop_of c.self.inside.hub c.self.inside.attended in
    let mid = loop_of c.self.inside.hub c.pass.new.self in
    let passed = moved-kept old mid refl (keeps-passed c.self.inside.attended c.pass.new.self (ap (λ (z : Attended). z.outgoing) c.pass.ensures.next)) (fewer c.self.inside.attended c.pass.new.self (ap (λ (z : Attended). z.away) c.pass.ensures.next)) in
    let later = loop-moves NoSteps old mid passed c.self.invariant in
    subst (λ (l : Loop). IfOk c.answer_of.result (λ stays. stays ≡ false → MayNotStay l c.args.number)) c.self.view_is
    (if-on c.answer_of.result (λ other stays e. may-not old c.pass.new.self c.args.number (ap (λ (z : Attended). z.away) c.pass.ensures.next) later (c.stay-lost.ensures.leaves (sym c.is_away.ensures.value ∙ c.if-is_away.false) other)) c.answer_of.ensures.memory)

pub returns-then-is_away-clause-own : goal.returns-then-is_away-clause-own
returns-then-is_away-clause-own c = (invariant_of-self c).own

pub returns-clause-own : goal.returns-clause-own
returns-clause-own c = (invariant_of-self-2 c).own

pub returns-then-is_away-clause-user : goal.returns-then-is_away-clause-user
returns-then-is_away-clause-user c =
    let number = c.args.number in
    let thrown = loop_of c.throw_away.new.hub c.throw_away.new.attended in
    subst
    (λ (l : Loop). stay_at l number ≡ None → true ≡ true → (x : Connection) (r : Room) (s : Stay) → connection_at l.hub.connections number ≡ Some x → room_at l.hub x.conference ≡ Some r → stay_at thrown number ≡ Some s → user_of r.ledger.journal x.n ≡ Some s.user)
    c.self.view_is
    (λ none e x r s is_x is_r is_s.
    c.stay-lost.ensures.user (ap (λ (z : Attended). stay_of z.away number) c.pass.ensures.next ∙ none) (sym c.is_away.ensures.value ∙ c.if-is_away.true) x r s is_x is_r (ap (λ (z : Away). stay_of z number) (sym c.throw_away.ensures.away) ∙ is_s))

-- what was gathered

pub returns-then-is_away-clause-gathered : goal.returns-then-is_away-clause-gathered
returns-then-is_away-clause-gathered c = subst (λ (l : Loop). Gathers l.hub c.throw_away.new.hub) c.self.view_is c.throw_away.ensures.thrown.gathered

pub returns-clause-gathered : goal.returns-clause-gathered
returns-clause-gathered c =
    subst (λ (l : Loop). Gathers l.hub c.leave_from-left.new.hub) c.self.view_is
    (gathers-both c.self.inside.hub c.throw_away.new.hub c.leave_from-left.new.hub c.throw_away.ensures.thrown.gathered c.leave_from-left.ensures.moved.gathered)
