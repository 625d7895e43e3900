use Rattle.std.proofs.Common.{◌≡◌, ◌≤◌, ◌<◌, ℕ, subst, Some}
use Rattle.floor_loop.specs.Loop.{Attended, until_in}
use Rattle.floor_loop.specs.steps.Listed.{deadline}
use Rattle.floor_loop.proofs.Due.{due-ending, due-failed, later-due, none-due}
use Rattle.floor_loop.proofs.attended.Attended.due.Goals as goal

pub invariant_of-self : goal.invariant_of-self
invariant_of-self c = record { ready = c.self.invariant.ready; ending = c.self.invariant.ending; failed = c.first_of.ensures.listed c.self.inside.time c.self.invariant.failed }

pub returns-in-Some-clause-found : goal.returns-in-Some-clause-found
returns-in-Some-clause-found c =
    let a : Attended = record { outgoing = c.self.inside.outgoing.entries; time = c.self.inside.time; away = c.self.inside.away } in
    let f = c.in-Some.ensures.first c.self.inside.time c.self.invariant.failed in
    subst (λ (z : Attended). (until : ℕ) × (until_in z c.in-Some.entry.number ≡ Some until) × (until ≤ z.time)) c.self.view_is (due-failed a c.in-Some.entry c.in-Some.ensures.found f.0)

pub invariant_of-self-then-entry-self : goal.invariant_of-self-then-entry-self
invariant_of-self-then-entry-self c =
    record { ready = c.self.invariant.ready; ending = c.first_of-2.ensures.listed (deadline c.self.inside.time) c.self.invariant.ending; failed = c.first_of.ensures.listed c.self.inside.time c.self.invariant.failed }

pub invariant_of-self-in-None-first_of : goal.invariant_of-self-in-None-first_of
invariant_of-self-in-None-first_of c =
    record { ready = c.self.invariant.ready; ending = c.first_of-2.ensures.listed (deadline c.self.inside.time) c.self.invariant.ending; failed = c.first_of.ensures.listed c.self.inside.time c.self.invariant.failed }

pub invariant_of-self-2 : goal.invariant_of-self-2
invariant_of-self-2 c =
    record { ready = c.self.invariant.ready; ending = c.first_of-2.ensures.listed (deadline c.self.inside.time) c.self.invariant.ending; failed = c.first_of.ensures.listed c.self.inside.time c.self.invariant.failed }

pub returns-then-entry-self-clause-found : goal.returns-then-entry-self-clause-found
returns-then-entry-self-clause-found c =
    let a : Attended = record { outgoing = c.self.inside.outgoing.entries; time = c.self.inside.time; away = c.self.inside.away } in
    let entry = c.in-Some-first_of.entry in
    subst (λ (z : Attended). (until : ℕ) × (until_in z entry.number ≡ Some until) × (until ≤ z.time)) c.self.view_is
    (due-ending a entry (c.in-None.ensures.none c.self.inside.time c.self.invariant.failed) c.in-Some-first_of.ensures.found c.if-entry-self.true)

pub returns-in-None-first_of-clause-none : goal.returns-in-None-first_of-clause-none
returns-in-None-first_of-clause-none c =
    let a : Attended = record { outgoing = c.self.inside.outgoing.entries; time = c.self.inside.time; away = c.self.inside.away } in
    subst (λ (z : Attended). (number until : ℕ) → until_in z number ≡ Some until → z.time < until) c.self.view_is
    (none-due a (c.in-None.ensures.none c.self.inside.time c.self.invariant.failed) (c.in-None-first_of.ensures.none (deadline c.self.inside.time) c.self.invariant.ending))

pub returns-clause-none : goal.returns-clause-none
returns-clause-none c =
    let a : Attended = record { outgoing = c.self.inside.outgoing.entries; time = c.self.inside.time; away = c.self.inside.away } in
    let entry = c.in-Some-first_of.entry in
    subst (λ (z : Attended). (number until : ℕ) → until_in z number ≡ Some until → z.time < until) c.self.view_is
    (later-due a entry (c.in-None.ensures.none c.self.inside.time c.self.invariant.failed) (c.in-Some-first_of.ensures.first (deadline c.self.inside.time) c.self.invariant.ending).1 c.if-entry-self.false)
