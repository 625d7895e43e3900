use Rattle.std.proofs.Common.{◌≡◌, ◌∙◌, ◌<◌, ap, arith, refl}
use Rattle.floor_listen.specs.Connections.{taken}
use Rattle.floor_listen.specs.declared.connections.TheConstants.{MAX_CONNECTIONS}
use Rattle.floor_listen.proofs.Places.{added, same_running}
use Rattle.floor_listen.proofs.connections.Connections.begin.Goals as goal

pub returns-then-count_of-ge-MAX_CONNECTIONS-clause-kept : goal.returns-then-count_of-ge-MAX_CONNECTIONS-clause-kept
returns-then-count_of-ge-MAX_CONNECTIONS-clause-kept g c = rw (← c.self.view_is) c.self.invariant.1

pub invariant_of-self-in_err-reserve-2 : goal.invariant_of-self-in_err-reserve-2
invariant_of-self-in_err-reserve-2 g c =
    let same = same_running _ _ _ c.in_err-reserve-2.ensures.items c.self.invariant.0 c.self.invariant.1 in
    (same.0, same.1, omega arith)

pub returns-in_err-reserve-2-clause-kept : goal.returns-in_err-reserve-2-clause-kept
returns-in_err-reserve-2-clause-kept g c = (same_running _ _ _ c.in_err-reserve-2.ensures.items c.self.invariant.0 c.self.invariant.1).1

pub invariant_of-self-in_err-reserve-3 : goal.invariant_of-self-in_err-reserve-3
invariant_of-self-in_err-reserve-3 g c =
    let same = same_running _ _ _ c.in_ok-reserve-2.ensures.items c.self.invariant.0 c.self.invariant.1 in
    (same.0, same.1, omega arith)

pub returns-in_err-reserve-3-clause-kept : goal.returns-in_err-reserve-3-clause-kept
returns-in_err-reserve-3-clause-kept g c = (same_running _ _ _ c.in_ok-reserve-2.ensures.items c.self.invariant.0 c.self.invariant.1).1

pub returns-in_default-clause-kept : goal.returns-in_default-clause-kept
returns-in_default-clause-kept g c = rw (← c.self.view_is) c.self.invariant.1

pub invariant_of-self-2 : goal.invariant_of-self-2
invariant_of-self-2 g c =
    let e : c.count_of.result ≡ taken c.args.conference c.self.inside.running.items =
    c.count_of.ensures ∙ ap (λ l. taken c.args.conference l) c.as_slice.ensures.value in
    let room : taken c.args.conference c.self.inside.running.items < MAX_CONNECTIONS = omega arith in
    let kept = added c.self.inside.running.items _ _ _ c.self.inside.begun c.in-Some.after c.in_ok-reserve-2.ensures.items c.push_reserved.ensures.items refl (omega (arith, c.in-Some.ensures)) room c.self.invariant.0 c.self.invariant.1 in
    (kept.0, kept.1, omega (arith, c.in_ok-reserve.ensures.ok, c.in_ok-reserve.ensures.len, c.in-Some-checked_add.ensures, c.len.ensures, c.in_ok-reserve-2.ensures.len, c.push_reserved.ensures.len))

pub returns-clause-kept : goal.returns-clause-kept
returns-clause-kept g c =
    let e : c.count_of.result ≡ taken c.args.conference c.self.inside.running.items =
    c.count_of.ensures ∙ ap (λ l. taken c.args.conference l) c.as_slice.ensures.value in
    let room : taken c.args.conference c.self.inside.running.items < MAX_CONNECTIONS = omega arith in
    (added c.self.inside.running.items _ _ _ c.self.inside.begun c.in-Some.after c.in_ok-reserve-2.ensures.items c.push_reserved.ensures.items refl (omega (arith, c.in-Some.ensures)) room c.self.invariant.0 c.self.invariant.1).1
