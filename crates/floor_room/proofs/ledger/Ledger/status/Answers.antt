use Rattle.std.proofs.Common.{ap, subst, ◌∙◌, arith}
use Rattle.floor_room.specs.Ledger as spec
use Rattle.floor_room.specs.Status.{IsStatus, phase_of}
use Rattle.floor_room.specs.declared.status.Status.{Status}
use Rattle.floor_room.proofs.Ledgers.{stands}
use Rattle.floor_room.proofs.ledger.Ledger.status.Goals as goal

pub returns : goal.returns
returns c =
    let l : spec.Ledger = record { config = c.self.inside.config; journal = c.self.inside.journal.items; is_broken = c.self.inside.is_broken } in
    let s : Status = record { members = c.narrowed.result; ongoing = c.narrowed-2.result; events = c.len.result; phase = c.phase_of.result } in
    record {
      value = subst (λ (x : spec.Ledger). IsStatus x s) c.self.view_is
          (stands l c.self.inside.machine c.live_members.result c.ongoing_requests.result c.narrowed.result c.narrowed-2.result c.len.result c.phase_of.result c.self.invariant
          c.live_members.ensures.value c.ongoing_requests.ensures.value c.ongoing_requests.ensures.range c.narrowed.ensures.whole c.narrowed-2.ensures.whole c.narrowed.ensures.broken c.narrowed-2.ensures.broken
          (omega arith) (c.phase_of.ensures ∙ ap (phase_of c.self.inside.is_broken) c.is_open.ensures.value));
    }
