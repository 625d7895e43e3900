use Rattle.std.proofs.Common.{◌≡◌, ◌++◌, ◌<◌, ◌∙◌, [], List, ◌∷◌, false, length, vec_capacity, refl, sym, ap, subst, append-nil, arith}
use Rattle.floor_machine.specs.declared.event.Event.{Event}
use Rattle.floor_machine.specs.declared.event.Event.TheVariants.{Took}
use Rattle.floor_machine.specs.Parcel.{Parcel}
use Rattle.floor_room.specs.Calls.{Applied, with_event}
use Rattle.floor_room.specs.Ledger.{Ledger}
use Rattle.floor_room.specs.Outbox.{Outbox, delivered}
use Rattle.floor_room.specs.Room as spec
use Rattle.floor_room.proofs.Adding.{entry-whole, keeps-queued, keeps-unadded}
use Rattle.floor_room.proofs.Delivering.{delivered-none}
use Rattle.floor_room.proofs.Ledgers.{allowed-open}
use Rattle.floor_room.proofs.room.Room.took.Goals as goal

-- outboxes into which nothing is put
nothing : (os : List Outbox) → os ≡ delivered [] 1 (os ++ [])
nothing os = sym (delivered-none 1 (os ++ []) ∙ append-nil os)

abbrev old : goal.In_ok-took → spec.Room
old c = record { ledger = c.self.inside.ledger; outboxes = c.self.inside.outboxes.items; told = c.self.inside.told; kept = c.self.inside.kept }

abbrev new : goal.In_ok-took → spec.Room
new c = record { ledger = c.took.new.self; outboxes = c.self.inside.outboxes.items; told = c.self.inside.told; kept = c.self.inside.kept }

applied : (c : goal.In_ok-took) → Applied (old c) (new c) (Took c.args.n c.args.k)
applied c =
    let t = c.in_ok-took.ensures.took in
    let e : Event = Took c.args.n c.args.k in
    record {
      allowed = t.allowed;
      lawful = t.lawful;
      next =
          ap (λ (l : Ledger). record { ledger = l; outboxes = c.self.inside.outboxes.items; told = c.self.inside.told; kept = c.self.inside.kept }) t.next
          ∙ ap (λ (os : List Outbox). record { ledger = record { config = c.self.inside.ledger.config; journal = c.self.inside.ledger.journal ++ e ∷ []; is_broken = false }; outboxes = os; told = c.self.inside.told; kept = c.self.inside.kept })
          (nothing c.self.inside.outboxes.items)
          ∙ ap (λ (ps : List Parcel). with_event (old c) e ps false) t.told;
    }

pub invariant_of-self-2 : goal.invariant_of-self-2
invariant_of-self-2 c =
    let e : Event = Took c.args.n c.args.k in
    let few : length c.self.inside.outboxes.items < vec_capacity c.self.inside.outboxes = c.self.invariant.spare (allowed-open c.self.inside.ledger e c.in_ok-took.ensures.took.allowed).unbroken in
    keeps-queued (old c) c.took.new.self c.took.new.self e [] [] [] false c.self.inside.outboxes.items c.self.inside.told (vec_capacity c.self.inside.outboxes) (vec_capacity c.self.inside.outboxes) c.self.invariant
    c.in_ok-took.ensures.took (omega arith) refl (λ h. refl) (entry-whole c.self.inside.ledger c.took.new.self e c.in_ok-took.ensures.took.next) (nothing c.self.inside.outboxes.items) refl (λ h. few)

pub invariant_of-self : goal.invariant_of-self
invariant_of-self c =
    let r : spec.Room = record { ledger = c.self.inside.ledger; outboxes = c.self.inside.outboxes.items; told = c.self.inside.told; kept = c.self.inside.kept } in
    keeps-unadded r c.took.new.self c.in_err-took.field-0.0 (vec_capacity c.self.inside.outboxes) c.self.invariant c.in_err-took.ensures.left

pub returns-clause-took : goal.returns-clause-took
returns-clause-took c = subst (λ (x : spec.Room). Applied x (new c) (Took c.args.n c.args.k)) c.self.view_is (applied c)
