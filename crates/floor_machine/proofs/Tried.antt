-- A call that is refused leaves all as it was, and one that is taken has served its event.
use Rattle.std.proofs.Common.{◌≡◌, Bool, true, false, List, [], Option, Some, None, Ok, Err, refl, sym, ap, subst, ◌∙◌}
use Rattle.std.specs.Prelude.{IsSome, is_some}
use Rattle.floor_message.specs.Laws.{WhatIsShownFits}
use Rattle.floor_message.specs.declared.information.Info.{Info}
use Rattle.floor_queue.specs.declared.request.Request.{Request}
use Rattle.floor_queue.specs.Queue.{request_at}
use Rattle.floor_machine.specs.declared.decision.Decision.{Decision}
use Rattle.floor_machine.specs.declared.event.Event.{Event}
use Rattle.floor_machine.specs.declared.event.Event.TheVariants.{Join, Message, Took, Leave, Revoke, Close, AddUser, AddFloor, SetChair, Say}
use Rattle.floor_machine.specs.declared.machine.Refusal.{Refusal}
use Rattle.floor_machine.specs.declared.machine.Refusal.TheVariants.{Broken, Memory}
use Rattle.floor_machine.specs.Conference.{Conference}
use Rattle.floor_machine.specs.Change.{IsLawful}
use Rattle.floor_machine.specs.Laws.{IsWhole}
use Rattle.floor_machine.specs.Machine.{IsRefusedBy, Machine, event_refusal, whole}
use Rattle.floor_machine.specs.Parcel.{Parcel}
use Rattle.floor_machine.specs.steps.Deciding.{ComesTo, MayChange}
use Rattle.floor_machine.specs.steps.Frame.{IsServed, IsTried}
use Rattle.floor_machine.proofs.Bounds.{shown_fits}
use Rattle.floor_machine.proofs.Lawful.{broken_refuses, lawful_event, never_memory, unlawful_event}

-- refused before it begins
pub tried-refused : (m : Machine) (e : Event) (ps : List Parcel) (changed : List Info) (why : Refusal) → changed ≡ [] → Some why ≡ event_refusal m e → IsTried m e m ps ps changed (Err why)
tried-refused m e ps changed why none h =
    let R : Option Refusal → Type 0 = λ o. IsRefusedBy {T = Unit {0}} o (Err why) in
    record {
      took = tt;
      refused = subst R h refl;
      left = record {
        out = refl;
        unchanged = λ other. refl;
        broken = λ is. absurd (never_memory m e (ap (λ (r : Refusal). Some r) (sym is) ∙ h));
        unlawful = λ other memory. unlawful_event m e why h other;
      };
      changed = tt;
      unchanged = none;
    }

-- broken off for want of memory
pub tried-broken : (m : Machine) (e : Event) (new : Machine) (before after : List Parcel) (changed : List Info) → None ≡ event_refusal m e → new.is_broken ≡ true → after ≡ before → changed ≡ [] → IsTried m e new before after changed (Err Memory)
tried-broken m e new before after changed h broken out none =
    let R : Option Refusal → Type 0 = λ o. IsRefusedBy {T = Unit {0}} o (Err Memory) in
    record {
      took = tt;
      refused = subst R h tt;
      left = record { out = out; unchanged = λ other. absurd (other refl); broken = λ is. broken; unlawful = λ other memory. absurd (memory refl) };
      changed = tt;
      unchanged = none;
    }

-- taken
pub tried-served : (m : Machine) (e : Event) (t : Conference) (before after : List Parcel) (changed : List Info) → WhatIsShownFits → IsWhole e → None ≡ event_refusal m e →
    IsServed m.conference e t before after changed → IsTried m e (whole t) before after changed (Ok tt)
tried-served m e t before after changed law framed h served =
    let R : Option Refusal → Type 0 = λ o. IsRefusedBy {T = Unit {0}} o (Ok tt) in
    record {
      took = record { lawful = lawful_event m e framed h; next = ap whole served.next; out = served.out; fits = shown_fits m.conference e law served.shown };
      refused = subst R h tt;
      left = tt;
      changed = served.changed;
      unchanged = tt;
    }

-- a machine that refuses nothing isn't broken
pub whole_of-free : (m : Machine) (e : Event) → None ≡ event_refusal m e → m.is_broken ≡ false
whole_of-free m e h = by m.is_broken refl
  where
    by : (b : Bool) → m.is_broken ≡ b → m.is_broken ≡ false
    by true is = let refused = broken_refuses m e is in absurd (let no : None ≡ Some Broken = h ∙ refused in cc)
    by false is = is

some_of : (o : Option Request) → is_some o ≡ true → IsSome o
some_of None h = cc
some_of (Some r) h = refl

-- what a lawful event that nobody sent comes to may be done
pub may_unsent : (s : Conference) (e : Event) (d : Decision) → IsLawful s e → ComesTo s e None d → MayChange s d.change
may_unsent s (Join user) d lawful h = absurd h
may_unsent s (Message n bytes) d lawful h = absurd (let no = h.0 in cc)
may_unsent s (Took n k) d lawful h = absurd h
may_unsent s (Leave n) d lawful h = subst (λ (x : Decision). MayChange s x.change) (sym h.1) tt
may_unsent s (Revoke request) d lawful h = subst (λ (x : Decision). MayChange s x.change) (sym h.1) (some_of (request_at s.ongoing request) lawful.1, tt)
may_unsent s Close d lawful h = subst (λ (x : Decision). MayChange s x.change) (sym h.1) tt
may_unsent s (AddUser user) d lawful h = subst (λ (x : Decision). MayChange s x.change) (sym h.1) lawful.1
may_unsent s (AddFloor floor) d lawful h = subst (λ (x : Decision). MayChange s x.change) (sym h.1) lawful.1
may_unsent s (SetChair floor chair) d lawful h = subst (λ (x : Decision). MayChange s x.change) (sym h.1) lawful.1
may_unsent s (Say user bytes) d lawful h = absurd (let no = h.0 in cc)
