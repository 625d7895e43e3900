-- Conferences that are opened one after another.
use Rattle.std.proofs.Common.{◌≡◌, ℕ, List, [], ◌∷◌, ◌++◌, length, take, drop, refl, sym, ap, subst, ◌∙◌, take_at, drop_at, length-append, arith}
use Rattle.std.specs.Prelude.{Result, Ok, Err}
use Rattle.floor_config.specs.Configuration.{Configuration}
use Rattle.floor_hub.specs.Hub.{Hub}
use Rattle.floor_hub.specs.declared.refusal.HubRefusal.{HubRefusal}
use Rattle.floor_ffi.specs.Called.{Opening}
use Rattle.floor_ffi.specs.Gives.{OpensEach, OpensFirst, OpensNext}
use Rattle.floor_ffi.specs.declared.outcome.Outcome.{Outcome}
use Rattle.floor_ffi.specs.declared.outcome.Outcome.TheVariants.{Done, Refused}

-- one more was opened
pub opens-more : (configs : List Configuration) (config : Configuration) (old mid new : Hub) → OpensEach configs old mid → Opening config mid new (Ok tt) → OpensEach (configs ++ config ∷ []) old new
opens-more [] config old mid new before opening = (new, subst (λ (h : Hub). Opening config h new (Ok tt)) before opening, refl)
opens-more (c ∷ configs) config old mid new before opening = (before.0, before.1, opens-more configs config before.0 mid new before.2 opening)

-- these were opened, and then the next one was refused or none was left
opens-first : (all configs left : List Configuration) (old mid new : Hub) (outcome : Outcome) (opened : ℕ) → all ≡ configs ++ left → opened ≡ length configs → OpensEach configs old mid →
    OpensNext left mid new outcome → OpensFirst all old new outcome opened
opens-first all configs left old mid new outcome opened is count opens next = record {
  before = mid;
  within = omega (arith, count, ap length is, length-append configs left);
  opens = subst (λ (cs : List Configuration). OpensEach cs old mid) (sym (ap (take opened) is ∙ take_at configs left opened (sym count))) opens;
  next = subst (λ (cs : List Configuration). OpensNext cs mid new outcome) (sym (ap (drop opened) is ∙ drop_at configs left opened (sym count))) next;
}

pub opens-until : (all configs left : List Configuration) (config : Configuration) (old mid new : Hub) (why : HubRefusal) (opened : ℕ) → all ≡ configs ++ config ∷ left → opened ≡ length configs →
    OpensEach configs old mid → Opening config mid new (Err why) → OpensFirst all old new (Refused why) opened
opens-until all configs left config old mid new why opened is count opens refused = opens-first all configs (config ∷ left) old mid new (Refused why) opened is count opens (why, refl, refused)

pub opens-all : (all configs left : List Configuration) (old new : Hub) (opened : ℕ) → all ≡ configs ++ left → left ≡ [] → opened ≡ length configs → OpensEach configs old new → OpensFirst all old new Done opened
opens-all all configs left old new opened is none count opens = opens-first all configs left old new new Done opened is count opens (subst (λ (cs : List Configuration). OpensNext cs new new Done) (sym none) (refl, refl))

-- the answer of opening was this one
pub opening-is : (config : Configuration) (old new : Hub) (r s : Result (Unit {0}) HubRefusal) → r ≡ s → Opening config old new r → Opening config old new s
opening-is config old new r s is opening = subst (Opening config old new) is opening
