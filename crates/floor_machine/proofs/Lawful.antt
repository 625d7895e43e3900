-- The events that are taken are the lawful ones.
use Rattle.std.proofs.Common.{◌≡◌, ◌≢◌, ℕ, ◌<◌, ◌≤◌, Bool, true, false, cond, Option, Some, None, refl, sym, ap, arith}
use Rattle.std.specs.Prelude.{◌&&◌, not, nat_le, nat_lt, count_by, is_some, length, option_map}
use Rattle.std.proofs.lemmas.Bool.Decides.{nat_tests}
use Rattle.floor_config.specs.declared.fault.ConfigFault.{ConfigFault}
use Rattle.floor_config.specs.declared.fault.ConfigFault.TheVariants as faults
use Rattle.floor_config.specs.declared.floors.Floor.{Floor}
use Rattle.floor_config.specs.declared.users.User.{User}
use Rattle.floor_config.specs.Changed.{chair_fault, floor_fault, floor_is_within, unknown_chair, user_fault, user_is_within}
use Rattle.floor_config.specs.Configuration.{Configuration}
use Rattle.floor_config.specs.Limits.{is_known}
use Rattle.floor_config.specs.Lookup.{is_floor, is_user}
use Rattle.floor_queue.specs.Queue.{request_at}
use Rattle.floor_machine.specs.declared.act.Act.{Act}
use Rattle.floor_machine.specs.declared.event.Event.{Event}
use Rattle.floor_machine.specs.declared.event.Event.TheVariants.{Join, Message, Took, Leave, Revoke, Close, AddUser, AddFloor, SetChair, Say}
use Rattle.floor_machine.specs.declared.machine.Refusal.{Refusal}
use Rattle.floor_machine.specs.declared.machine.Refusal.TheVariants.{Broken, Ended, NoMember, NoUser, Full, NoRequest, Cut, BadCount, Memory}
use Rattle.floor_machine.specs.Conference.{Conference, backlog, is_cut, is_live}
use Rattle.floor_machine.specs.Change.{IsLawful}
use Rattle.floor_machine.specs.Laws.{IsWhole, TakenIsLawful}
use Rattle.floor_machine.specs.Machine.{Machine, whole, act_refusal, fault_refusal, refusal_of_fault, event_of_act, event_refusal, is_backlog, leave_refusal}
use Rattle.floor_machine.proofs.Joining.{join_lawful, message_lawful, say_lawful, took_lawful}

-- where no refusal applies, the event is lawful
pub leave_lawful : (m : Machine) (n : ℕ) → None ≡ leave_refusal m n → IsLawful m.conference (Leave n)
leave_lawful m n h = by m.is_broken m.conference.is_open (is_live m.conference n) h
  where
    by : (a b d : Bool) → None ≡ cond a (Some Broken) (cond (not b) (Some Ended) (cond (not d) (Some NoMember) None)) → (b ≡ true) × (d ≡ true)
    by true b d h = cc
    by false false d h = cc
    by false true false h = cc
    by false true true h = (refl, refl)

faultless : (m : Machine) (fault : Option ConfigFault) → None ≡ fault_refusal m fault → (m.conference.is_open ≡ true) × (fault ≡ None)
faultless m fault h = by m.is_broken m.conference.is_open fault h
  where
    by : (a b : Bool) (o : Option ConfigFault) → None ≡ cond a (Some Broken) (cond (not b) (Some Ended) (option_map refusal_of_fault o)) → (b ≡ true) × (o ≡ None)
    by true b o h = cc
    by false false o h = cc
    by false true None h = (refl, refl)
    by false true (Some fault) h = cc

pub act_lawful : (m : Machine) (act : Act) → None ≡ act_refusal m act → IsLawful m.conference (event_of_act act)
act_lawful m (Act.Revoke request) h = by m.is_broken m.conference.is_open (is_some (request_at m.conference.ongoing request)) h
  where
    by : (a b d : Bool) → None ≡ cond a (Some Broken) (cond (not b) (Some Ended) (cond (not d) (Some NoRequest) None)) → (b ≡ true) × (d ≡ true)
    by true b d h = cc
    by false false d h = cc
    by false true false h = cc
    by false true true h = (refl, refl)
act_lawful m Act.Close h = by m.is_broken m.conference.is_open h
  where
    by : (a b : Bool) → None ≡ cond a (Some Broken) (cond (not b) (Some Ended) None) → b ≡ true
    by true b h = cc
    by false false h = cc
    by false true h = refl
act_lawful m (Act.AddUser user) h = faultless m (user_fault m.conference.config user) h
act_lawful m (Act.AddFloor floor) h = faultless m (floor_fault m.conference.config floor) h
act_lawful m (Act.SetChair floor chair) h = faultless m (chair_fault m.conference.config floor chair) h

-- an event that is taken is lawful
lawful_of-taken : (s : Conference) (e : Event) → IsWhole e → event_refusal (whole s) e ≡ None → IsLawful s e
lawful_of-taken s (Join user) framed h = join_lawful (whole s) user (sym h)
lawful_of-taken s (Message n bytes) framed h = message_lawful (whole s) n bytes (sym h) framed
lawful_of-taken s (Took n k) framed h = took_lawful (whole s) n k (sym h)
lawful_of-taken s (Leave n) framed h = leave_lawful (whole s) n (sym h)
lawful_of-taken s (Revoke request) framed h = act_lawful (whole s) (Act.Revoke request) (sym h)
lawful_of-taken s Close framed h = act_lawful (whole s) Act.Close (sym h)
lawful_of-taken s (AddUser user) framed h = act_lawful (whole s) (Act.AddUser user) (sym h)
lawful_of-taken s (AddFloor floor) framed h = act_lawful (whole s) (Act.AddFloor floor) (sym h)
lawful_of-taken s (SetChair floor chair) framed h = act_lawful (whole s) (Act.SetChair floor chair) (sym h)
lawful_of-taken s (Say user bytes) framed h = say_lawful (whole s) user bytes (sym h) framed

few : (n : ℕ) → n < 64 → nat_le 64 n ≡ false
few n h = grind (arith, nat_tests)

two_hold : (refusal : Refusal) (b d : Bool) → b ≡ true → d ≡ true → cond (not b) (Some Ended) (cond (not d) (Some refusal) None) ≡ None
two_hold refusal b d h k = rw (h, k) refl

no_fault : (b : Bool) (fault : Option ConfigFault) → b ≡ true → fault ≡ None → cond (not b) (Some Ended) (option_map refusal_of_fault fault) ≡ None
no_fault b fault h k = rw (h, k) refl

-- a lawful event is taken
taken_of-lawful : (s : Conference) (e : Event) → IsLawful s e → event_refusal (whole s) e ≡ None
taken_of-lawful s (Join user) h =
    by s.is_open (is_user s.config user) (nat_le 64 (count_by (λ m. m.is_live) s.members)) h.0 h.1 (few (count_by (λ m. m.is_live) s.members) h.2)
  where
    by : (b d f : Bool) → b ≡ true → d ≡ true → f ≡ false → cond (not b) (Some Ended) (cond (not d) (Some NoUser) (cond f (Some Full) None)) ≡ None
    by b d f h k l = rw (h, k, l) refl
taken_of-lawful s (Message n bytes) h = by s.is_open (is_live s n) (is_cut s n) h.0 h.1 h.2
  where
    by : (b d f : Bool) → b ≡ true → d ≡ true → f ≡ false → cond (not b) (Some Ended) (cond (not d) (Some NoMember) (cond f (Some Cut) None)) ≡ None
    by b d f h k l = rw (h, k, l) refl
taken_of-lawful s (Took n k) h = by s.is_open (is_live s n) (is_backlog s n k) h.0 h.1 (within k (backlog s n) h.2 h.3)
  where
    within : (a b : ℕ) → 1 ≤ a → a ≤ b → (nat_le 1 a && nat_le a b) ≡ true
    within a b h l = grind (arith, nat_tests)

    by : (b d f : Bool) → b ≡ true → d ≡ true → f ≡ true → cond (not b) (Some Ended) (cond (not d) (Some NoMember) (cond (not f) (Some BadCount) None)) ≡ None
    by b d f h k l = rw (h, k, l) refl
taken_of-lawful s (Leave n) h = two_hold NoMember s.is_open (is_live s n) h.0 h.1
taken_of-lawful s (Revoke request) h = two_hold NoRequest s.is_open (is_some (request_at s.ongoing request)) h.0 h.1
taken_of-lawful s Close h = by s.is_open h
  where
    by : (b : Bool) → b ≡ true → cond (not b) (Some Ended) None ≡ None
    by b h = rw h refl
taken_of-lawful s (AddUser user) h = no_fault s.is_open (user_fault s.config user) h.0 h.1
taken_of-lawful s (AddFloor floor) h = no_fault s.is_open (floor_fault s.config floor) h.0 h.1
taken_of-lawful s (SetChair floor chair) h = no_fault s.is_open (chair_fault s.config floor chair) h.0 h.1
taken_of-lawful s (Say user bytes) h = two_hold NoUser s.is_open (is_user s.config user) h.0 h.1

-- of three refusals none is Memory
never_third : (refusal : Refusal) (a b d : Bool) → (refusal ≡ Memory → ⊥) →
    Some Memory ≡ cond a (Some Broken) (cond (not b) (Some Ended) (cond (not d) (Some refusal) None)) → ⊥
never_third refusal true b d other h = cc
never_third refusal false false d other h = cc
never_third refusal false true false other h = let same : refusal ≡ Memory = cc in other same
never_third refusal false true true other h = cc

-- nor of four
never_fourth : (third fourth : Refusal) (a b d f : Bool) → (third ≡ Memory → ⊥) → (fourth ≡ Memory → ⊥) →
    Some Memory ≡ cond a (Some Broken) (cond (not b) (Some Ended) (cond (not d) (Some third) (cond f (Some fourth) None))) → ⊥
never_fourth third fourth true b d f other last h = cc
never_fourth third fourth false false d f other last h = cc
never_fourth third fourth false true false f other last h = let same : third ≡ Memory = cc in other same
never_fourth third fourth false true true true other last h = let same : fourth ≡ Memory = cc in last same
never_fourth third fourth false true true false other last h = cc

-- what no refusal stands against is lawful
pub lawful_event : (m : Machine) (e : Event) → IsWhole e → None ≡ event_refusal m e → IsLawful m.conference e
lawful_event m (Join user) framed h = join_lawful m user h
lawful_event m (Message n bytes) framed h = message_lawful m n bytes h framed
lawful_event m (Took n k) framed h = took_lawful m n k h
lawful_event m (Leave n) framed h = leave_lawful m n h
lawful_event m (Revoke request) framed h = act_lawful m (Act.Revoke request) h
lawful_event m Close framed h = act_lawful m Act.Close h
lawful_event m (AddUser user) framed h = act_lawful m (Act.AddUser user) h
lawful_event m (AddFloor floor) framed h = act_lawful m (Act.AddFloor floor) h
lawful_event m (SetChair floor chair) framed h = act_lawful m (Act.SetChair floor chair) h
lawful_event m (Say user bytes) framed h = say_lawful m user bytes h framed

pub broken_refuses : (m : Machine) (e : Event) → m.is_broken ≡ true → event_refusal m e ≡ Some Broken
broken_refuses m (Join user) h = rw h refl
broken_refuses m (Message n bytes) h = rw h refl
broken_refuses m (Took n k) h = rw h refl
broken_refuses m (Leave n) h = rw h refl
broken_refuses m (Revoke request) h = rw h refl
broken_refuses m Close h = rw h refl
broken_refuses m (AddUser user) h = rw h refl
broken_refuses m (AddFloor floor) h = rw h refl
broken_refuses m (SetChair floor chair) h = rw h refl
broken_refuses m (Say user bytes) h = rw h refl

-- what a machine that isn't broken refuses isn't lawful
pub unlawful_event : (m : Machine) (e : Event) (why : Refusal) → Some why ≡ event_refusal m e → why ≢ Broken → ¬ IsLawful m.conference e
unlawful_event m e why h other lawful = by m.is_broken refl
  where
    by : (b : Bool) → b ≡ m.is_broken → ⊥
    by true is = let broken = broken_refuses m e (sym is) in other cc
    by false is =
        let same : whole m.conference ≡ m = ap (λ (b : Bool). record m { is_broken = b }) is in
        let taken : event_refusal (whole m.conference) e ≡ None = taken_of-lawful m.conference e lawful in
        let refused : event_refusal (whole m.conference) e ≡ event_refusal m e = ap (λ (x : Machine). event_refusal x e) same in
        cc

never_fault : (m : Machine) (fault : Option ConfigFault) → ((f : ConfigFault) → fault ≡ Some f → refusal_of_fault f ≢ Memory) → Some Memory ≡ fault_refusal m fault → ⊥
never_fault m fault named h = by m.is_broken m.conference.is_open fault named h
  where
    by : (a b : Bool) (o : Option ConfigFault) → ((f : ConfigFault) → o ≡ Some f → refusal_of_fault f ≢ Memory) →
        Some Memory ≡ cond a (Some Broken) (cond (not b) (Some Ended) (option_map refusal_of_fault o)) → ⊥
    by true b o n h = cc
    by false false o n h = cc
    by false true None n h = cc
    by false true (Some fault) n h = n fault refl (let same : refusal_of_fault fault ≡ Memory = cc in same)

-- the faults of a user, a floor or a chair
never_user : (config : Configuration) (user : User) (f : ConfigFault) → user_fault config user ≡ Some f → refusal_of_fault f ≢ Memory
never_user config user f h = by (nat_lt (length config.users) 256 && user_is_within user) (is_user config user.id) h
  where
    by : (a b : Bool) → cond a (cond b (Some faults.DoubleUser) None) (Some faults.OutOfRange) ≡ Some f → refusal_of_fault f ≢ Memory
    by true true h = let same : faults.DoubleUser ≡ f = cc in rw (sym same) (λ e. cc)
    by true false h = cc
    by false b h = let same : faults.OutOfRange ≡ f = cc in rw (sym same) (λ e. cc)

never_unknown : (b : Bool) (f : ConfigFault) → cond b None (Some faults.UnknownChair) ≡ Some f → refusal_of_fault f ≢ Memory
never_unknown true f h = cc
never_unknown false f h = let same : faults.UnknownChair ≡ f = cc in rw (sym same) (λ e. cc)

never_floor : (config : Configuration) (floor : Floor) (f : ConfigFault) → floor_fault config floor ≡ Some f → refusal_of_fault f ≢ Memory
never_floor config floor f h = by (nat_lt (length config.floors) 32 && floor_is_within floor) (is_floor config.floors floor.id) h
  where
    by : (a b : Bool) → cond a (cond b (Some faults.DoubleFloor) (unknown_chair config floor.chair)) (Some faults.OutOfRange) ≡ Some f → refusal_of_fault f ≢ Memory
    by true true h = let same : faults.DoubleFloor ≡ f = cc in rw (sym same) (λ e. cc)
    by true false h = never_unknown (is_known config.users floor.chair) f h
    by false b h = let same : faults.OutOfRange ≡ f = cc in rw (sym same) (λ e. cc)

never_chair : (config : Configuration) (floor : ℕ) (chair : Option ℕ) (f : ConfigFault) → chair_fault config floor chair ≡ Some f → refusal_of_fault f ≢ Memory
never_chair config floor chair f h = by (is_floor config.floors floor) h
  where
    by : (b : Bool) → cond b (unknown_chair config chair) (Some faults.NoFloor) ≡ Some f → refusal_of_fault f ≢ Memory
    by true h = never_unknown (is_known config.users chair) f h
    by false h = let same : faults.NoFloor ≡ f = cc in rw (sym same) (λ e. cc)

-- no event is refused for want of memory before it begins
pub never_memory : (m : Machine) (e : Event) → Some Memory ≡ event_refusal m e → ⊥
never_memory m (Join user) h = by m.is_broken m.conference.is_open (is_user m.conference.config user) (nat_le 64 (count_by (λ m. m.is_live) m.conference.members)) h
  where
    by : (a b d f : Bool) → Some Memory ≡ cond a (Some Broken) (cond (not b) (Some Ended) (cond (not d) (Some NoUser) (cond f (Some Full) None))) → ⊥
    by true b d f h = cc
    by false false d f h = cc
    by false true false f h = cc
    by false true true true h = cc
    by false true true false h = cc
never_memory m (Message n bytes) h = never_fourth NoMember Cut m.is_broken m.conference.is_open (is_live m.conference n) (is_cut m.conference n) (λ e. cc) (λ e. cc) h
never_memory m (Took n k) h = never_fourth NoMember BadCount m.is_broken m.conference.is_open (is_live m.conference n) (not (is_backlog m.conference n k)) (λ e. cc) (λ e. cc) h
never_memory m (Leave n) h = never_third NoMember m.is_broken m.conference.is_open (is_live m.conference n) (λ e. cc) h
never_memory m (Revoke request) h = never_third NoRequest m.is_broken m.conference.is_open (is_some (request_at m.conference.ongoing request)) (λ e. cc) h
never_memory m Close h = by m.is_broken m.conference.is_open h
  where
    by : (a b : Bool) → Some Memory ≡ cond a (Some Broken) (cond (not b) (Some Ended) None) → ⊥
    by true b h = cc
    by false false h = cc
    by false true h = cc
never_memory m (AddUser user) h = never_fault m (user_fault m.conference.config user) (never_user m.conference.config user) h
never_memory m (AddFloor floor) h = never_fault m (floor_fault m.conference.config floor) (never_floor m.conference.config floor) h
never_memory m (SetChair floor chair) h = never_fault m (chair_fault m.conference.config floor chair) (never_chair m.conference.config floor chair) h
never_memory m (Say user bytes) h = never_third NoUser m.is_broken m.conference.is_open (is_user m.conference.config user) (λ e. cc) h

pub taken_is_lawful : TakenIsLawful
taken_is_lawful = λ s e framed. (lawful_of-taken s e framed, taken_of-lawful s e)
