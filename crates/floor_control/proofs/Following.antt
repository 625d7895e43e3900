-- A watcher and one more event.
use Rattle.std.proofs.Common.{◌≡◌, ℕ, ◌+◌, ◌<◌, ◌≤◌, Bool, true, false, cond, List, [], ◌++◌, length, map, Option, Some, None, refl, sym, ap, subst, ◌∙◌, arith}
use Rattle.std.specs.Prelude.{◌==◌, nat_le, not, filter, Err, option_map}
use Rattle.std.specs.List.{list_any}
use Rattle.std.specs.Option.{option_map_or}
use Rattle.std.proofs.lemmas.Bool.Decides.{nat_tests}
use Rattle.floor_config.specs.Configuration.{Configuration}
use Rattle.floor_message.specs.declared.information.Info.{Info}
use Rattle.floor_machine.specs.declared.event.Event.{Event}
use Rattle.floor_machine.specs.declared.machine.Refusal.{Refusal}
use Rattle.floor_machine.specs.declared.machine.Refusal.TheVariants.{Broken, Ended, NoMember, NoUser, Full, NoRequest, Cut, BadCount, OutOfRange, DoubleUser, DoubleFloor, NoFloor, UnknownChair, Memory}
use Rattle.floor_machine.specs.Conference.{Conference, opening}
use Rattle.floor_machine.specs.Events.{joiner}
use Rattle.floor_machine.specs.Machine as machine
use Rattle.floor_machine.specs.Machine.{Machine, event_refusal, infos_changed, whole}
use Rattle.floor_machine.specs.Membership.{JoinsAdd, joins}
use Rattle.floor_machine.specs.Next.{next}
use Rattle.floor_room.specs.Ledger as room
use Rattle.floor_room.specs.declared.refusal.RoomRefusal.{RoomRefusal}
use Rattle.floor_room.specs.declared.refusal.RoomRefusal.TheVariants.{JournalFull, Refused}
use Rattle.floor_control.specs.Watch.{cut_of, cut_text, leaver, lines, own_texts, request_text, said, watched}
use Rattle.floor_control.specs.Watcher.{Watcher, closed, refusal}
use Rattle.floor_control.specs.steps.Following.{Follows}

-- a watcher that isn't closed is not broken, and there is a place left
pub record IsOpen (w : Watcher) : Type 0 where
  pub unbroken : w.is_broken ≡ false
  pub few : w.place < 2000000

pub opened : (w : Watcher) → None ≡ closed w → IsOpen w
opened w h = by w.is_broken (nat_le 2000000 w.place) refl refl h
  where
    fewer : (n : ℕ) → nat_le 2000000 n ≡ false → n < 2000000
    fewer n e = grind (arith, nat_tests)

    by : (a b : Bool) → w.is_broken ≡ a → nat_le 2000000 w.place ≡ b → None ≡ cond a (Some (Refused Broken)) (cond b (Some JournalFull) None) → IsOpen w
    by true b e f h = absurd cc
    by false true e f h = absurd cc
    by false false e f h = record { unbroken = e; few = fewer w.place f }

joins-few : (e : Event) → joins e ≤ 1
joins-few e = by (joiner e)
  where
    by : (o : Option ℕ) → option_map_or (λ user. 1) o 0 ≤ 1
    by None = omega arith
    by (Some user) = omega arith

-- what a watcher keeps behind an event that its machine took
pub follows-next : (m now : Machine) (e : Event) (cut cut' : List ℕ) (place : ℕ) → JoinsAdd → Follows m cut place → place < 2000000 → now ≡ whole (next m.conference e) →
    cut' ≡ cut_of now.conference → Follows now cut' (place + 1)
follows-next m now e cut cut' place adds kept few taken is_cut =
    let members : length now.conference.members ≡ length m.conference.members + joins e = ap (λ (x : Machine). length x.conference.members) taken ∙ adds m.conference e in
    record {
      whole = ap (λ (x : Machine). x.is_broken) taken;
      cut = is_cut;
      members = omega (arith, members, joins-few e, kept.members);
      place = omega arith;
    }

-- and at the beginning
pub follows-opening : (config : Configuration) (m : Machine) (cut : List ℕ) → m ≡ whole (opening config) → cut ≡ [] → Follows m cut 0
follows-opening config m cut is none =
    record {
      whole = ap (λ (x : Machine). x.is_broken) is;
      cut = none ∙ ap (λ (x : Machine). cut_of x.conference) (sym is);
      members = let none : length m.conference.members ≡ 0 = ap (λ (x : Machine). length x.conference.members) is in omega (arith, none);
      place = omega arith;
    }

memory-alone : (T : Type 0) (r : Refusal) → machine.IsRefusedBy {T = T} None (Err r) → Refused r ≡ Refused Memory
memory-alone T Broken h = absurd h
memory-alone T Ended h = absurd h
memory-alone T NoMember h = absurd h
memory-alone T NoUser h = absurd h
memory-alone T Full h = absurd h
memory-alone T NoRequest h = absurd h
memory-alone T Cut h = absurd h
memory-alone T BadCount h = absurd h
memory-alone T OutOfRange h = absurd h
memory-alone T DoubleUser h = absurd h
memory-alone T DoubleFloor h = absurd h
memory-alone T NoFloor h = absurd h
memory-alone T UnknownChair h = absurd h
memory-alone T Memory h = refl

-- a watcher refuses as its machine does, which gives what answers an event besides
pub refused-as : (T : Type 0) (w : Watcher) (m : Machine) (e : Event) (r : Refusal) → None ≡ closed w → m ≡ whole w.conference →
    machine.IsRefusedBy {T = T} (event_refusal m e) (Err r) → room.IsRefusedBy {T = Unit {0}} (refusal w e) (Err (Refused r))
refused-as T w m e r none is h =
    subst (λ (o : Option RoomRefusal). room.IsRefusedBy {T = Unit {0}} (room.first_of o (option_map Refused (event_refusal (whole w.conference) e))) (Err (Refused r))) none
    (by (event_refusal (whole w.conference) e) (subst (λ (x : Machine). machine.IsRefusedBy {T = T} (event_refusal x e) (Err r)) is h))
  where
    by : (o : Option Refusal) → machine.IsRefusedBy {T = T} o (Err r) → room.IsRefusedBy {T = Unit {0}} (option_map Refused o) (Err (Refused r))
    by None h = memory-alone T r h
    by (Some q) h = let is : r ≡ q = cc in ap (λ (x : Refusal). Err (Refused x)) is

-- a machine that isn't broken
pub whole-is : (m : Machine) → m.is_broken ≡ false → m ≡ whole m.conference
whole-is m h = ap (λ (b : Bool). record { conference = m.conference; is_broken = b }) h

-- the lines that are put are those that the event shows
pub lines-watched : (s t : Conference) (e : Event) (c p number user : ℕ) (changed : List Info) (before cut news : List ℕ) →
    c ≡ s.config.conference → number ≡ length s.members + 1 → user ≡ leaver s e → changed ≡ infos_changed s e → t ≡ next s e →
    news ≡ filter (λ n. not (list_any (λ k. k == n) before)) cut → before ≡ cut_of s → cut ≡ cut_of t →
    lines c p (said number user e ++ map request_text changed ++ map (cut_text t) news) ≡ watched p s e
lines-watched s t e c p number user changed before cut news is_c is_number is_user is_changed is_next is_news is_before is_cut =
    ap (λ (x : ℕ). lines x p (said number user e ++ map request_text changed ++ map (cut_text t) news)) is_c
    ∙ ap (λ (x : ℕ). lines s.config.conference p (said x user e ++ map request_text changed ++ map (cut_text t) news)) is_number
    ∙ ap (λ (x : ℕ). lines s.config.conference p (said (length s.members + 1) x e ++ map request_text changed ++ map (cut_text t) news)) is_user
    ∙ ap (λ (x : List Info). lines s.config.conference p (own_texts s e ++ map request_text x ++ map (cut_text t) news)) is_changed
    ∙ ap (λ (x : List ℕ). lines s.config.conference p (own_texts s e ++ map request_text (infos_changed s e) ++ map (cut_text t) x))
    (is_news ∙ ap (λ (x : List ℕ). filter (λ n. not (list_any (λ k. k == n) x)) cut) is_before ∙ ap (filter (λ n. not (list_any (λ k. k == n) (cut_of s)))) is_cut)
    ∙ ap (λ (x : Conference). lines s.config.conference p (own_texts s e ++ map request_text (infos_changed s e) ++ map (cut_text x) (filter (λ n. not (list_any (λ k. k == n) (cut_of s))) (cut_of x)))) is_next
