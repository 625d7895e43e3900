-- What a conference shows fits a message.
use Rattle.std.proofs.Common.{◌≡◌, ℕ, suc, ◌+◌, ◌*◌, ◌^◌, ◌<◌, ◌≤◌, false, List, [], ◌∷◌, ◌++◌, length, map, Option, Some, None, refl, sym, subst, arith}
use Rattle.std.specs.Prelude.{All, IfSome}
use Rattle.std.proofs.lemmas.List.{length-map}
use Rattle.floor_wire.specs.Attributes as wire
use Rattle.floor_wire.specs.Spelling.{format_of}
use Rattle.floor_wire.specs.declared.format.Format.TheVariants.{Grouped, OctetString}
use Rattle.floor_message.specs.Fits.{NumbersFit, TellFits}
use Rattle.floor_message.specs.Shown.{IsNamed, IsDescribed, IsShownInfo, IsShown}
use Rattle.floor_message.specs.Written.{optional, number, octets, status_attr, priority_attr, who_attr, floor_attr, overall_attrs, info_attrs, info_attr, tell_attrs}
use Rattle.floor_message.specs.declared.information.Info.{Info}
use Rattle.floor_message.specs.declared.tell.Tell.{Tell}
use Rattle.floor_message.specs.declared.tell.Tell.TheVariants.{FloorRequestStatus, UserStatus, FloorStatus, ChairActionAck, HelloAck, Error}
use Rattle.floor_message.specs.declared.information.Who.{Who}
use Rattle.floor_message.proofs.AskRooms.{Takes, takes_append, octets_take, group_takes, status_takes, overall_takes}
use Rattle.floor_message.proofs.Rooms.{length-one}

some_octets_take : (kind : ℕ) (bytes : List ℕ) (n : ℕ) → kind < 128 → format_of kind ≡ OctetString → n ≤ 253 → length bytes ≤ n → Takes (octets kind bytes ∷ []) (n + 5)
some_octets_take kind bytes n k f h l = ((k, f, omega arith, tt, tt), omega (arith, length-one kind false (wire.octets bytes)))

named_takes : (kind : ℕ) (o : Option Who) → kind < 128 → format_of kind ≡ Grouped → IfSome o IsNamed → Takes (optional (who_attr kind) o) 36
named_takes kind None k f h = (tt, omega arith)
named_takes kind (Some w) k f h =
    let P : Option (List ℕ) → Type 0 = λ o. Takes (optional (octets 13) o) 0 in
    group_takes kind w.user (optional (octets 12) w.name ++ optional (octets 13) w.uri) 32 k f h.user (omega arith)
    (takes_append (optional (octets 12) w.name) (optional (octets 13) w.uri) 32 0 (octets_take 12 w.name 30 (omega arith) refl (omega arith) refl h.name)
    (subst P (sym h.no_uri) (tt, omega arith)))

described_takes : (o : Option Who) → IfSome o IsDescribed → Takes (optional (who_attr 14) o) 100
described_takes None h = (tt, omega arith)
described_takes (Some w) h =
    group_takes 14 w.user (optional (octets 12) w.name ++ optional (octets 13) w.uri) 96 (omega arith) refl h.user (omega arith)
    (takes_append (optional (octets 12) w.name) (optional (octets 13) w.uri) 32 64 (octets_take 12 w.name 30 (omega arith) refl (omega arith) refl h.name)
    (octets_take 13 w.uri 62 (omega arith) refl (omega arith) refl h.uri))

floors_take : (fs : List (ℕ × Option (ℕ × ℕ))) → All (λ f. f.0 < 2 ^ 16) fs → Takes (map floor_attr fs) (8 * length fs)
floors_take [] h = (tt, omega arith)
floors_take (f ∷ fs) h =
    let own = group_takes 17 f.0 (optional status_attr f.1) 4 (omega arith) refl (h 0 f (omega arith)) (omega arith) (status_takes f.1) in
    let both = takes_append (floor_attr f ∷ []) (map floor_attr fs) 8 (8 * length fs) own (floors_take fs (λ k d l. h (suc k) d (omega arith))) in
    (both.0, omega (arith, both.1))

priority_takes : (p : Option ℕ) → Takes (optional priority_attr p) 4
priority_takes None = (tt, omega arith)
priority_takes (Some p) = ((omega arith, refl, omega arith, tt, tt), omega arith)

info_takes : (i : Info) → IsShownInfo i → Takes (info_attr i ∷ []) 248
info_takes i h =
    let a = overall_attrs i.request i.overall i.reason in
    let b = map floor_attr i.floors in
    let c = optional (who_attr 14) i.beneficiary in
    let d = optional (who_attr 16) i.requester in
    let e = optional priority_attr i.priority in
    let f = optional (octets 8) i.info in
    let n = 8 * length i.floors in
    let all = takes_append (a ++ b ++ c ++ d ++ e) f (40 + n + 36 + 36 + 4) 64
    (takes_append (a ++ b ++ c ++ d) e (40 + n + 36 + 36) 4
    (takes_append (a ++ b ++ c) d (40 + n + 36) 36
    (takes_append (a ++ b) c (40 + n) 36
    (takes_append a b 40 n (overall_takes i.request i.overall i.reason h.request h.reason) (floors_take i.floors h.floors))
    (named_takes 14 i.beneficiary (omega arith) refl h.beneficiary))
    (named_takes 16 i.requester (omega arith) refl h.requester))
    (priority_takes i.priority))
    (octets_take 8 i.info 62 (omega arith) refl (omega arith) refl h.text) in
    group_takes 15 i.request (info_attrs i) 244 (omega arith) refl h.request (omega arith) (all.0, omega (arith, all.1, h.few))

infos_take : (is : List Info) → All IsShownInfo is → Takes (map info_attr is) (248 * length is)
infos_take [] h = (tt, omega arith)
infos_take (i ∷ is) h =
    let both = takes_append (info_attr i ∷ []) (map info_attr is) 248 (248 * length is) (info_takes i (h 0 i (omega arith))) (infos_take is (λ k d l. h (suc k) d (omega arith))) in
    (both.0, omega (arith, both.1))

floor_takes : (f : Option ℕ) → IfSome f (λ n. n < 2 ^ 16) → Takes (optional (number 2) f) 4
floor_takes None h = (tt, omega arith)
floor_takes (Some n) h = ((omega arith, refl, omega arith, h, tt), omega arith)

tell_takes : (t : Tell) → IsShown t → Takes (tell_attrs t) 262140
tell_takes (FloorRequestStatus i) h = let p = info_takes i h in (p.0, omega (arith, p.1))
tell_takes (UserStatus who infos) h =
    let p = takes_append (optional (who_attr 14) who) (map info_attr infos) 100 (248 * length infos) (described_takes who h.0) (infos_take infos h.1.each) in
    (p.0, omega (arith, p.1, h.1.few))
tell_takes (FloorStatus floor infos) h =
    let p = takes_append (optional (number 2) floor) (map info_attr infos) 4 (248 * length infos) (floor_takes floor h.0) (infos_take infos h.1.each) in
    (p.0, omega (arith, p.1, h.1.few))
tell_takes ChairActionAck h = (tt, omega arith)
tell_takes (HelloAck primitives attributes) h =
    let types = map (λ k. 2 * k) attributes in
    let p = takes_append (octets 11 primitives ∷ []) (octets 10 types ∷ []) 258 258 (some_octets_take 11 primitives 253 (omega arith) refl (omega arith) h.0)
    (some_octets_take 10 types 253 (omega arith) refl (omega arith) (omega (arith, h.1, length-map attributes (λ k. 2 * k)))) in
    (p.0, omega (arith, p.1))
tell_takes (Error code details) h =
    let p = some_octets_take 6 (code ∷ details) 253 (omega arith) refl (omega arith) (omega (arith, h)) in (p.0, omega (arith, p.1))

numbers_fit : (t : Tell) → IsShown t → NumbersFit t
numbers_fit (FloorRequestStatus i) h = h.priority
numbers_fit (UserStatus who infos) h = λ k d l. (h.1.each k d l).priority
numbers_fit (FloorStatus floor infos) h = λ k d l. (h.1.each k d l).priority
numbers_fit ChairActionAck h = tt
numbers_fit (HelloAck primitives attributes) h = h.2
numbers_fit (Error code details) h = tt

pub shown_fits : (t : Tell) → IsShown t → TellFits t
shown_fits t h = let p = tell_takes t h in record { numbers = numbers_fit t h; attributes = record { writable = p.0; bytes = p.1 } }
