-- What is written of an Ask that fits, fits a message.
use Rattle.std.proofs.Common.{◌≡◌, ℕ, suc, ◌+◌, ◌*◌, ◌%◌, ◌^◌, ◌<◌, ◌≤◌, false, List, [], ◌∷◌, ◌++◌, length, map, get_or, Option, Some, None, refl, arith, length-append}
use Rattle.std.specs.Prelude.{All, IfSome}
use Rattle.std.specs.Int.{w16, to_be_bytes}
use Rattle.floor_wire.specs.Attributes as wire
use Rattle.floor_wire.specs.Spelling.{canon, format_of, IsWritable}
use Rattle.floor_wire.specs.View.{attributes_of}
use Rattle.floor_wire.specs.declared.attribute.Attr.{Attr}
use Rattle.floor_wire.specs.declared.format.Format.TheVariants.{Grouped, OctetString}
use Rattle.floor_message.specs.Fits.{AskFits, TextFits, FloorsFit, FloorRequestFits, ChairActionFits}
use Rattle.floor_message.specs.Room.{FitsRoom}
use Rattle.floor_message.specs.Written.{optional, number, octets, group, priority_attr, status_attr, overall_inside, overall_attrs, verdict_attr, ask_attrs}
use Rattle.floor_message.specs.declared.verdicts.Verdict.{Verdict}
use Rattle.floor_message.specs.declared.verdicts.Verdict.TheVariants.{Accepted}
use Rattle.floor_message.specs.declared.ask.Ask.{Ask}
use Rattle.floor_message.specs.declared.ask.Ask.TheVariants.{FloorRequest, FloorRelease, FloorRequestQuery, UserQuery, FloorQuery, ChairAction, Hello}
use Rattle.floor_message.proofs.Rooms.{length-one, length-group, length-canon-append, writable_append}

-- attributes that can be written, in so many bytes
abbrev pub Takes : List Attr → ℕ → Type 0
Takes attrs bytes = IsWritable (attributes_of attrs) × (length (canon (attributes_of attrs)) ≤ bytes)

pub takes_append : (xs ys : List Attr) (m n : ℕ) → Takes xs m → Takes ys n → Takes (xs ++ ys) (m + n)
takes_append xs ys m n p q = (writable_append xs ys p.0 q.0, omega (arith, p.1, q.1, length-canon-append xs ys))

floors_take : (floors : List ℕ) → All (λ f. f < 2 ^ 16) floors → Takes (map (number 2) floors) (4 * length floors)
floors_take [] h = (tt, omega arith)
floors_take (f ∷ floors) h =
    let rest = floors_take floors (λ k d l. h (suc k) d (omega arith)) in
    ((omega arith, refl, omega arith, h 0 f (omega arith), rest.0), omega (arith, rest.1, length-append (canon (attributes_of (number 2 f ∷ []))) (canon (attributes_of (map (number 2) floors)))))

beneficiary_takes : (b : Option ℕ) → IfSome b (λ n. n < 2 ^ 16) → Takes (optional (number 1) b) 4
beneficiary_takes None h = (tt, omega arith)
beneficiary_takes (Some n) h = ((omega arith, refl, omega arith, h, tt), omega arith)

-- octets of at most n bytes, where these and the head fill the last 4 bytes
pub octets_take : (kind : ℕ) (o : Option (List ℕ)) (n : ℕ) → kind < 128 → format_of kind ≡ OctetString → n ≤ 253 → n % 4 ≡ 2 → IfSome o (λ t. length t ≤ n) → Takes (optional (octets kind) o) (n + 2)
octets_take kind None n k f h m l = (tt, omega arith)
octets_take kind (Some bytes) n k f h m l = ((k, f, omega (arith, l, h), tt, tt), omega (arith, l, m, length-one kind false (wire.octets bytes)))

text_is_short : (most : ℕ) (text : Option (List ℕ)) → IfSome text (TextFits most) → IfSome text (λ t. length t ≤ most)
text_is_short most None h = tt
text_is_short most (Some text) h = h.short

pub group_takes : (kind n : ℕ) (inside : List Attr) (m : ℕ) → kind < 128 → format_of kind ≡ Grouped → n < 2 ^ 16 → m ≤ 251 → Takes inside m → Takes (group kind n inside ∷ []) (4 + m)
group_takes kind n inside m k f h l p =
    ((k, f, omega (arith, p.1, length-append (to_be_bytes w16 n) (canon (attributes_of inside))), (h, p.0), tt), omega (arith, p.1, length-group kind n inside))

pub status_takes : (s : Option (ℕ × ℕ)) → Takes (optional status_attr s) 4
status_takes None = (tt, omega arith)
status_takes (Some s) = ((omega arith, refl, omega arith, tt, tt), omega arith)

overall_group_takes : (request : ℕ) (status : Option (ℕ × ℕ)) (reason : Option (List ℕ)) → request < 2 ^ 16 → IfSome reason (λ r. length r ≤ 30)
    → Takes (group 18 request (overall_inside status reason) ∷ []) 40
overall_group_takes request status reason h r =
    group_takes 18 request (overall_inside status reason) 36 (omega arith) refl h (omega arith)
    (takes_append (optional status_attr status) (optional (octets 9) reason) 4 32 (status_takes status) (octets_take 9 reason 30 (omega arith) refl (omega arith) refl r))

pub overall_takes : (request : ℕ) (status : Option (ℕ × ℕ)) (reason : Option (List ℕ)) → request < 2 ^ 16 → IfSome reason (λ r. length r ≤ 30)
    → Takes (overall_attrs request status reason) 40
overall_takes request None None h r = (tt, omega arith)
overall_takes request None (Some reason) h r = overall_group_takes request None (Some reason) h r
overall_takes request (Some status) reason h r = overall_group_takes request (Some status) reason h r

pub floor_request_fits : (b : Option ℕ) (floors : List ℕ) (priority : ℕ) (info : Option (List ℕ)) → FloorRequestFits floors priority info → IfSome b (λ n. n < 2 ^ 16)
    → All (λ f. f < 2 ^ 16) floors → FitsRoom (ask_attrs (FloorRequest b floors priority info)) 262140
floor_request_fits b floors priority info fits h range =
    let written = takes_append (map (number 2) floors ++ optional (number 1) b ++ optional (octets 8) info) (priority_attr priority ∷ []) (4 * length floors + 4 + 64) 4
    (takes_append (map (number 2) floors ++ optional (number 1) b) (optional (octets 8) info) (4 * length floors + 4) 64
    (takes_append (map (number 2) floors) (optional (number 1) b) (4 * length floors) 4 (floors_take floors range) (beneficiary_takes b h)) (octets_take 8 info 62 (omega arith) refl (omega arith) refl (text_is_short 62 info fits.text)))
    ((omega arith, refl, omega arith, tt, tt), omega arith) in
    record { writable = written.0; bytes = omega (arith, written.1, fits.floors_fit.few) }

pub floor_query_fits : (floors : List ℕ) → FloorsFit floors → All (λ f. f < 2 ^ 16) floors → FitsRoom (ask_attrs (FloorQuery floors)) 262140
floor_query_fits floors fits range = let written = floors_take floors range in record { writable = written.0; bytes = omega (arith, written.1, fits.few) }

verdicts_take : (verdicts : List (ℕ × Verdict)) → ((k : ℕ) → k < length verdicts → (get_or verdicts k (0, Accepted)).0 < 2 ^ 16) → Takes (map verdict_attr verdicts) (8 * length verdicts)
verdicts_take [] h = (tt, omega arith)
verdicts_take (v ∷ verdicts) h =
    let rest = verdicts_take verdicts (λ k l. h (suc k) (omega arith)) in (
      (omega arith, refl, omega arith, (h 0 (omega arith), (omega arith, refl, omega arith, tt, tt)), rest.0),
      omega (arith, rest.1, length-append (canon (attributes_of (verdict_attr v ∷ []))) (canon (attributes_of (map verdict_attr verdicts)))),
    )

inside_takes : (request : ℕ) (verdicts : List (ℕ × Verdict)) (reason : Option (List ℕ)) → ChairActionFits verdicts reason → request < 2 ^ 16
    → ((k : ℕ) → k < length verdicts → (get_or verdicts k (0, Accepted)).0 < 2 ^ 16) → Takes (overall_attrs request None reason ++ map verdict_attr verdicts) 248
inside_takes request verdicts None fits h range = let p = verdicts_take verdicts range in (p.0, omega (arith, p.1, fits.verdicts_fit.few))
inside_takes request verdicts (Some reason) fits h range =
    let p = takes_append (overall_attrs request None (Some reason)) (map verdict_attr verdicts) 40 (8 * length verdicts) (overall_takes request None (Some reason) h fits.text.short) (verdicts_take verdicts range) in
    (p.0, omega (arith, p.1, fits.verdicts_fit.few))

pub chair_action_fits : (request : ℕ) (verdicts : List (ℕ × Verdict)) (reason : Option (List ℕ)) → ChairActionFits verdicts reason → request < 2 ^ 16
    → ((k : ℕ) → k < length verdicts → (get_or verdicts k (0, Accepted)).0 < 2 ^ 16) → FitsRoom (ask_attrs (ChairAction request verdicts reason)) 262140
chair_action_fits request verdicts reason fits h range =
    let p = group_takes 15 request (overall_attrs request None reason ++ map verdict_attr verdicts) 248 (omega arith) refl h (omega arith) (inside_takes request verdicts reason fits h range) in
    record { writable = p.0; bytes = omega (arith, p.1) }

pub ask_fits_room : (a : Ask) → AskFits a → FitsRoom (ask_attrs a) 262140
ask_fits_room (FloorRequest b floors priority info) h = floor_request_fits b floors priority info h.parts h.numbers.0 h.numbers.1
ask_fits_room (FloorRelease r) h = record { writable = (omega arith, refl, omega arith, h.numbers, tt); bytes = omega arith }
ask_fits_room (FloorRequestQuery r) h = record { writable = (omega arith, refl, omega arith, h.numbers, tt); bytes = omega arith }
ask_fits_room (UserQuery b) h = let written = beneficiary_takes b h.numbers in record { writable = written.0; bytes = omega (arith, written.1) }
ask_fits_room (FloorQuery floors) h = floor_query_fits floors h.parts h.numbers
ask_fits_room (ChairAction r verdicts reason) h = chair_action_fits r verdicts reason h.parts h.numbers.0 (λ k l. h.numbers.1 k (0, Accepted) l)
ask_fits_room Hello h = record { writable = tt; bytes = omega arith }
