-- The messages of bytes that come in pieces, and the record of the seat that submits them.
use Rattle.std.proofs.Common.{◌≡◌, ℕ, suc, ◌+◌, ◌<◌, ◌≤◌, List, [], ◌∷◌, ◌++◌, length, take, drop, Option, refl, sym, ap, subst, ◌∙◌, append_assoc, append-nil, length-append, arith, Bool, true, false}
use Rattle.std.specs.List.{concat}
use Rattle.std.specs.Prelude.{Result, Ok, Err, IfErr}
use Rattle.std.specs.Result.{IsErrAnd}
use Rattle.std.specs.Io.KnownBytes.{Consumes, IsAtEnd, Keeps}
use Rattle.std.proofs.KnownBytes.{Consumes-nil, Consumes-trans, Consumes-kept}
use Rattle.std.proofs.lemmas.List.{map-append}
use Rattle.floor_wire.specs.Message.{messages, messages_of_at_most, rest}
use Rattle.floor_wire.proofs.Messages.{messages-append, rest-append}
use Rattle.floor_machine.specs.declared.machine.Refusal.{Refusal}
use Rattle.floor_room.specs.declared.refusal.RoomRefusal.{RoomRefusal}
use Rattle.floor_room.specs.declared.refusal.RoomRefusal.TheVariants.{JournalFull, Refused}
use Rattle.floor_serve.specs.declared.fault.ReadFault.{ReadFault}
use Rattle.floor_serve.specs.declared.reading.ReadEnd.{ReadEnd}
use Rattle.floor_serve.specs.declared.seat.Sent.{Sent}
use Rattle.floor_serve.specs.Read.{Began, Ended, Gained, IsEnd, Missed, Refuses, bytes_of, fault_of}
use Rattle.floor_serve.specs.Seat.{Seat}

pub gained-none : (s : Seat) → Gained s s []
gained-none s = record { sent = []; next = ap (λ (l : List Sent). record s { sent = l }) (sym (append-nil s.sent)); are = refl }

pub gained-both : (a b c : Seat) (xs ys : List (List ℕ)) → Gained a b xs → Gained b c ys → Gained a c (xs ++ ys)
gained-both a b c xs ys h k =
    record {
      sent = h.sent ++ k.sent;
      next = k.next
          ∙ ap (λ (s : Seat). record s { sent = s.sent ++ k.sent }) h.next
          ∙ ap (λ (l : List Sent). record a { sent = l }) (append_assoc a.sent h.sent k.sent);
      are = map-append (λ (s : Sent). s.bytes) h.sent k.sent ∙ ap (λ (l : List (List ℕ)). l ++ bytes_of k.sent) h.are ∙ ap (λ (l : List (List ℕ)). xs ++ l) k.are;
    }

gained-same : (a b : Seat) (xs ys : List (List ℕ)) → xs ≡ ys → Gained a b xs → Gained a b ys
gained-same a b xs ys e h = record { sent = h.sent; next = h.next; are = h.are ∙ e }

began-behind : (a b c : Seat) (all xs ys : List (List ℕ)) → all ≡ xs ++ ys → Gained a b xs → Began b c ys → Began a c all
began-behind a b c all xs ys e h k =
    record {
      gained = xs ++ k.gained;
      left = k.left;
      parts = e ∙ ap (λ (l : List (List ℕ)). xs ++ l) k.parts ∙ sym (append_assoc xs k.gained k.left);
      record_is = gained-both a b c xs k.gained h k.record_is;
    }

-- nothing more was recorded
pub began-none : (s t : Seat) (all : List (List ℕ)) → t ≡ s → Began s t all
began-none s t all e =
    record { gained = []; left = all; parts = refl; record_is = subst (λ (x : Seat). Gained s x []) (sym e) (gained-none s) }

drop-behind : (xs ys : List ℕ) (k : ℕ) → drop (length xs + k) (xs ++ ys) ≡ drop k ys
drop-behind [] ys k = ap (λ (i : ℕ). drop i ys) (omega arith)
drop-behind (x ∷ xs) ys k = ap (λ (i : ℕ). drop i (x ∷ (xs ++ ys))) (more (length xs) k) ∙ drop-behind xs ys k
  where
    more : (a b : ℕ) → suc a + b ≡ suc (a + b)
    more a b = omega arith

-- what follows the messages doesn't change when the first is taken off
rest-behind : (held frame left : List ℕ) → messages held ≡ frame ∷ messages left → held ≡ frame ++ left → rest held ≡ rest left
unfolding rest
rest-behind held frame left e f =
    ap (λ (ms : List (List ℕ)). drop (length (concat ms)) held) e
    ∙ ap (λ (s : List ℕ). drop (length (frame ++ concat (messages left))) s) f
    ∙ ap (λ (k : ℕ). drop k (frame ++ left)) (length-append frame (concat (messages left)))
    ∙ drop-behind frame left (length (concat (messages left)))

-- bytes that hold no message are their own rest
rest-alone : (held : List ℕ) → messages held ≡ [] → rest held ≡ held
unfolding rest
rest-alone held e = ap (λ (ms : List (List ℕ)). drop (length (concat ms)) held) e

-- Of the messages that were held some were submitted, and the others are held.
pub record IsServed (old new : Seat) (held left : List ℕ) : Type 0 where
  pub gained : List (List ℕ)
  pub record_is : Gained old new gained
  pub parts : messages held ≡ gained ++ messages left
  pub rest_is : rest held ≡ rest left

pub served-none : (s : Seat) (held : List ℕ) → IsServed s s held held
served-none s held = record { gained = []; record_is = gained-none s; parts = refl; rest_is = refl }

pub served-more : (old mid new : Seat) (held before left frame : List ℕ) (place : ℕ) → IsServed old mid held before → messages before ≡ frame ∷ messages left → before ≡ frame ++ left →
    new ≡ record mid { sent = mid.sent ++ record { place = place; bytes = frame } ∷ [] } → IsServed old new held left
served-more old mid new held before left frame place h e f is =
    record {
      gained = h.gained ++ frame ∷ [];
      record_is = gained-both old mid new h.gained (frame ∷ []) h.record_is (record { sent = record { place = place; bytes = frame } ∷ []; next = is; are = refl });
      parts = h.parts ∙ ap (λ (l : List (List ℕ)). h.gained ++ l) e ∙ sym (append_assoc h.gained (frame ∷ []) (messages left));
      rest_is = h.rest_is ∙ rest-behind before frame left e f;
    }

pub served-all : (old new : Seat) (held left : List ℕ) → IsServed old new held left → messages left ≡ [] → Gained old new (messages held)
served-all old new held left h none =
    gained-same old new h.gained (messages held) (sym (h.parts ∙ ap (λ (l : List (List ℕ)). h.gained ++ l) none ∙ append-nil h.gained)) h.record_is

pub served-rest : (old new : Seat) (held left now : List ℕ) → IsServed old new held left → messages left ≡ [] → now ≡ left → now ≡ rest held
served-rest old new held left now h none same = same ∙ sym (rest-alone left none) ∙ sym h.rest_is

-- a message was refused, or memory to take it up
missed-began : (old new : Seat) (all : List (List ℕ)) → Missed old new all → Began old new all
missed-began old new all h = record { gained = h.gained; left = h.missed ∷ h.left; parts = h.parts; record_is = h.record_is }

refuses-missed : (refusal : RoomRefusal) (old new : Seat) (all : List (List ℕ)) → Missed old new all → Refuses refusal old new all
refuses-missed JournalFull old new all h = h
refuses-missed (Refused Refusal.Broken) old new all h = h
refuses-missed (Refused Refusal.Ended) old new all h = h
refuses-missed (Refused Refusal.NoMember) old new all h = h
refuses-missed (Refused Refusal.NoUser) old new all h = h
refuses-missed (Refused Refusal.Full) old new all h = h
refuses-missed (Refused Refusal.NoRequest) old new all h = h
refuses-missed (Refused Refusal.Cut) old new all h = h
refuses-missed (Refused Refusal.BadCount) old new all h = h
refuses-missed (Refused Refusal.OutOfRange) old new all h = h
refuses-missed (Refused Refusal.DoubleUser) old new all h = h
refuses-missed (Refused Refusal.DoubleFloor) old new all h = h
refuses-missed (Refused Refusal.NoFloor) old new all h = h
refuses-missed (Refused Refusal.UnknownChair) old new all h = h
refuses-missed (Refused Refusal.Memory) old new all h = missed-began old new all h

err-is : {A : Type 0} (P : RoomRefusal → Type 0) (result : Result A RoomRefusal) (e : RoomRefusal) → IsErrAnd result (λ x. x ≡ e) → P e → IfErr result P
err-is P (Ok x) e h p = absurd h
err-is P (Err x) e h p = subst P (sym h) p

pub served-refused : {A : Type 0} (result : Result A RoomRefusal) (e : RoomRefusal) (old mid new : Seat) (held before left frame : List ℕ) → IsErrAnd result (λ x. x ≡ e) → IsServed old mid held before →
    messages before ≡ frame ∷ messages left → new ≡ mid → IfErr result (λ r. Refuses r old new (messages held))
served-refused result e old mid new held before left frame is h next same =
    err-is (λ r. Refuses r old new (messages held)) result e is
    (refuses-missed e old new (messages held)
    (record {
      gained = h.gained;
      missed = frame;
      left = messages left;
      parts = h.parts ∙ ap (λ (l : List (List ℕ)). h.gained ++ l) next;
      record_is = subst (λ (s : Seat). Gained old s h.gained) (sym same) h.record_is;
    }))

pub served-stopped : {A : Type 0} (result : Result A RoomRefusal) (old mid new : Seat) (held left : List ℕ) → IsErrAnd result (λ x. x ≡ Refused Refusal.Memory) → IsServed old mid held left → new ≡ mid →
    IfErr result (λ r. Refuses r old new (messages held))
served-stopped result old mid new held left is h same =
    err-is (λ r. Refuses r old new (messages held)) result (Refused Refusal.Memory) is
    (record { gained = h.gained; left = messages left; parts = h.parts; record_is = subst (λ (s : Seat). Gained old s h.gained) (sym same) h.record_is })

-- All messages of the bytes that were read, at least so many, are recorded, and the framer holds what follows them.
pub record IsRead (many : ℕ) (old new : Seat) (was is : Option (List ℕ)) (held : List ℕ) : Type 0 where
  pub read : List ℕ
  pub consumed : Consumes was is read
  pub gained : Gained old new (messages read)
  pub held_is : held ≡ rest read
  pub enough : many ≤ length read

pub read-none : (s : Seat) (was : Option (List ℕ)) (held : List ℕ) → held ≡ [] → IsRead 0 s s was was held
unfolding messages messages_of_at_most rest
read-none s was held none = record { read = []; consumed = Consumes-nil was; gained = gained-none s; held_is = none; enough = omega arith }

pub read-more : (many next : ℕ) (old mid new : Seat) (a b c : Option (List ℕ)) (held piece pushed left : List ℕ) → IsRead many old mid a b held → Consumes b c piece → pushed ≡ held ++ piece →
    Gained mid new (messages pushed) → left ≡ rest pushed → 0 < length piece → next ≡ many + 1 → IsRead next old new a c left
read-more many next old mid new a b c held piece pushed left h more e g l some one =
    let same : pushed ≡ rest h.read ++ piece = e ∙ ap (λ (s : List ℕ). s ++ piece) h.held_is in
    record {
      read = h.read ++ piece;
      consumed = Consumes-trans a b c h.read piece h.consumed more;
      gained = gained-same old new (messages h.read ++ messages pushed) (messages (h.read ++ piece))
          (ap (λ (s : List ℕ). messages h.read ++ messages s) same ∙ sym (messages-append h.read piece))
          (gained-both old mid new (messages h.read) (messages pushed) h.gained g);
      held_is = l ∙ ap rest same ∙ sym (rest-append h.read piece);
      enough = omega (arith, h.enough, some, one, length-append h.read piece);
    }

missed-behind : (a b c : Seat) (all xs ys : List (List ℕ)) → all ≡ xs ++ ys → Gained a b xs → Missed b c ys → Missed a c all
missed-behind a b c all xs ys e h k =
    record {
      gained = xs ++ k.gained;
      missed = k.missed;
      left = k.left;
      parts = e ∙ ap (λ (l : List (List ℕ)). xs ++ l) k.parts ∙ sym (append_assoc xs k.gained (k.missed ∷ k.left));
      record_is = gained-both a b c xs k.gained h k.record_is;
    }

-- a message of a piece was refused
pub read-refused : (limit many : ℕ) (old mid new : Seat) (a b c : Option (List ℕ)) (held piece pushed : List ℕ) (refusal : RoomRefusal) (marked : Bool) → IsRead many old mid a b held → Consumes b c piece → pushed ≡ held ++ piece →
    Refuses refusal mid new (messages pushed) → marked ≡ false → Ended limit (Err (fault_of refusal)) old new a c marked
read-refused limit many old mid new a b c held piece pushed refusal marked h more e g unmarked =
    let same : pushed ≡ rest h.read ++ piece = e ∙ ap (λ (s : List ℕ). s ++ piece) h.held_is in
    let all : messages (h.read ++ piece) ≡ messages h.read ++ messages pushed = messages-append h.read piece ∙ sym (ap (λ (s : List ℕ). messages h.read ++ messages s) same) in
    record {
      read = h.read ++ piece;
      consumed = Consumes-trans a b c h.read piece h.consumed more;
      after = by refusal g (λ k. missed-behind old mid new (messages (h.read ++ piece)) (messages h.read) (messages pushed) all h.gained k)
          (λ k. began-behind old mid new (messages (h.read ++ piece)) (messages h.read) (messages pushed) all h.gained k);
    }
  where
    by : (r : RoomRefusal) → Refuses r mid new (messages pushed) → (Missed mid new (messages pushed) → Missed old new (messages (h.read ++ piece))) → (Began mid new (messages pushed) → Began old new (messages (h.read ++ piece))) →
        IsEnd limit (Err (fault_of r)) old new c marked (h.read ++ piece)
    by JournalFull k m n = (m k, refl, unmarked)
    by (Refused Refusal.Broken) k m n = (m k, refl, unmarked)
    by (Refused Refusal.Ended) k m n = (m k, refl, unmarked)
    by (Refused Refusal.NoMember) k m n = (m k, refl, unmarked)
    by (Refused Refusal.NoUser) k m n = (m k, refl, unmarked)
    by (Refused Refusal.Full) k m n = (m k, refl, unmarked)
    by (Refused Refusal.NoRequest) k m n = (m k, refl, unmarked)
    by (Refused Refusal.Cut) k m n = (m k, refl, unmarked)
    by (Refused Refusal.BadCount) k m n = (m k, refl, unmarked)
    by (Refused Refusal.OutOfRange) k m n = (m k, refl, unmarked)
    by (Refused Refusal.DoubleUser) k m n = (m k, refl, unmarked)
    by (Refused Refusal.DoubleFloor) k m n = (m k, refl, unmarked)
    by (Refused Refusal.NoFloor) k m n = (m k, refl, unmarked)
    by (Refused Refusal.UnknownChair) k m n = (m k, refl, unmarked)
    by (Refused Refusal.Memory) k m n = (n k, unmarked)

-- a piece finds no memory
pub read-unpushed : (limit many : ℕ) (old mid : Seat) (a b c : Option (List ℕ)) (held piece : List ℕ) (marked : Bool) → IsRead many old mid a b held → Consumes b c piece → marked ≡ false → Ended limit (Err ReadFault.Memory) old mid a c marked
read-unpushed limit many old mid a b c held piece marked h more unmarked =
    record {
      read = h.read ++ piece;
      consumed = Consumes-trans a b c h.read piece h.consumed more;
      after = (
        record { gained = messages h.read; left = messages (rest h.read ++ piece); parts = messages-append h.read piece; record_is = h.gained },
        unmarked,
      );
    }

pub read-failed : (limit many : ℕ) (old mid : Seat) (a b c : Option (List ℕ)) (held : List ℕ) (marked : Bool) → IsRead many old mid a b held → Keeps b c → marked ≡ true → Ended limit (Err ReadFault.Read) old mid a c marked
read-failed limit many old mid a b c held marked h kept e = record { read = h.read; consumed = Consumes-kept a b c h.read h.consumed kept; after = (h.gained, e) }

pub read-limit : (limit many : ℕ) (old mid : Seat) (a b : Option (List ℕ)) (held : List ℕ) (marked : Bool) → IsRead many old mid a b held → limit ≤ many → marked ≡ false → Ended limit (Err ReadFault.TurnLimit) old mid a b marked
read-limit limit many old mid a b held marked h met unmarked = record { read = h.read; consumed = h.consumed; after = (h.gained, omega (arith, met, h.enough), unmarked) }

at-end : (a b c : Option (List ℕ)) (read piece : List ℕ) (k : ℕ) → Consumes a b read → Consumes b c (take k piece) → k ≡ 0 → Consumes a c read
at-end a b c read piece k h more none =
    subst (λ (l : List ℕ). Consumes a c l) (append-nil read)
    (Consumes-trans a b c read [] h (subst (λ (n : ℕ). Consumes b c (take n piece)) none more))

pub read-closed : (limit many : ℕ) (old mid : Seat) (a b c : Option (List ℕ)) (held piece : List ℕ) (k left : ℕ) (marked : Bool) → IsRead many old mid a b held → Consumes b c (take k piece) → k ≡ 0 → left ≡ length held → left ≡ 0 →
    IsAtEnd c → marked ≡ false → Ended limit (Ok ReadEnd.Closed) old mid a c marked
read-closed limit many old mid a b c held piece k left marked h more none e z ended unmarked =
    record { read = h.read; consumed = at-end a b c h.read piece k h.consumed more none; after = (h.gained, sym h.held_is ∙ empty held (sym e ∙ z), ended, unmarked) }
  where
    empty : (s : List ℕ) → length s ≡ 0 → s ≡ []
    empty [] n = refl
    empty (x ∷ s) n = absurd (omega arith)

pub read-cut : (limit many : ℕ) (old mid : Seat) (a b c : Option (List ℕ)) (held piece : List ℕ) (k left : ℕ) (marked : Bool) → IsRead many old mid a b held → Consumes b c (take k piece) → k ≡ 0 → left ≡ length held → 0 < left →
    IsAtEnd c → marked ≡ false → Ended limit (Ok (ReadEnd.Cut left)) old mid a c marked
read-cut limit many old mid a b c held piece k left marked h more none e z ended unmarked =
    record { read = h.read; consumed = at-end a b c h.read piece k h.consumed more none; after = (h.gained, e ∙ ap length h.held_is, z, ended, unmarked) }
