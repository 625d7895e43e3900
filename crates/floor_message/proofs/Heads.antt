-- What is written in front of a message is read back.
use Rattle.std.proofs.Common.{◌≡◌, ℕ, ◌^◌, ◌<◌, List, ◌++◌, drop, Some, refl, ◌∙◌, ap, arith}
use Rattle.floor_wire.specs.Header.{header_of, header_bytes}
use Rattle.floor_message.specs.Fits.{HeadFits}
use Rattle.floor_message.specs.Primitive.{primitive_of, primitive_number}
use Rattle.floor_message.specs.Tell.{head_of}
use Rattle.floor_message.specs.declared.head.Head.{Head}
use Rattle.floor_message.specs.declared.primitive.Primitive.{Primitive}
use Rattle.floor_message.specs.declared.primitive.Primitive.TheVariants.{FloorRequest, FloorRelease, FloorRequestQuery, FloorRequestStatus, UserQuery, UserStatus, FloorQuery, FloorStatus, ChairAction, ChairActionAck, Hello, HelloAck, Error}

pub primitive_back : (p : Primitive) → primitive_of (primitive_number p) ≡ Some p
primitive_back FloorRequest = refl
primitive_back FloorRelease = refl
primitive_back FloorRequestQuery = refl
primitive_back FloorRequestStatus = refl
primitive_back UserQuery = refl
primitive_back UserStatus = refl
primitive_back FloorQuery = refl
primitive_back FloorStatus = refl
primitive_back ChairAction = refl
primitive_back ChairActionAck = refl
primitive_back Hello = refl
primitive_back HelloAck = refl
primitive_back Error = refl

-- a head in front of a payload
abbrev pub headed : ℕ → ℕ → Head → List ℕ → List ℕ
headed p units head payload = header_bytes p units head.conference head.transaction head.user ++ payload

pub payload_back : (p units : ℕ) (head : Head) (payload : List ℕ) → drop 12 (headed p units head payload) ≡ payload
payload_back p units head payload = refl

pub conference_back : (p units : ℕ) (head : Head) (payload : List ℕ) → HeadFits head → (header_of (headed p units head payload)).conference ≡ head.conference
conference_back p units head payload h = let c : head.conference < 2 ^ 32 = h.conference in omega arith

pub transaction_back : (p units : ℕ) (head : Head) (payload : List ℕ) → HeadFits head → (header_of (headed p units head payload)).transaction ≡ head.transaction
transaction_back p units head payload h = let c : head.transaction < 2 ^ 16 = h.transaction in omega arith

pub user_back : (p units : ℕ) (head : Head) (payload : List ℕ) → HeadFits head → (header_of (headed p units head payload)).user ≡ head.user
user_back p units head payload h = let c : head.user < 2 ^ 16 = h.user in omega arith

pub head_back : (p units : ℕ) (head : Head) (payload : List ℕ) → HeadFits head → head_of (header_of (headed p units head payload)) ≡ head
head_back p units head payload h =
    let m = header_of (headed p units head payload) in
    let made = λ (c t u : ℕ). let x : Head = record { conference = c; transaction = t; user = u } in x in
    ap (λ c. made c m.transaction m.user) (conference_back p units head payload h)
    ∙ ap (λ t. made head.conference t m.user) (transaction_back p units head payload h)
    ∙ ap (λ u. made head.conference head.transaction u) (user_back p units head payload h)
