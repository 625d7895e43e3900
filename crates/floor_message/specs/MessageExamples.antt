-- Messages and what they ask and tell, worked out by hand and computed.
use Rattle.std.specs.Prelude.{◌≡◌, ℕ, List, [], ◌∷◌, Some, None, refl}
use Rattle.floor_wire.specs.Spelled.{spelled, spelled_within}
use Rattle.floor_message.specs.Ask.{ask, asks, refused, unanswered}
use Rattle.floor_message.specs.Binding.{Binding}
use Rattle.floor_message.specs.Tell.{tell}
use Rattle.floor_message.specs.Written.{ask_bytes, tell_bytes}
use Rattle.floor_message.specs.declared.head.Head.{Head}
use Rattle.floor_message.specs.declared.code.ErrorCode.TheVariants.{ConferenceDoesNotExist, UserDoesNotExist, UnknownPrimitive, UnknownMandatoryAttribute, UnauthorizedOperation, UnableToParseMessage, UnsupportedVersion}
use Rattle.floor_message.specs.declared.verdicts.Verdict.TheVariants.{Granted, Denied}
use Rattle.floor_message.specs.declared.ask.Ask.TheVariants.{FloorRequest, ChairAction, Hello}
use Rattle.floor_message.specs.declared.tell.Tell.{Tell}
use Rattle.floor_message.specs.declared.tell.Tell.TheVariants.{FloorRequestStatus}

-- user 10 of conference 1, with users 10, 11 and 12
abbrev pub ann : Binding
ann = record { conference = 1; user = 10; users = 10 ∷ 11 ∷ 12 ∷ [] }

abbrev pub second : Head
second = record { conference = 1; transaction = 2; user = 10 }

pub hello : ask (0x20 ∷ 0x0b ∷ 0 ∷ 0 ∷ 0 ∷ 0 ∷ 0 ∷ 1 ∷ 0 ∷ 1 ∷ 0 ∷ 0x0a ∷ []) ann ≡ asks Hello
unfolding ask spelled spelled_within
hello = refl

pub other_version : ask (0x40 ∷ 0x0b ∷ 0 ∷ 0 ∷ 0 ∷ 0 ∷ 0 ∷ 1 ∷ 0 ∷ 1 ∷ 0 ∷ 0x0a ∷ []) ann ≡ refused UnsupportedVersion []
unfolding ask spelled spelled_within
other_version = refl

pub another_conference : ask (0x20 ∷ 0x0b ∷ 0 ∷ 0 ∷ 0 ∷ 0 ∷ 0 ∷ 2 ∷ 0 ∷ 5 ∷ 0 ∷ 0x0a ∷ []) ann ≡ refused ConferenceDoesNotExist []
unfolding ask spelled spelled_within
another_conference = refl

pub no_user : ask (0x20 ∷ 0x0b ∷ 0 ∷ 0 ∷ 0 ∷ 0 ∷ 0 ∷ 1 ∷ 0 ∷ 1 ∷ 0 ∷ 0x63 ∷ []) ann ≡ refused UserDoesNotExist []
unfolding ask spelled spelled_within
no_user = refl

pub another_user : ask (0x20 ∷ 0x0b ∷ 0 ∷ 0 ∷ 0 ∷ 0 ∷ 0 ∷ 1 ∷ 0 ∷ 1 ∷ 0 ∷ 0x0b ∷ []) ann ≡ refused UnauthorizedOperation []
unfolding ask spelled spelled_within
another_user = refl

pub goodbye : ask (0x20 ∷ 0x10 ∷ 0 ∷ 0 ∷ 0 ∷ 0 ∷ 0 ∷ 1 ∷ 0 ∷ 2 ∷ 0 ∷ 0x0a ∷ []) ann ≡ refused UnknownPrimitive []
unfolding ask spelled spelled_within
goodbye = refl

pub error_left : ask (0x20 ∷ 0x0d ∷ 0 ∷ 1 ∷ 0 ∷ 0 ∷ 0 ∷ 1 ∷ 0 ∷ 3 ∷ 0 ∷ 0x0a ∷ 0x0c ∷ 3 ∷ 1 ∷ 0 ∷ []) ann ≡ unanswered
unfolding ask spelled spelled_within
error_left = refl

pub bad_length : ask (0x20 ∷ 0x0b ∷ 0 ∷ 1 ∷ 0 ∷ 0 ∷ 0 ∷ 1 ∷ 0 ∷ 1 ∷ 0 ∷ 0x0a ∷ 4 ∷ 1 ∷ 0 ∷ 1 ∷ []) ann ≡ refused UnableToParseMessage []
unfolding ask spelled spelled_within
bad_length = refl

pub unknown_twice : ask (0x20 ∷ 0x0b ∷ 0 ∷ 3 ∷ 0 ∷ 0 ∷ 0 ∷ 1 ∷ 0 ∷ 1 ∷ 0 ∷ 0x0a ∷ 0x29 ∷ 4 ∷ 0 ∷ 0 ∷ 0x29 ∷ 4 ∷ 0 ∷ 0 ∷ 1 ∷ 4 ∷ 0 ∷ 0 ∷ []) ann
    ≡ refused UnknownMandatoryAttribute (0x28 ∷ 0 ∷ [])
unfolding ask spelled spelled_within
unknown_twice = refl

-- floor 1 twice, with priority 7
pub floor_asked : ask (0x20 ∷ 1 ∷ 0 ∷ 3 ∷ 0 ∷ 0 ∷ 0 ∷ 1 ∷ 0 ∷ 3 ∷ 0 ∷ 0x0a ∷ 4 ∷ 4 ∷ 0 ∷ 1 ∷ 4 ∷ 4 ∷ 0 ∷ 1 ∷ 8 ∷ 4 ∷ 0xe0 ∷ 0 ∷ []) ann
    ≡ asks (FloorRequest None (1 ∷ []) 4 None)
unfolding ask spelled spelled_within
floor_asked = refl

pub no_floor : ask (0x20 ∷ 1 ∷ 0 ∷ 0 ∷ 0 ∷ 0 ∷ 0 ∷ 1 ∷ 0 ∷ 3 ∷ 0 ∷ 0x0a ∷ []) ann ≡ refused UnableToParseMessage []
unfolding ask spelled spelled_within
no_floor = refl

-- the verdict in the overall status alone
pub chair_overall : ask (0x20 ∷ 9 ∷ 0 ∷ 4 ∷ 0 ∷ 0 ∷ 0 ∷ 1 ∷ 0 ∷ 2 ∷ 0 ∷ 0x0a ∷ 0x1e ∷ 0x10 ∷ 0 ∷ 1 ∷ 0x24 ∷ 8 ∷ 0 ∷ 1 ∷ 0x0a ∷ 4 ∷ 3 ∷ 0 ∷ 0x22 ∷ 4 ∷ 0 ∷ 4 ∷ []) ann
    ≡ asks (ChairAction 1 ((4, Granted) ∷ []) None)
unfolding ask spelled spelled_within
chair_overall = refl

pub ask_written : ask_bytes second (FloorRequest None (1 ∷ []) 2 None) ≡ 0x20 ∷ 1 ∷ 0 ∷ 2 ∷ 0 ∷ 0 ∷ 0 ∷ 1 ∷ 0 ∷ 2 ∷ 0 ∷ 0x0a ∷ 4 ∷ 4 ∷ 0 ∷ 1 ∷ 8 ∷ 4 ∷ 0x40 ∷ 0 ∷ []
ask_written = refl

-- request 1 of user 10 is granted floor 1
abbrev pub granted : Tell
granted = FloorRequestStatus (record {
  request = 1;
  overall = Some (3, 0);
  reason = None;
  floors = (1, Some (3, 0)) ∷ [];
  beneficiary = Some (record { user = 10; name = None; uri = None });
  requester = None;
  priority = Some 2;
  info = None;
})

abbrev pub granted_bytes : List ℕ
granted_bytes = 0x20 ∷ 4 ∷ 0 ∷ 7 ∷ 0 ∷ 0 ∷ 0 ∷ 1 ∷ 0 ∷ 2 ∷ 0 ∷ 0x0a ∷ 0x1e ∷ 0x1c ∷ 0 ∷ 1 ∷ 0x24 ∷ 8 ∷ 0 ∷ 1 ∷ 0x0a ∷ 4 ∷ 3 ∷ 0
    ∷ 0x22 ∷ 8 ∷ 0 ∷ 1 ∷ 0x0a ∷ 4 ∷ 3 ∷ 0 ∷ 0x1c ∷ 4 ∷ 0 ∷ 0x0a ∷ 8 ∷ 4 ∷ 0x40 ∷ 0 ∷ []

pub granted_written : tell_bytes second granted ≡ granted_bytes
granted_written = refl

pub granted_read : tell granted_bytes ≡ Some (second, granted)
unfolding tell spelled spelled_within
granted_read = refl

-- the chair 12 says No
abbrev pub chair : Head
chair = record { conference = 1; transaction = 1; user = 12 }

pub denial_written : ask_bytes chair (ChairAction 1 ((4, Denied) ∷ []) (Some (0x4e ∷ 0x6f ∷ [])))
    ≡ 0x20 ∷ 9 ∷ 0 ∷ 5 ∷ 0 ∷ 0 ∷ 0 ∷ 1 ∷ 0 ∷ 1 ∷ 0 ∷ 0x0c ∷ 0x1e ∷ 0x14 ∷ 0 ∷ 1 ∷ 0x24 ∷ 8 ∷ 0 ∷ 1 ∷ 0x12 ∷ 4 ∷ 0x4e ∷ 0x6f
    ∷ 0x22 ∷ 8 ∷ 0 ∷ 4 ∷ 0x0a ∷ 4 ∷ 4 ∷ 0 ∷ []
denial_written = refl

-- request 1 of user 10, for floor 4, is denied with that reason
abbrev pub denied : Tell
denied = FloorRequestStatus (record {
  request = 1;
  overall = Some (4, 0);
  reason = Some (0x4e ∷ 0x6f ∷ []);
  floors = (4, Some (4, 0)) ∷ [];
  beneficiary = Some (record { user = 10; name = None; uri = None });
  requester = None;
  priority = Some 2;
  info = None;
})

abbrev pub denied_bytes : List ℕ
denied_bytes = 0x20 ∷ 4 ∷ 0 ∷ 8 ∷ 0 ∷ 0 ∷ 0 ∷ 1 ∷ 0 ∷ 2 ∷ 0 ∷ 0x0a ∷ 0x1e ∷ 0x20 ∷ 0 ∷ 1 ∷ 0x24 ∷ 0x0c ∷ 0 ∷ 1 ∷ 0x0a ∷ 4 ∷ 4 ∷ 0 ∷ 0x12 ∷ 4 ∷ 0x4e ∷ 0x6f
    ∷ 0x22 ∷ 8 ∷ 0 ∷ 4 ∷ 0x0a ∷ 4 ∷ 4 ∷ 0 ∷ 0x1c ∷ 4 ∷ 0 ∷ 0x0a ∷ 8 ∷ 4 ∷ 0x40 ∷ 0 ∷ []

pub denied_written : tell_bytes second denied ≡ denied_bytes
denied_written = refl

pub denied_read : tell denied_bytes ≡ Some (second, denied)
unfolding tell spelled spelled_within
denied_read = refl

-- request 1 has that reason, and nothing else is shown
abbrev pub reason_alone : Tell
reason_alone = FloorRequestStatus (record {
  request = 1;
  overall = None;
  reason = Some (0x4e ∷ 0x6f ∷ []);
  floors = [];
  beneficiary = None;
  requester = None;
  priority = None;
  info = None;
})

abbrev pub reason_alone_bytes : List ℕ
reason_alone_bytes = 0x20 ∷ 4 ∷ 0 ∷ 3 ∷ 0 ∷ 0 ∷ 0 ∷ 1 ∷ 0 ∷ 2 ∷ 0 ∷ 0x0a ∷ 0x1e ∷ 0x0c ∷ 0 ∷ 1 ∷ 0x24 ∷ 8 ∷ 0 ∷ 1 ∷ 0x12 ∷ 4 ∷ 0x4e ∷ 0x6f ∷ []

pub reason_alone_written : tell_bytes second reason_alone ≡ reason_alone_bytes
reason_alone_written = refl

pub reason_alone_read : tell reason_alone_bytes ≡ Some (second, reason_alone)
unfolding tell spelled spelled_within
reason_alone_read = refl

pub error_without_code : tell (0x20 ∷ 0x0d ∷ 0 ∷ 1 ∷ 0 ∷ 0 ∷ 0 ∷ 1 ∷ 0 ∷ 3 ∷ 0 ∷ 0x0a ∷ 0x0c ∷ 2 ∷ 0 ∷ 0 ∷ []) ≡ None
unfolding tell spelled spelled_within
error_without_code = refl
