-- How a message that is said for a user is read: as one of a connection where its primitive is said, and as one that is barred where it isn't.
use Rattle.std.proofs.Common.{◌≡◌, ℕ, Bool, true, false, cond, List, [], Option, Some, None, refl, sym, ◌∙◌}
use Rattle.std.specs.Prelude.{◌==◌, ◌*◌, drop, is_some, map, not}
use Rattle.std.specs.List.{list_any}
use Rattle.floor_wire.specs.Attributes.{Attributes}
use Rattle.floor_wire.specs.Header.{CommonHeader, header_of}
use Rattle.floor_wire.specs.Spelled.{spelled}
use Rattle.floor_message.specs.Ask.{Answer, ask, asks, asks_if_any, has_any, is_error, is_served, refused, unanswered, unknown_types, wanted}
use Rattle.floor_message.specs.Binding.{Binding}
use Rattle.floor_message.specs.Primitive.{primitive_of}
use Rattle.floor_message.specs.declared.ask.Ask.{Ask}
use Rattle.floor_message.specs.declared.code.ErrorCode.TheVariants.{ConferenceDoesNotExist, UnableToParseMessage, UnauthorizedOperation, UnknownMandatoryAttribute, UnknownPrimitive, UnsupportedVersion, UserDoesNotExist}
use Rattle.floor_message.specs.declared.primitive.Primitive.{Primitive}
use Rattle.floor_message.specs.declared.primitive.Primitive.TheVariants as primitive
use Rattle.floor_machine.specs.Said.{answer_said, said, sayable}
use Rattle.floor_machine.specs.steps.Deciding.{barred, heard, is_of_header}

-- what the checks behind those of the header answer is barred
tail-barred : (e s u m w : Bool) (types : List ℕ) (o : Option Ask) →
    barred (cond e unanswered (cond s (refused UnknownPrimitive []) (cond u (refused UnableToParseMessage []) (cond m (refused UnknownMandatoryAttribute types) (cond w (refused UnableToParseMessage []) (asks_if_any o))))))
    ≡ refused UnknownPrimitive []
tail-barred true s u m w types o = refl
tail-barred false true u m w types o = refl
tail-barred false false true m w types o = refl
tail-barred false false false true w types o = refl
tail-barred false false false false true types o = refl
tail-barred false false false false false types None = refl
tail-barred false false false false false types (Some a) = refl

-- what the checks of the header answer stays
header-barred : (a b d f : Bool) (x : Answer) → barred x ≡ refused UnknownPrimitive [] →
    cond a (refused UnsupportedVersion []) (cond b (refused ConferenceDoesNotExist []) (cond d (refused UserDoesNotExist []) (cond f (refused UnauthorizedOperation []) (refused UnknownPrimitive []))))
    ≡ barred (cond a (refused UnsupportedVersion []) (cond b (refused ConferenceDoesNotExist []) (cond d (refused UserDoesNotExist []) (cond f (refused UnauthorizedOperation []) x))))
header-barred true b d f x is = refl
header-barred false true d f x is = refl
header-barred false false true f x is = refl
header-barred false false false true x is = refl
header-barred false false false false x is = sym is

unsaid : (h : CommonHeader) (b : Binding) (p : Option Primitive) (attrs : Option Attributes) → answer_said h b None attrs ≡ barred (answer_said h b p attrs)
unsaid h b p attrs =
    header-barred (not (h.version == 1)) (not (h.conference == b.conference)) (not (list_any (λ u. u == h.user) b.users)) (not (h.user == b.user)) _
    (tail-barred (is_error p) (not (is_served p)) (not (is_some attrs)) (has_any (unknown_types attrs)) (not (is_some (wanted p attrs)))
    (map (λ k. 2 * k) (unknown_types attrs)) (wanted p attrs))

answer-barred : (h : CommonHeader) (b : Binding) (p : Option Primitive) (attrs : Option Attributes) → is_some (sayable p) ≡ false → answer_said h b (sayable p) attrs ≡ barred (answer_said h b p attrs)
answer-barred h b None attrs is = unsaid h b None attrs
answer-barred h b (Some primitive.FloorRequest) attrs is = cc
answer-barred h b (Some primitive.FloorRelease) attrs is = cc
answer-barred h b (Some primitive.FloorRequestQuery) attrs is = unsaid h b (Some primitive.FloorRequestQuery) attrs
answer-barred h b (Some primitive.FloorRequestStatus) attrs is = unsaid h b (Some primitive.FloorRequestStatus) attrs
answer-barred h b (Some primitive.UserQuery) attrs is = unsaid h b (Some primitive.UserQuery) attrs
answer-barred h b (Some primitive.UserStatus) attrs is = unsaid h b (Some primitive.UserStatus) attrs
answer-barred h b (Some primitive.FloorQuery) attrs is = unsaid h b (Some primitive.FloorQuery) attrs
answer-barred h b (Some primitive.FloorStatus) attrs is = unsaid h b (Some primitive.FloorStatus) attrs
answer-barred h b (Some primitive.ChairAction) attrs is = cc
answer-barred h b (Some primitive.ChairActionAck) attrs is = unsaid h b (Some primitive.ChairActionAck) attrs
answer-barred h b (Some primitive.Hello) attrs is = unsaid h b (Some primitive.Hello) attrs
answer-barred h b (Some primitive.HelloAck) attrs is = unsaid h b (Some primitive.HelloAck) attrs
answer-barred h b (Some primitive.Error) attrs is = unsaid h b (Some primitive.Error) attrs

answer-same : (h : CommonHeader) (b : Binding) (p : Option Primitive) (attrs : Option Attributes) → is_some (sayable p) ≡ true → answer_said h b (sayable p) attrs ≡ answer_said h b p attrs
answer-same h b None attrs is = cc
answer-same h b (Some primitive.FloorRequest) attrs is = refl
answer-same h b (Some primitive.FloorRelease) attrs is = refl
answer-same h b (Some primitive.FloorRequestQuery) attrs is = cc
answer-same h b (Some primitive.FloorRequestStatus) attrs is = cc
answer-same h b (Some primitive.UserQuery) attrs is = cc
answer-same h b (Some primitive.UserStatus) attrs is = cc
answer-same h b (Some primitive.FloorQuery) attrs is = cc
answer-same h b (Some primitive.FloorStatus) attrs is = cc
answer-same h b (Some primitive.ChairAction) attrs is = refl
answer-same h b (Some primitive.ChairActionAck) attrs is = cc
answer-same h b (Some primitive.Hello) attrs is = cc
answer-same h b (Some primitive.HelloAck) attrs is = cc
answer-same h b (Some primitive.Error) attrs is = cc

-- a message whose primitive is said is read as one of a connection
pub said-same : (bytes : List ℕ) (b : Binding) → is_some (sayable (primitive_of (header_of bytes).primitive)) ≡ true → said bytes b ≡ ask bytes b
unfolding said ask
said-same bytes b is = answer-same (header_of bytes) b (primitive_of (header_of bytes).primitive) (spelled (drop 12 bytes)) is

-- and any other is barred
pub said-barred : (bytes : List ℕ) (b : Binding) → is_some (sayable (primitive_of (header_of bytes).primitive)) ≡ false → said bytes b ≡ barred (ask bytes b)
unfolding said ask
said-barred bytes b is = answer-barred (header_of bytes) b (primitive_of (header_of bytes).primitive) (spelled (drop 12 bytes)) is

-- what is barred asks nothing
barred-asks : (x : Answer) (a : Ask) → barred x ≡ asks a → ⊥
barred-asks unanswered a h = cc
barred-asks (asks b) a h = cc
barred-asks (refused code details) a h = by (is_of_header code) h
  where
    by : (k : Bool) → cond k (refused code []) (refused UnknownPrimitive []) ≡ asks a → ⊥
    by true h = cc
    by false h = cc

-- what is said is asked by the same message of a connection
pub said-asks : (bytes : List ℕ) (b : Binding) (a : Ask) → said bytes b ≡ asks a → ask bytes b ≡ asks a
said-asks bytes b a h = by (is_some (sayable (primitive_of (header_of bytes).primitive))) refl
  where
    by : (k : Bool) → is_some (sayable (primitive_of (header_of bytes).primitive)) ≡ k → ask bytes b ≡ asks a
    by true is = sym (said-same bytes b is) ∙ h
    by false is = absurd (barred-asks (ask bytes b) a (sym (said-barred bytes b is) ∙ h))

-- however it is heard
pub heard-asks : (n : Option ℕ) (bytes : List ℕ) (b : Binding) (a : Ask) → heard n bytes b ≡ asks a → ask bytes b ≡ asks a
heard-asks None bytes b a h = said-asks bytes b a h
heard-asks (Some n) bytes b a h = h
