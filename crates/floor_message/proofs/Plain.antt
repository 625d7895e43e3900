-- Attributes with M clear are read as they were written.
use Rattle.std.proofs.Common.{◌≡◌, ℕ, Bool, true, false, cond, List, [], ◌∷◌, ◌++◌, map, Option, Some, None, refl, sym, ◌∙◌, ap}
use Rattle.floor_wire.specs.Attributes.{Content, num, pair, group, octets, Attributes, no_attributes, attribute}
use Rattle.floor_wire.specs.Spelling.{is_known, cleared, content_cleared}
use Rattle.floor_wire.specs.View.{attributes_of}
use Rattle.floor_wire.specs.declared.attribute.Attr.{Attr}
use Rattle.floor_message.specs.Picked.{mandatory, mandatory_inside, own_mandatory}
use Rattle.floor_message.specs.Written as spec
use Rattle.floor_message.specs.Written.{optional, tell_attrs, ask_attrs, verdict_attr, info_attrs, info_attr, who_attr, floor_attr, overall_inside, overall_attrs, priority_attr, status_attr, number}
use Rattle.floor_message.specs.declared.ask.Ask.{Ask}
use Rattle.floor_message.specs.declared.ask.Ask.TheVariants as ask
use Rattle.floor_message.specs.declared.tell.Tell.{Tell}
use Rattle.floor_message.specs.declared.tell.Tell.TheVariants.{FloorRequestStatus, UserStatus, FloorStatus, ChairActionAck, HelloAck, Error}
use Rattle.floor_message.specs.declared.information.Who.{Who}
use Rattle.floor_message.specs.declared.information.Info.{Info}

-- M is clear everywhere
abbrev mutual
  pub PlainInside : Content → Type 0
  PlainInside (num n) = Unit {0}
  PlainInside (pair a b) = Unit {0}
  PlainInside (group n inside) = Plain inside
  PlainInside (octets os) = Unit {0}

  pub Plain : Attributes → Type 0
  Plain no_attributes = Unit {0}
  Plain (attribute kind must content rest) = (must ≡ false) × PlainInside content × Plain rest

both_false : (b m : Bool) → m ≡ false → cond b false m ≡ m
both_false true m e = sym e
both_false false m e = refl

mutual
  inside_same : (c : Content) → PlainInside c → content_cleared c ≡ c
  inside_same (num n) p = refl
  inside_same (pair a b) p = refl
  inside_same (group n i) p = ap (group n) (cleared_same i p)
  inside_same (octets os) p = refl

  pub cleared_same : (a : Attributes) → Plain a → cleared a ≡ a
  cleared_same no_attributes p = refl
  cleared_same (attribute k m c rest) p =
      ap (λ x. attribute k x (content_cleared c) (cleared rest)) (both_false (is_known k) m p.0)
      ∙ ap (λ x. attribute k m x (cleared rest)) (inside_same c p.1)
      ∙ ap (λ x. attribute k m c x) (cleared_same rest p.2)

mutual
  inside_none : (c : Content) → PlainInside c → mandatory_inside c ≡ []
  inside_none (num n) p = refl
  inside_none (pair a b) p = refl
  inside_none (group n i) p = mandatory_none i p
  inside_none (octets os) p = refl

  pub mandatory_none : (a : Attributes) → Plain a → mandatory a ≡ []
  mandatory_none no_attributes p = refl
  mandatory_none (attribute k m c rest) p =
      ap (λ x. own_mandatory k x ++ mandatory_inside c ++ mandatory rest) p.0
      ∙ ap (λ x. x ++ mandatory rest) (inside_none c p.1) ∙ mandatory_none rest p.2

plain_append : (xs ys : List Attr) → Plain (attributes_of xs) → Plain (attributes_of ys) → Plain (attributes_of (xs ++ ys))
plain_append [] ys p q = q
plain_append (x ∷ xs) ys p q = (p.0, p.1, plain_append xs ys p.2 q)

plain_optional : {A : Type 0} (g : A → Attr) → ((a : A) → Plain (attributes_of (g a ∷ []))) → (o : Option A) → Plain (attributes_of (optional g o))
plain_optional g h None = tt
plain_optional g h (Some a) = h a

plain_map : {A : Type 0} (g : A → Attr) → ((a : A) → Plain (attributes_of (g a ∷ []))) → (xs : List A) → Plain (attributes_of (map g xs))
plain_map g h [] = tt
plain_map g h (x ∷ xs) = ((h x).0, (h x).1, plain_map g h xs)

plain_who : (kind : ℕ) (w : Who) → Plain (attributes_of (who_attr kind w ∷ []))
plain_who kind w = (
  refl,
  plain_append (optional (spec.octets 12) w.name) (optional (spec.octets 13) w.uri)
      (plain_optional (spec.octets 12) (λ a. (refl, tt, tt)) w.name) (plain_optional (spec.octets 13) (λ a. (refl, tt, tt)) w.uri),
  tt,
)

plain_inside : (status : Option (ℕ × ℕ)) (reason : Option (List ℕ)) → Plain (attributes_of (overall_inside status reason))
plain_inside status reason =
    plain_append (optional status_attr status) (optional (spec.octets 9) reason) (plain_optional status_attr (λ a. (refl, tt, tt)) status) (plain_optional (spec.octets 9) (λ a. (refl, tt, tt)) reason)

plain_overall : (request : ℕ) (status : Option (ℕ × ℕ)) (reason : Option (List ℕ)) → Plain (attributes_of (overall_attrs request status reason))
plain_overall request None None = tt
plain_overall request None (Some reason) = (refl, plain_inside None (Some reason), tt)
plain_overall request (Some status) reason = (refl, plain_inside (Some status) reason, tt)

plain_info : (i : Info) → Plain (attributes_of (info_attr i ∷ []))
plain_info i = (
  refl,
  plain_append _ (optional (spec.octets 8) i.info) (plain_append _ (optional priority_attr i.priority) (plain_append _ (optional (who_attr 16) i.requester)
      (plain_append _ (optional (who_attr 14) i.beneficiary) (plain_append (overall_attrs i.request i.overall i.reason) (map floor_attr i.floors)
      (plain_overall i.request i.overall i.reason)
      (plain_map floor_attr (λ f. (refl, plain_optional status_attr (λ a. (refl, tt, tt)) f.1, tt)) i.floors))
      (plain_optional (who_attr 14) (λ w. plain_who 14 w) i.beneficiary))
      (plain_optional (who_attr 16) (λ w. plain_who 16 w) i.requester))
      (plain_optional priority_attr (λ a. (refl, tt, tt)) i.priority))
      (plain_optional (spec.octets 8) (λ a. (refl, tt, tt)) i.info),
  tt,
)

pub plain_tell : (tell : Tell) → Plain (attributes_of (tell_attrs tell))
plain_tell (FloorRequestStatus i) = plain_info i
plain_tell (UserStatus who infos) = plain_append (optional (who_attr 14) who) (map info_attr infos) (plain_optional (who_attr 14) (λ w. plain_who 14 w) who) (plain_map info_attr (λ i. plain_info i) infos)
plain_tell (FloorStatus floor infos) = plain_append (optional (number 2) floor) (map info_attr infos) (plain_optional (number 2) (λ a. (refl, tt, tt)) floor) (plain_map info_attr (λ i. plain_info i) infos)
plain_tell ChairActionAck = tt
plain_tell (HelloAck p a) = (refl, tt, (refl, tt, tt))
plain_tell (Error code details) = (refl, tt, tt)

pub plain_ask : (a : Ask) → Plain (attributes_of (ask_attrs a))
plain_ask (ask.FloorRequest b floors p info) =
    plain_append (map (number 2) floors ++ optional (number 1) b ++ optional (spec.octets 8) info) (priority_attr p ∷ [])
    (plain_append (map (number 2) floors ++ optional (number 1) b) (optional (spec.octets 8) info)
    (plain_append (map (number 2) floors) (optional (number 1) b) (plain_map (number 2) (λ f. (refl, tt, tt)) floors) (plain_optional (number 1) (λ n. (refl, tt, tt)) b))
    (plain_optional (spec.octets 8) (λ n. (refl, tt, tt)) info))
    (refl, tt, tt)
plain_ask (ask.FloorRelease r) = (refl, tt, tt)
plain_ask (ask.FloorRequestQuery r) = (refl, tt, tt)
plain_ask (ask.UserQuery b) = plain_optional (number 1) (λ n. (refl, tt, tt)) b
plain_ask (ask.FloorQuery floors) = plain_map (number 2) (λ f. (refl, tt, tt)) floors
plain_ask (ask.ChairAction r vs reason) =
    (refl, plain_append (overall_attrs r None reason) (map verdict_attr vs) (plain_overall r None reason) (plain_map verdict_attr (λ v. (refl, (refl, tt, tt), tt)) vs), tt)
plain_ask ask.Hello = tt
