-- Attributes and their bytes, worked out by hand and computed.
use Rattle.std.specs.Prelude.{◌≡◌, true, false, [], ◌∷◌, Some, None, refl}
use Rattle.std.proofs.Common.{arith}
use Rattle.floor_wire.specs.Attributes.{num, pair, group, octets, no_attributes, attribute}
use Rattle.floor_wire.specs.Spelling.{canon, Spells}
use Rattle.floor_wire.specs.Fault.{HasFault, itself, inside}
use Rattle.floor_wire.specs.Spelled.{spelled, spelled_within}
use Rattle.floor_wire.specs.declared.fault.Cause.TheVariants.{BadLength, Overrun}

pub floor_1 : canon (attribute 2 false (num 1) no_attributes) ≡ 4 ∷ 4 ∷ 0 ∷ 1 ∷ []
floor_1 = refl

-- a request's information, with its overall status
pub granted : canon (attribute 15 true (group 1 (attribute 18 false (group 1 (attribute 5 false (pair 3 0) no_attributes)) no_attributes)) no_attributes)
    ≡ 30 ∷ 12 ∷ 0 ∷ 1 ∷ 36 ∷ 8 ∷ 0 ∷ 1 ∷ 10 ∷ 4 ∷ 3 ∷ 0 ∷ []
granted = refl

pub name_ann : canon (attribute 12 false (octets (65 ∷ 110 ∷ 110 ∷ [])) no_attributes) ≡ 24 ∷ 5 ∷ 65 ∷ 110 ∷ 110 ∷ 0 ∷ 0 ∷ 0 ∷ []
name_ann = refl

pub floor_1_spelled : Spells (attribute 2 false (num 1) no_attributes) (4 ∷ 4 ∷ 0 ∷ 1 ∷ [])
floor_1_spelled = (
  refl,
  record {
    contents = 0 ∷ 1 ∷ [];
    padding = [];
    after = [];
    whole = refl;
    kind_fits = omega arith;
    length_fits = omega arith;
    short = omega arith;
    aligned = refl;
    body = (refl, refl);
    others = refl;
  },
)

pub short_length : HasFault (16 ∷ 1 ∷ 0 ∷ 0 ∷ []) 0 BadLength
short_length = itself {front = []} {attrs = no_attributes} (record { whole = refl; spelled = refl; more = omega arith }) refl refl

pub too_long_inside : HasFault (30 ∷ 8 ∷ 0 ∷ 1 ∷ 16 ∷ 6 ∷ 0 ∷ 0 ∷ []) 4 Overrun
too_long_inside = inside {front = []} {attrs = no_attributes} {within = 0} (record { whole = refl; spelled = refl; more = omega arith }) refl refl
    (itself {front = []} {attrs = no_attributes} (record { whole = refl; spelled = refl; more = omega arith }) refl refl) refl

-- a floor, and a request with its status
pub two_attributes : spelled (4 ∷ 4 ∷ 0 ∷ 1 ∷ 30 ∷ 8 ∷ 0 ∷ 1 ∷ 10 ∷ 4 ∷ 3 ∷ 0 ∷ [])
    ≡ Some (attribute 2 false (num 1) (attribute 15 false (group 1 (attribute 5 false (pair 3 0) no_attributes)) no_attributes))
unfolding spelled spelled_within
two_attributes = refl

-- octets that pass the end of their group
pub overrun : spelled (30 ∷ 8 ∷ 0 ∷ 1 ∷ 16 ∷ 6 ∷ 0 ∷ 0 ∷ []) ≡ None
unfolding spelled spelled_within
overrun = refl
