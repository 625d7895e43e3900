-- What is known of a conference, and what facts are about.
use Rattle.std.specs.Prelude.{ℕ, ◌==◌, not, Bool, true, false, if◌then◌else◌, List, ◌++◌, filter, map, Option}
use Rattle.floor_config.specs.declared.floors.Floor.{Floor as TheFloor}
use Rattle.floor_follow.specs.declared.fact.Fact.{Fact}
use Rattle.floor_follow.specs.declared.fact.Fact.TheVariants.{User, Floor, Request, Reason, Member, Word}
use Rattle.floor_follow.specs.declared.change.Subject.{Subject}
use Rattle.floor_follow.specs.declared.change.Subject.TheVariants as Of

-- a fact is about a subject: about all users, or the user with an id, and so on
abbrev pub is_about : Subject → Fact → Bool
is_about Of.Users (User p) = true
is_about (Of.User id) (User p) = p.id == id
is_about Of.Floors (Floor f) = true
is_about (Of.Floor id) (Floor f) = f.id == id
is_about Of.Floors (Request r) = true
is_about Of.Live (Request r) = true
is_about (Of.Request number) (Request r) = r.request == number
is_about Of.Floors (Reason r) = true
is_about Of.Live (Reason r) = true
is_about (Of.Request number) (Reason r) = r.request == number
is_about Of.Members (Member m) = true
is_about Of.Live (Member m) = true
is_about (Of.Member n) (Member m) = m.n == n
is_about Of.Words (Word w) = true
is_about _ _ = false

-- of a subject hold these facts, and no others; what is about anything else stays
abbrev pub replaced : Subject → List Fact → List Fact → List Fact
replaced subject facts known = filter (λ fact. not (is_about subject fact)) known ++ facts

-- a floor with another chair, or none
abbrev pub chaired_floor : Option ℕ → TheFloor → TheFloor
chaired_floor chair floor = record floor { chair = chair }

-- a fact, where the floor with this id has this chair, or none
abbrev pub with_chair : ℕ → Option ℕ → Fact → Fact
with_chair id chair (Floor floor) = if floor.id == id then Floor (chaired_floor chair floor) else Floor floor
with_chair id chair (User p) = User p
with_chair id chair (Request r) = Request r
with_chair id chair (Reason r) = Reason r
with_chair id chair (Member m) = Member m
with_chair id chair (Word w) = Word w

abbrev pub chaired : ℕ → Option ℕ → List Fact → List Fact
chaired id chair known = map (with_chair id chair) known
