-- What is known of all conferences, what is to be asked, and what a line changes.
use Rattle.std.specs.Prelude.{ℕ, ◌==◌, ◌&&◌, not, Bool, true, false, if◌then◌else◌, List, [], ◌∷◌, ◌++◌, filter, find, map, Option, Some, None, Result, Ok, Err}
use Rattle.std.specs.List.{list_all, list_any}
use Rattle.floor_follow.specs.Conference as one
use Rattle.floor_follow.specs.declared.change.Change.{Change}
use Rattle.floor_follow.specs.declared.conference.Conference.{Conference}
use Rattle.floor_follow.specs.declared.conference.Stage.{Stage}
use Rattle.floor_follow.specs.declared.conference.Stage.TheVariants as At
use Rattle.floor_follow.specs.declared.fact.Fact.{Fact}
use Rattle.floor_follow.specs.declared.fault.FollowFault.{FollowFault}
use Rattle.floor_follow.specs.declared.fault.FollowFault.TheVariants.{Unasked}
use Rattle.floor_follow.specs.declared.question.Question.{Question}
use Rattle.floor_follow.specs.declared.question.Question.TheVariants.{List as Listing, Floors, Users, Members, Words, Watch}
use Rattle.floor_follow.specs.declared.told.Told.{Told}
use Rattle.floor_follow.specs.declared.told.Told.TheVariants.{Live, Row, Listed as IsListed, End, Done, Refused}
use Rattle.floor_follow.specs.declared.told.Listed.{Listed}

-- the conferences, the question that isn't answered yet, the lines of its answer, whether the list is to be asked for, and whether it was ever told
pub record Following : Type 0 where
  pub conferences : List Conference
  pub asked : Option Question
  pub rows : List Fact
  pub is_list_due : Bool
  pub has_list : Bool

abbrev pub nothing_known : Following
nothing_known = record { conferences = []; asked = None; rows = []; is_list_due = true; has_list = false }

abbrev pub is_number : ℕ → Conference → Bool
is_number number k = k.number == number

-- the list was told, and of each conference all that is asked first
abbrev pub is_whole : Following → Bool
is_whole f = f.has_list && list_all one.is_followed f.conferences

-- ---- what is asked

-- something is to be asked of a conference
abbrev pub is_due_at : Stage → Bool
is_due_at At.Floors = true
is_due_at At.Users = true
is_due_at At.Members = true
is_due_at At.Words = true
is_due_at At.Watch = true
is_due_at At.Followed = false
is_due_at At.Again = true

abbrev pub is_due : Conference → Bool
is_due k = is_due_at k.stage

-- what is to be asked of a conference: first its floors, whose answer says from which place on it is watched, so that what is
-- told of it later is told again by live lines and nothing is lost between
abbrev pub question_at : Stage → Conference → Option Question
question_at At.Floors k = Some (Floors k.number)
question_at At.Users k = Some (Users k.number)
question_at At.Members k = Some (Members k.number)
question_at At.Words k = Some (Words k.number)
question_at At.Watch k = Some (Watch k.number k.from)
question_at At.Followed k = None
question_at At.Again k = Some (Words k.number)

abbrev pub question_of : Conference → Option Question
question_of k = question_at k.stage k

abbrev pub question_where : Option Conference → Option Question
question_where None = None
question_where (Some k) = question_of k

-- the question of the first conference of which something is to be asked
abbrev pub first_question : List Conference → Option Question
first_question ks = question_where (find is_due ks)

-- what is to be asked next: nothing while an answer is awaited, and else the list before anything of a conference
abbrev pub question_behind : Option Question → Following → Option Question
question_behind (Some q) f = None
question_behind None f = if f.is_list_due then Some Listing else first_question f.conferences

abbrev pub question : Following → Option Question
question f = question_behind f.asked f

abbrev pub unlisted : Conference → Conference
unlisted k = record k { is_listed = false }

-- and it is asked: where it is the list none of the conferences is in it yet
abbrev pub asked_behind : Option Question → Following → Following
asked_behind (Some q) f = f
asked_behind None f =
    if f.is_list_due then record f { is_list_due = false; conferences = map unlisted f.conferences; asked = Some Listing }
    else record f { asked = first_question f.conferences }

abbrev pub with_asked : Following → Following
with_asked f = asked_behind f.asked f

-- the list and the words are to be asked for again
abbrev pub round_begun : Following → Following
round_begun f = record f { is_list_due = true; conferences = map one.due f.conferences }

-- ---- what is told

-- the first of them for which the test holds is changed
abbrev pub over_first : (Conference → Bool) → (Conference → Conference) → List Conference → List Conference
over_first p change [] = []
over_first p change (k ∷ ks) = if p k then change k ∷ ks else k ∷ over_first p change ks

-- a conference is listed: one that is known as it stands, and another is known from now on
abbrev pub listed_in : Listed → List Conference → List Conference
listed_in l ks =
    if list_any (is_number l.conference) ks then over_first (is_number l.conference) (one.listed l.phase l.events) ks
    else ks ++ one.listed_first l.conference l.phase l.events ∷ []

abbrev pub with_change : ℕ → Change → Following → Following
with_change c change f = record f { conferences = over_first (is_number c) (one.changed change) f.conferences }

abbrev pub with_row_at : Question → List Fact → Following → Result Following FollowFault
with_row_at Listing facts f = Err Unasked
with_row_at (Floors c) facts f = Ok (record f { rows = f.rows ++ facts })
with_row_at (Users c) facts f = Ok (record f { rows = f.rows ++ facts })
with_row_at (Members c) facts f = Ok (record f { rows = f.rows ++ facts })
with_row_at (Words c) facts f = Ok (record f { rows = f.rows ++ facts })
with_row_at (Watch c from) facts f = Err Unasked

abbrev pub with_row_behind : Option Question → List Fact → Following → Result Following FollowFault
with_row_behind None facts f = Err Unasked
with_row_behind (Some q) facts f = with_row_at q facts f

-- a line of an answer
abbrev pub with_row : List Fact → Following → Result Following FollowFault
with_row facts f = with_row_behind f.asked facts f

abbrev pub with_listed_behind : Option Question → Listed → Following → Result Following FollowFault
with_listed_behind (Some Listing) l f = Ok (record f { conferences = listed_in l f.conferences })
with_listed_behind (Some (Floors c)) l f = Err Unasked
with_listed_behind (Some (Users c)) l f = Err Unasked
with_listed_behind (Some (Members c)) l f = Err Unasked
with_listed_behind (Some (Words c)) l f = Err Unasked
with_listed_behind (Some (Watch c from)) l f = Err Unasked
with_listed_behind None l f = Err Unasked

-- a line of the list
abbrev pub with_listed : Listed → Following → Result Following FollowFault
with_listed l f = with_listed_behind f.asked l f

-- the rows that were told are the whole answer about a conference, and the question is answered
abbrev pub with_answer : ℕ → Option ℕ → Following → Following
with_answer c next f =
    record f { conferences = over_first (is_number c) (one.answered f.rows next) f.conferences; rows = []; asked = None }

-- the list was told: a conference that isn't in it was forgotten
abbrev pub with_list : Following → Following
with_list f = record f { conferences = filter (λ k. k.is_listed) f.conferences; has_list = true; asked = None }

abbrev pub with_end_behind : Option Question → Option ℕ → Following → Result Following FollowFault
with_end_behind None next f = Err Unasked
with_end_behind (Some Listing) next f = Ok (with_list f)
with_end_behind (Some (Floors c)) next f = Ok (with_answer c next f)
with_end_behind (Some (Users c)) next f = Ok (with_answer c next f)
with_end_behind (Some (Members c)) next f = Ok (with_answer c next f)
with_end_behind (Some (Words c)) next f = Ok (with_answer c next f)
with_end_behind (Some (Watch c from)) next f = Err Unasked

-- the end of an answer
abbrev pub with_end : Option ℕ → Following → Result Following FollowFault
with_end next f = with_end_behind f.asked next f

abbrev pub with_done_behind : Option Question → Following → Result Following FollowFault
with_done_behind (Some (Watch c from)) f = Ok (with_answer c None f)
with_done_behind (Some Listing) f = Err Unasked
with_done_behind (Some (Floors c)) f = Err Unasked
with_done_behind (Some (Users c)) f = Err Unasked
with_done_behind (Some (Members c)) f = Err Unasked
with_done_behind (Some (Words c)) f = Err Unasked
with_done_behind None f = Err Unasked

-- what was asked is done
abbrev pub with_done : Following → Result Following FollowFault
with_done f = with_done_behind f.asked f

-- a conference of which something isn't told is known no more, and known anew where it is listed again
abbrev pub without : ℕ → Following → Following
without c f = record f { conferences = filter (λ k. not (k.number == c)) f.conferences; rows = []; asked = None }

abbrev pub with_refusal_behind : Option Question → Following → Result Following FollowFault
with_refusal_behind None f = Err Unasked
with_refusal_behind (Some Listing) f = Err Unasked
with_refusal_behind (Some (Floors c)) f = Ok (without c f)
with_refusal_behind (Some (Users c)) f = Ok (without c f)
with_refusal_behind (Some (Members c)) f = Ok (without c f)
with_refusal_behind (Some (Words c)) f = Ok (without c f)
with_refusal_behind (Some (Watch c from)) f = Ok (without c f)

-- what was asked isn't done
abbrev pub with_refusal : Following → Result Following FollowFault
with_refusal f = with_refusal_behind f.asked f

-- what a line changes; a line of no answer of what was asked is refused
abbrev pub heard : Following → Told → Result Following FollowFault
heard f (Live c change) = Ok (with_change c change f)
heard f (Row facts) = with_row facts f
heard f (IsListed l) = with_listed l f
heard f (End next) = with_end next f
heard f Done = with_done f
heard f Refused = with_refusal f
