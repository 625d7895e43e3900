-- Who is let into a meeting, by what is known of its conference: words beside it say whom a chair has shown out, and whether anybody new is let in.
use Rattle.std.specs.Prelude.{ℕ, ◌==◌, ◌^◌, ◌&&◌, not, Bool, true, false, List, bytes_eq, codes, Option, Some, None, if◌then◌else◌}
use Rattle.std.specs.List.{after_first, before_first, list_any}
use Rattle.floor_words.specs.Words.{number}
use Rattle.floor_follow.specs.declared.fact.Fact.{Fact}
use Rattle.floor_follow.specs.declared.fact.Fact.TheVariants.{User, Floor, Request, Reason, Member, Word}
use Rattle.floor_web.specs.declared.admission.Admission.{Admission}
use Rattle.floor_web.specs.declared.admission.Admission.TheVariants.{Admitted, ShownOut, Locked}
use Rattle.floor_web.specs.Participants.{is_strong}

abbrev pub is_dot : ℕ → Bool
is_dot b = b == 46

-- it is this number
abbrev pub is_some_of : ℕ → Option ℕ → Bool
is_some_of n None = false
is_some_of n (Some m) = m == n

-- the user whom a word's key names behind this name and a dot
abbrev pub user_behind : (name key : List ℕ) → Option ℕ
user_behind name key = if bytes_eq (before_first is_dot key) name then number (2 ^ 16) (after_first is_dot key) else None

-- the fact is a user of the conference, this one
abbrev pub is_user : ℕ → Fact → Bool
is_user user (User p) = p.id == user
is_user user (Floor f) = false
is_user user (Request r) = false
is_user user (Reason r) = false
is_user user (Member m) = false
is_user user (Word w) = false

-- the fact is a floor whose chair is this user
abbrev pub has_chair : ℕ → Fact → Bool
has_chair user (Floor f) = is_some_of user f.chair
has_chair user (User p) = false
has_chair user (Request r) = false
has_chair user (Reason r) = false
has_chair user (Member m) = false
has_chair user (Word w) = false

-- the fact is this floor, and its chair is this user
abbrev pub is_chaired : (user floor : ℕ) → Fact → Bool
is_chaired user floor (Floor f) = f.id == floor && is_some_of user f.chair
is_chaired user floor (User p) = false
is_chaired user floor (Request r) = false
is_chaired user floor (Reason r) = false
is_chaired user floor (Member m) = false
is_chaired user floor (Word w) = false

-- the fact is a connection of this user's, be it lost for now
abbrev pub is_connection : ℕ → Fact → Bool
is_connection user (Member m) = m.user == user
is_connection user (User p) = false
is_connection user (Floor f) = false
is_connection user (Request r) = false
is_connection user (Reason r) = false
is_connection user (Word w) = false

-- the fact is the word that this user was shown out
abbrev pub shows_out : ℕ → Fact → Bool
shows_out user (Word w) = is_some_of user (user_behind (codes "out") w.key)
shows_out user (User p) = false
shows_out user (Floor f) = false
shows_out user (Request r) = false
shows_out user (Reason r) = false
shows_out user (Member m) = false

-- the fact is the word that nobody new is let in
abbrev pub locks : Fact → Bool
locks (Word w) = bytes_eq w.key (codes "lock")
locks (User p) = false
locks (Floor f) = false
locks (Request r) = false
locks (Reason r) = false
locks (Member m) = false

-- the fact is the word that whoever has this token may join as a guest
abbrev pub invites : List ℕ → Fact → Bool
invites token (Word w) = bytes_eq w.key (codes "guests") && bytes_eq w.value token
invites token (User p) = false
invites token (Floor f) = false
invites token (Request r) = false
invites token (Reason r) = false
invites token (Member m) = false

abbrev pub has_user : ℕ → List Fact → Bool
has_user user facts = list_any (is_user user) facts

-- the user is the chair of a floor
abbrev pub is_chair : ℕ → List Fact → Bool
is_chair user facts = list_any (has_chair user) facts

abbrev pub is_chair_of : (user floor : ℕ) → List Fact → Bool
is_chair_of user floor facts = list_any (is_chaired user floor) facts

abbrev pub is_connected : ℕ → List Fact → Bool
is_connected user facts = list_any (is_connection user) facts

abbrev pub is_out : ℕ → List Fact → Bool
is_out user facts = list_any (shows_out user) facts

abbrev pub is_locked : List Fact → Bool
is_locked facts = list_any locks facts

-- whoever was shown out stays out; and while nobody new is let in, only a chair is, and who has a connection
abbrev pub admission : ℕ → List Fact → Admission
admission user facts =
    if is_out user facts then ShownOut
    else if is_locked facts && not (is_connected user facts) && not (is_chair user facts) then Locked
    else Admitted

-- the connection that a fact is, where its user was shown out
abbrev pub put_out : List Fact → Fact → Option ℕ
put_out facts (Member m) = if is_out m.user facts then Some m.n else None
put_out facts (User p) = None
put_out facts (Floor f) = None
put_out facts (Request r) = None
put_out facts (Reason r) = None
put_out facts (Word w) = None

-- whoever has this token, which is a strong one, may join as a guest
abbrev pub is_invitation : List ℕ → List Fact → Bool
is_invitation token facts = is_strong token && list_any (invites token) facts
