-- The lines of users and of members.
use Rattle.std.specs.Prelude.{ℕ, ◌==◌, Bool, true, false, if◌then◌else◌, Option, Some, None, List, [], ◌++◌, length, codes}
use Rattle.std.specs.Fmt.{decimal}
use Rattle.hex.specs.Hex.{encode_lower}
use Rattle.floor_config.specs.declared.users.User.{User}
use Rattle.floor_control.specs.declared.people.MemberLine.{MemberLine}

-- whether the user may ask on behalf of others
abbrev pub proxy_word : Bool → List ℕ
proxy_word true = codes " proxy"
proxy_word false = []

-- the port that leads to the user, where one does
abbrev pub port_words : Option ℕ → List ℕ
port_words (Some port) = codes " port " ++ decimal port
port_words None = []

-- the user's name in hexadecimal, where it has one that isn't empty
abbrev pub some_name_words : List ℕ → List ℕ
some_name_words name = if length name == 0 then [] else codes " name " ++ encode_lower name

abbrev pub name_words : Option (List ℕ) → List ℕ
name_words (Some name) = some_name_words name
name_words None = []

-- the line of a user, with a port
abbrev pub user_line : User → Option ℕ → List ℕ
user_line user port =
    codes "user " ++ (decimal user.id ++ (proxy_word user.proxy ++ (port_words port ++ (name_words user.name ++ codes "\n"))))

-- whether a member is told nothing more
abbrev pub cut_word : Bool → List ℕ
cut_word true = codes " cut"
cut_word false = []

-- for how long a member's connection has been lost, where it is
abbrev pub away_words : Option ℕ → List ℕ
away_words (Some seconds) = codes " away " ++ decimal seconds
away_words None = []

-- the line of a member
abbrev pub member_line : MemberLine → List ℕ
member_line m =
    codes "member " ++ (decimal m.n ++ (codes " user " ++ (decimal m.user ++ (codes " behind " ++ (decimal m.behind
    ++ (cut_word m.is_cut ++ (away_words m.away ++ codes "\n")))))))
