-- Those who have caught up with a conference, and from which place on each is told what its events show.
use Rattle.std.specs.Prelude.{ℕ, ◌-◌, nat_lt, List, filter, map}
use Rattle.floor_socket.specs.declared.following.Follower.{Follower}

-- the last places that are not told to those who begin ahead of this one
abbrev pub lasts_ahead : ℕ → List Follower → List ℕ
lasts_ahead place followers = filter (λ last. nat_lt place last) (map (λ follower. follower.from - 1) followers)
