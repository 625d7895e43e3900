-- Those that wait, position by position.
use Rattle.std.proofs.Common.{◌≡◌, ◌+◌, ℕ, List, [], ◌++◌, refl, add-one}
use Rattle.floor_control.specs.Floors.{waiting_up_to, words_of}
use Rattle.floor_control.specs.declared.floors.Entry.{Entry}
use Rattle.floor_control.specs.declared.floors.Part.TheVariants.{Waits}

pub none_before : (entries : List Entry) → waiting_up_to 0 entries ≡ []
unfolding waiting_up_to
none_before entries = refl

pub one_more : (position : ℕ) (entries : List Entry) → waiting_up_to (position + 1) entries ≡ waiting_up_to position entries ++ words_of (Waits (position + 1)) entries
unfolding waiting_up_to
one_more position entries = rw add-one refl
