-- No two errors have one number or one name.
use Rattle.std.proofs.Common.{◌≡◌, ℕ, nat_eq, List, refl, sym, ◌∙◌, ap}
use Rattle.std.specs.Prelude.{ℤ, pos, negsuc, Option, Some, unwrap_or}
use Rattle.std.specs.List.{find}
use Rattle.std.specs.Str.{bytes_eq}
use Rattle.floor_rpc.specs.Errors.{errors, name_of, number_of}
use Rattle.floor_rpc.specs.Laws.{NamesAreTheirOwn, NumbersAreTheirOwn}
use Rattle.floor_rpc.specs.declared.error.ErrorName.{ErrorName}
use Rattle.floor_rpc.specs.declared.error.ErrorName.TheVariants as error

-- a number of its own for each whole number that an error has
abbrev natural : ℤ → ℕ
natural (pos n) = n
natural (negsuc n) = n

abbrev of_natural : ℕ → Option ErrorName
of_natural n = find (λ e. nat_eq (natural (number_of e)) n) errors

abbrev of_name : List ℕ → Option ErrorName
of_name name = find (λ e. bytes_eq (name_of e) name) errors

by_number : (e : ErrorName) → of_natural (natural (number_of e)) ≡ Some e
by_number error.NotJson = refl
by_number error.NotRequest = refl
by_number error.NoMethod = refl
by_number error.BadParams = refl
by_number error.NoConference = refl
by_number error.Ended = refl
by_number error.Forgotten = refl
by_number error.Running = refl
by_number error.Broken = refl
by_number error.Draining = refl
by_number error.Forbidden = refl
by_number error.Full = refl
by_number error.TooLong = refl
by_number error.Memory = refl
by_number error.Used = refl
by_number error.JournalFull = refl
by_number error.NoUser = refl
by_number error.NoMember = refl
by_number error.NoFloor = refl
by_number error.NoRequest = refl
by_number error.Unauthorized = refl
by_number error.TooManyRequests = refl
by_number error.NotNow = refl
by_number error.Removed = refl
by_number error.Watching = refl
by_number error.BadPlace = refl
by_number error.OutOfRange = refl
by_number error.DoubleUser = refl
by_number error.DoubleFloor = refl
by_number error.DoubleConference = refl
by_number error.DoublePort = refl
by_number error.UnknownChair = refl
by_number error.Syntax = refl
by_number error.MissingKey = refl
by_number error.WrongType = refl
by_number error.CannotListen = refl
by_number error.CannotRead = refl
by_number error.CannotKeep = refl
by_number error.Cut = refl
by_number error.BadCount = refl

by_name : (e : ErrorName) → of_name (name_of e) ≡ Some e
by_name error.NotJson = refl
by_name error.NotRequest = refl
by_name error.NoMethod = refl
by_name error.BadParams = refl
by_name error.NoConference = refl
by_name error.Ended = refl
by_name error.Forgotten = refl
by_name error.Running = refl
by_name error.Broken = refl
by_name error.Draining = refl
by_name error.Forbidden = refl
by_name error.Full = refl
by_name error.TooLong = refl
by_name error.Memory = refl
by_name error.Used = refl
by_name error.JournalFull = refl
by_name error.NoUser = refl
by_name error.NoMember = refl
by_name error.NoFloor = refl
by_name error.NoRequest = refl
by_name error.Unauthorized = refl
by_name error.TooManyRequests = refl
by_name error.NotNow = refl
by_name error.Removed = refl
by_name error.Watching = refl
by_name error.BadPlace = refl
by_name error.OutOfRange = refl
by_name error.DoubleUser = refl
by_name error.DoubleFloor = refl
by_name error.DoubleConference = refl
by_name error.DoublePort = refl
by_name error.UnknownChair = refl
by_name error.Syntax = refl
by_name error.MissingKey = refl
by_name error.WrongType = refl
by_name error.CannotListen = refl
by_name error.CannotRead = refl
by_name error.CannotKeep = refl
by_name error.Cut = refl
by_name error.BadCount = refl

same : (a b : ErrorName) → Some a ≡ Some b → a ≡ b
same a b e = ap (λ o. unwrap_or o a) e

pub numbers_are_their_own : NumbersAreTheirOwn
numbers_are_their_own a b e = same a b (sym (by_number a) ∙ ap (λ n. of_natural (natural n)) e ∙ by_number b)

pub names_are_their_own : NamesAreTheirOwn
names_are_their_own a b e = same a b (sym (by_name a) ∙ ap of_name e ∙ by_name b)
