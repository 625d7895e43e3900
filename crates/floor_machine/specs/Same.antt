-- Whether two shown floor requests are alike in all that is shown of them.
use Rattle.std.specs.Prelude.{ℕ, ◌==◌, ◌&&◌, Bool, true, false, List, [], ◌∷◌, Option, Some, None}
use Rattle.floor_message.specs.declared.information.Who.{Who}
use Rattle.floor_message.specs.declared.information.Info.{Info}

-- two lists of which the items are alike, one by one
abbrev pub same_list : {A : Type 0} → (A → A → Bool) → List A → List A → Bool
same_list same [] [] = true
same_list same (x ∷ xs) (y ∷ ys) = same x y && same_list same xs ys
same_list same [] (y ∷ ys) = false
same_list same (x ∷ xs) [] = false

-- both absent, or both there and alike
abbrev pub same_option : {A : Type 0} → (A → A → Bool) → Option A → Option A → Bool
same_option same None None = true
same_option same (Some x) (Some y) = same x y
same_option same None (Some y) = false
same_option same (Some x) None = false

-- two equal numbers
abbrev pub same_number : ℕ → ℕ → Bool
same_number x y = x == y

-- two equal lists of bytes
abbrev pub same_octets : List ℕ → List ℕ → Bool
same_octets = same_list same_number

-- a status with its queue position, each the same
abbrev pub same_status : ℕ × ℕ → ℕ × ℕ → Bool
same_status x y = x.0 == y.0 && x.1 == y.1

-- a floor with its status, each the same
abbrev pub same_floor : ℕ × Option (ℕ × ℕ) → ℕ × Option (ℕ × ℕ) → Bool
same_floor x y = x.0 == y.0 && same_option same_status x.1 y.1

-- a user with name and URI, each the same
abbrev pub same_who : Who → Who → Bool
same_who x y = x.user == y.user && same_option same_octets x.name y.name && same_option same_octets x.uri y.uri

-- each field the same
unfoldable pub same_info : Info → Info → Bool
same_info x y =
    x.request == y.request
    && same_option same_status x.overall y.overall
    && same_option same_octets x.reason y.reason
    && same_list same_floor x.floors y.floors
    && same_option same_who x.beneficiary y.beneficiary
    && same_option same_who x.requester y.requester
    && same_option same_number x.priority y.priority
    && same_option same_octets x.info y.info

-- the same infos in the same order
abbrev pub same_infos : List Info → List Info → Bool
same_infos = same_list same_info
