-- An act that was read can be printed, and what is printed is read back.
use Rattle.std.proofs.Common.{◌≡◌, ◌==◌, ◌<◌, ◌^◌, ◌&&◌, ℕ, Bool, true, false, cond, nat_lt, List, [], ◌∷◌, ◌++◌, length, refl, sym, ◌∙◌, ap, subst, arith, inl, inr}
use Rattle.std.specs.Prelude.{Option, Some, None, Result, Ok, Err, codes, ⊤, ◌⊎◌, unwrap_or}
use Rattle.std.specs.Option.{option_map}
use Rattle.std.specs.Fmt.{decimal}
use Rattle.std.specs.List.{join_with_byte, list_all}
use Rattle.std.specs.Str.{bytes_eq}
use Rattle.std.specs.Str.Parse.{digits_value}
use Rattle.std.proofs.lemmas.Bool.{false≢true, ltb-true}
use Rattle.std.proofs.lemmas.List.{append-nil}
use Rattle.floor_config.specs.declared.floors.Floor.{Floor}
use Rattle.floor_config.specs.declared.users.User.{User}
use Rattle.floor_machine.specs.declared.act.Act.{Act}
use Rattle.floor_machine.specs.declared.act.Act.TheVariants.{Revoke, Close, AddUser, AddFloor, SetChair}
use Rattle.floor_words.specs.Laws.{FirstWordsAreCutOff, NumbersAreReadBack, TextsBeginWithAWord, WordsAreReadBack, is_plain}
use Rattle.floor_words.specs.Words.{behind_word, first_word, from_first_word, is_numeral, is_word, words}
use Rattle.floor_acts.specs.Acts.{act_of, chair_line, close_line, floor_line, floor_or_fault, of_name, revoke_line, set_chair, some, user_line, user_or_fault}
use Rattle.floor_acts.specs.Forms.{FloorForm, UserForm, floor_form, name_form, port_form, proxy_form, text_form, user_form, with_name, with_options, with_port, word_form}
use Rattle.floor_acts.specs.Laws.{ActsAreReadBack, printed_act, printed_chair, printed_name, printed_port, printed_proxy}
use Rattle.floor_acts.specs.Numbers.{and_then, number_of, number_or_fault, number_where, port_or_fault, port_where}
use Rattle.floor_acts.specs.declared.act.ActLine.{ActLine}
use Rattle.floor_acts.specs.declared.fault.ActFault.{ActFault}
use Rattle.floor_acts.specs.declared.fault.ActFault.TheVariants.{BadNumber}

and_left : (a b : Bool) → (a && b) ≡ true → a ≡ true
and_left true b e = refl
and_left false b e = e

and_right : (a b : Bool) → (a && b) ≡ true → b ≡ true
and_right true b e = e
and_right false b e = absurd (false≢true e)

both : (a b : Bool) → a ≡ true → b ≡ true → (a && b) ≡ true
both true b e h = h
both false b e h = absurd (false≢true e)

-- a number, where there is one, is below the limit
abbrev BelowWhere : ℕ → Option ℕ → Type 0
BelowWhere limit (Some n) = n < limit
BelowWhere limit None = ⊤

-- a name, where there is one, isn't empty, and begins with a word
abbrev IsName : Option (List ℕ) → Type 0
IsName (Some name) = (0 < length name) × (from_first_word name ≡ name) × (from_first_word (32 ∷ name) ≡ name)
IsName None = ⊤

abbrev IsPort : Option ℕ → Type 0
IsPort (Some port) = (port < 2 ^ 16) × ((port == 0) ≡ false)
IsPort None = ⊤

pub record IsWrittenUser (user : User) : Type 0 where
  pub id : user.id < 2 ^ 16
  pub uri : user.uri ≡ None
  pub port : IsPort user.port
  pub name : IsName user.name

-- the act's words can stand in a line
abbrev IsWritten : Act → Type 0
IsWritten Close = ⊤
IsWritten (Revoke request) = request < 2 ^ 16
IsWritten (AddUser user) = IsWrittenUser user
IsWritten (AddFloor floor) = (floor.id < 2 ^ 16) × (floor.room < 2 ^ 16) × BelowWhere (2 ^ 16) floor.chair
IsWritten (SetChair floor chair) = (floor < 2 ^ 16) × BelowWhere (2 ^ 16) chair

abbrev Written : Result ActLine ActFault → Type 0
Written (Ok line) = (line.conference < 2 ^ 32) × IsWritten line.act
Written (Err fault) = ⊤

abbrev WrittenLine : Result (Option ActLine) ActFault → Type 0
WrittenLine (Ok (Some line)) = (line.conference < 2 ^ 32) × IsWritten line.act
WrittenLine (Ok None) = ⊤
WrittenLine (Err fault) = ⊤

-- a part that is good is such
abbrev FitsOk : {A : Type 0} → (A → Type 0) → Result A ActFault → Type 0
FitsOk Fits (Ok part) = Fits part
FitsOk Fits (Err fault) = ⊤

-- what follows from a part can be written, where each part that is good leads to such
then : {A : Type 0} (Fits : A → Type 0) (next : A → Result ActLine ActFault) → ((part : A) → Fits part → Written (next part))
    → (r : Result A ActFault) → FitsOk Fits r → Written (and_then r next)
then Fits next h (Ok part) fits = h part fits
then Fits next h (Err fault) fits = tt

-- a number that is read is below its limit
limited : (b : Bool) (v limit : ℕ) → (b ≡ true → v < limit) → FitsOk (λ n. n < limit) (number_or_fault (cond b (Some v) None))
limited true v limit h = h refl
limited false v limit h = tt

below : (limit : ℕ) (word : List ℕ) → FitsOk (λ n. n < limit) (number_of limit word)
below limit word =
    limited (is_numeral word && nat_lt (digits_value 10 word) limit) (digits_value 10 word) limit
    (λ e. ltb-true (digits_value 10 word) limit (and_right (is_numeral word) _ e))

some_below : (r : Result ℕ ActFault) → FitsOk (λ n. n < 2 ^ 16) r → FitsOk (BelowWhere (2 ^ 16)) (and_then r (λ n. Ok (Some n)))
some_below (Ok n) few = few
some_below (Err fault) few = tt

below_where : (word : Option (List ℕ)) → FitsOk (BelowWhere (2 ^ 16)) (number_where word)
below_where None = tt
below_where (Some word) = some_below (number_of (2 ^ 16) word) (below (2 ^ 16) word)

port_on : (port : ℕ) (b : Bool) → (port == 0) ≡ b → port < 2 ^ 16 → FitsOk IsPort (cond b (Err BadNumber) (Ok (Some port)))
port_on port true e few = tt
port_on port false e few = (few, e)

port_fits : (r : Result (Option ℕ) ActFault) → FitsOk (BelowWhere (2 ^ 16)) r → FitsOk IsPort (and_then r port_or_fault)
port_fits (Ok (Some port)) few = port_on port (port == 0) refl few
port_fits (Ok None) few = tt
port_fits (Err fault) few = tt

module _ (texts : TextsBeginWithAWord) where
  -- a name that stands in a line
  abbrev NameFits : Option (Option (List ℕ)) → Type 0
  NameFits (Some name) = IsName name
  NameFits None = ⊤

  text_fits : (text : List ℕ) → from_first_word text ≡ text → from_first_word (32 ∷ text) ≡ text → NameFits (text_form text)
  text_fits [] same behind = tt
  text_fits (b ∷ text) same behind = (omega arith, same, behind)

  name_on : (b d : Bool) (o : Option (Option (List ℕ))) → NameFits o → NameFits (cond b (cond d o None) (Some None))
  name_on true true o fits = fits
  name_on true false o fits = tt
  name_on false d o fits = tt

  name_fits : (text : List ℕ) → NameFits (name_form text)
  name_fits text =
      let begins = texts (behind_word text) in
      name_on (is_word (first_word text)) (bytes_eq (first_word text) (codes "name")) _
      (text_fits (from_first_word (behind_word text)) begins.same begins.behind_a_space)

  abbrev FormFits : Option UserForm → Type 0
  FormFits (Some form) = IsName form.name
  FormFits None = ⊤

  with_name_fits : (form : UserForm) (name : Option (Option (List ℕ))) → NameFits name → FormFits (with_name form name)
  with_name_fits form (Some name) fits = fits
  with_name_fits form None fits = tt

  with_port_fits : (c id : List ℕ) (proxy : Bool) (port : Option (Option (List ℕ) × List ℕ)) → FormFits (with_port c id proxy port)
  with_port_fits c id proxy (Some (port, rest)) = with_name_fits (record { conference = c; id = id; proxy = proxy; port = port; name = None }) (name_form rest) (name_fits rest)
  with_port_fits c id proxy None = tt

  with_options_fits : (c id : List ℕ) (options : Bool × List ℕ) → FormFits (with_options c id options)
  with_options_fits c id (proxy, rest) = with_port_fits c id proxy (port_form rest)

  form_on : (b : Bool) (form : Option UserForm) → FormFits form → FormFits (cond b form None)
  form_on true form fits = fits
  form_on false form fits = tt

  form_fits : (text : List ℕ) → FormFits (user_form text)
  form_fits text = form_on _ _ (with_options_fits (first_word text) (first_word (behind_word text)) (proxy_form (behind_word (behind_word text))))

  user_written : (form : Option UserForm) → FormFits form → Written (user_or_fault form)
  user_written (Some form) named =
      then (λ n. n < 2 ^ 32) _ (λ c h.
      then (λ n. n < 2 ^ 16) _ (λ id k.
      then IsPort _ (λ port p. (h, record { id = k; uri = refl; port = p; name = named }))
      (port_where form.port) (port_fits (number_where form.port) (below_where form.port)))
      (number_of (2 ^ 16) form.id) (below (2 ^ 16) form.id))
      (number_of (2 ^ 32) form.conference) (below (2 ^ 32) form.conference)
  user_written None named = tt

  room_below : (room : Option ℕ) → BelowWhere (2 ^ 16) room → unwrap_or room 1 < 2 ^ 16
  room_below (Some room) few = few
  room_below None few = omega arith

  floor_written : (form : Option FloorForm) → Written (floor_or_fault form)
  floor_written (Some form) =
      then (λ n. n < 2 ^ 32) _ (λ c h.
      then (λ n. n < 2 ^ 16) _ (λ id k.
      then (BelowWhere (2 ^ 16)) _ (λ room r.
      then (BelowWhere (2 ^ 16)) _ (λ chair u. (h, (k, room_below room r, u)))
      (number_where form.chair) (below_where form.chair))
      (number_where form.room) (below_where form.room))
      (number_of (2 ^ 16) form.id) (below (2 ^ 16) form.id))
      (number_of (2 ^ 32) form.conference) (below (2 ^ 32) form.conference)
  floor_written None = tt

  chair_written : (conference floor : List ℕ) (user : Option (List ℕ)) → Written (set_chair conference floor user)
  chair_written conference floor user =
      then (λ n. n < 2 ^ 32) _ (λ c h.
      then (λ n. n < 2 ^ 16) _ (λ f k.
      then (BelowWhere (2 ^ 16)) _ (λ chair u. (h, (k, u)))
      (number_where user) (below_where user))
      (number_of (2 ^ 16) floor) (below (2 ^ 16) floor))
      (number_of (2 ^ 32) conference) (below (2 ^ 32) conference)

  chair_line_written : (ws : List (List ℕ)) → Written (chair_line ws)
  chair_line_written [] = tt
  chair_line_written (a ∷ []) = tt
  chair_line_written (c ∷ f ∷ []) = chair_written c f None
  chair_line_written (c ∷ f ∷ u ∷ []) = chair_written c f (Some u)
  chair_line_written (a ∷ b ∷ c ∷ d ∷ more) = tt

  close_written : (ws : List (List ℕ)) → Written (close_line ws)
  close_written [] = tt
  close_written (c ∷ []) = then (λ n. n < 2 ^ 32) _ (λ n h. (h, tt)) (number_of (2 ^ 32) c) (below (2 ^ 32) c)
  close_written (a ∷ b ∷ more) = tt

  revoke_written : (ws : List (List ℕ)) → Written (revoke_line ws)
  revoke_written [] = tt
  revoke_written (a ∷ []) = tt
  revoke_written (c ∷ r ∷ []) =
      then (λ n. n < 2 ^ 32) _ (λ n h.
      then (λ n. n < 2 ^ 16) _ (λ m k. (h, k)) (number_of (2 ^ 16) r) (below (2 ^ 16) r))
      (number_of (2 ^ 32) c) (below (2 ^ 32) c)
  revoke_written (a ∷ b ∷ c ∷ more) = tt

  some_written : (r : Result ActLine ActFault) → Written r → WrittenLine (some r)
  some_written (Ok line) h = h
  some_written (Err fault) h = tt

  chosen : (b : Bool) (x y : Result (Option ActLine) ActFault) → WrittenLine x → WrittenLine y → WrittenLine (cond b x y)
  chosen true x y h k = h
  chosen false x y h k = k

  -- what a line asks for can be written
  line_written : (text : List ℕ) → WrittenLine (act_of text)
  line_written text =
      let rest = behind_word text in
      let name = first_word text in
      let fifth = some_written (chair_line (words rest)) (chair_line_written (words rest)) in
      let fourth = some_written (floor_line (words rest)) (floor_written (floor_form (words rest))) in
      let third = some_written (user_line rest) (user_written (user_form rest) (form_fits rest)) in
      let second = some_written (revoke_line (words rest)) (revoke_written (words rest)) in
      let first = some_written (close_line (words rest)) (close_written (words rest)) in
      chosen (bytes_eq name (codes "close")) (some (close_line (words rest))) _ first
      (chosen (bytes_eq name (codes "revoke")) (some (revoke_line (words rest))) _ second
      (chosen (bytes_eq name (codes "user")) (some (user_line rest)) _ third
      (chosen (bytes_eq name (codes "floor")) (some (floor_line (words rest))) _ fourth
      (chosen (bytes_eq name (codes "chair")) (some (chair_line (words rest))) (Ok None) fifth tt))))

module _ (cuts : FirstWordsAreCutOff) (numbers : NumbersAreReadBack) (back : WordsAreReadBack) where
  -- a number is read back, and stands as one word
  conference_back : (n : ℕ) → n < 2 ^ 32 → number_of (2 ^ 32) (decimal n) ≡ Ok n
  conference_back n h = ap number_or_fault (numbers (2 ^ 32) n h (omega (arith, h))).value

  number_back : (n : ℕ) → n < 2 ^ 16 → number_of (2 ^ 16) (decimal n) ≡ Ok n
  number_back n h = ap number_or_fault (numbers (2 ^ 16) n h (omega (arith, h))).value

  conference_plain : (n : ℕ) → n < 2 ^ 32 → is_plain (decimal n) ≡ true
  conference_plain n h = (numbers (2 ^ 32) n h (omega (arith, h))).plain

  number_plain : (n : ℕ) → n < 2 ^ 16 → is_plain (decimal n) ≡ true
  number_plain n h = conference_plain n (omega (arith, h))

  number_where_back : (n : ℕ) → n < 2 ^ 16 → number_where (Some (decimal n)) ≡ Ok (Some n)
  number_where_back n h = ap (λ r. and_then r (λ n. Ok (Some n))) (number_back n h)

  -- a line is read by its first word and what stands behind it
  by_name : (name rest : List ℕ) → is_plain name ≡ true → act_of (name ++ (32 ∷ rest)) ≡ of_name name rest
  by_name name rest plain = ap (λ w. of_name w (behind_word (name ++ (32 ∷ rest)))) ((cuts name plain).first rest) ∙ ap (of_name name) ((cuts name plain).rest_behind rest)

  close_back : (c : ℕ) → c < 2 ^ 32 → act_of (codes "close" ++ (32 ∷ decimal c)) ≡ Ok (Some record { conference = c; act = Close })
  close_back c h =
      by_name (codes "close") (decimal c) refl
      ∙ ap (λ ws. some (close_line ws)) (back (decimal c ∷ []) (both (is_plain (decimal c)) _ (conference_plain c h) refl))
      ∙ ap (λ r. some (and_then r (λ n. Ok record { conference = n; act = Close }))) (conference_back c h)

  -- two plain numbers as words
  two_plain : (c n : ℕ) → c < 2 ^ 32 → n < 2 ^ 16 → list_all is_plain (decimal c ∷ decimal n ∷ []) ≡ true
  two_plain c n h k = both (is_plain (decimal c)) _ (conference_plain c h) (both (is_plain (decimal n)) _ (number_plain n k) refl)

  revoke_back : (c r : ℕ) → c < 2 ^ 32 → r < 2 ^ 16
      → act_of (codes "revoke" ++ (32 ∷ (decimal c ++ (32 ∷ decimal r)))) ≡ Ok (Some record { conference = c; act = Revoke r })
  revoke_back c r h k =
      by_name (codes "revoke") (decimal c ++ (32 ∷ decimal r)) refl
      ∙ ap (λ ws. some (revoke_line ws)) (back (decimal c ∷ decimal r ∷ []) (two_plain c r h k))
      ∙ rw (conference_back c h, number_back r k) refl

  -- a floor's line, by the words behind its name
  floor_of_words : (ws : List (List ℕ)) (rest : List ℕ) → rest ≡ join_with_byte 32 ws → list_all is_plain ws ≡ true
      → act_of (codes "floor" ++ (32 ∷ rest)) ≡ some (floor_line ws)
  floor_of_words ws rest same plain =
      by_name (codes "floor") rest refl ∙ ap (λ rest. some (floor_line (words rest))) same ∙ ap (λ ws. some (floor_line ws)) (back ws plain)

  chair_of_words : (ws : List (List ℕ)) (rest : List ℕ) → rest ≡ join_with_byte 32 ws → list_all is_plain ws ≡ true
      → act_of (codes "chair" ++ (32 ∷ rest)) ≡ some (chair_line ws)
  chair_of_words ws rest same plain =
      by_name (codes "chair") rest refl ∙ ap (λ rest. some (chair_line (words rest))) same ∙ ap (λ ws. some (chair_line ws)) (back ws plain)

  chair_back : (c f : ℕ) (chair : Option ℕ) → c < 2 ^ 32 → f < 2 ^ 16 → BelowWhere (2 ^ 16) chair
      → act_of (printed_act c (SetChair f chair)) ≡ Ok (Some record { conference = c; act = SetChair f chair })
  chair_back c f None h k u =
      chair_of_words (decimal c ∷ decimal f ∷ []) _ (ap (λ l. decimal c ++ (32 ∷ l)) (append-nil (decimal f))) (two_plain c f h k)
      ∙ rw (conference_back c h, number_back f k) refl
  chair_back c f (Some user) h k u =
      chair_of_words (decimal c ∷ decimal f ∷ decimal user ∷ []) _ refl
      (both (is_plain (decimal c)) _ (conference_plain c h) (both (is_plain (decimal f)) _ (number_plain f k) (both (is_plain (decimal user)) _ (number_plain user u) refl)))
      ∙ rw (conference_back c h, number_back f k, number_back user u) refl

  floor_by : (c : ℕ) (floor : Floor) (chair : Option ℕ) → floor.chair ≡ chair → c < 2 ^ 32 → floor.id < 2 ^ 16 → floor.room < 2 ^ 16 → BelowWhere (2 ^ 16) chair
      → act_of (printed_act c (AddFloor floor)) ≡ Ok (Some record { conference = c; act = AddFloor floor })
  floor_by c floor None e h k r u =
      floor_of_words (decimal c ∷ decimal floor.id ∷ codes "room" ∷ decimal floor.room ∷ []) _
      (ap (λ l. decimal c ++ (32 ∷ (decimal floor.id ++ (codes " room " ++ (decimal floor.room ++ printed_chair l))))) e
      ∙ ap (λ l. decimal c ++ (32 ∷ (decimal floor.id ++ (codes " room " ++ l)))) (append-nil (decimal floor.room)))
      (both (is_plain (decimal c)) _ (conference_plain c h) (both (is_plain (decimal floor.id)) _ (number_plain floor.id k)
      (both (is_plain (decimal floor.room)) _ (number_plain floor.room r) refl)))
      ∙ rw (conference_back c h, number_back floor.id k, number_back floor.room r)
      (ap (λ l. Ok (Some record { conference = c; act = AddFloor record { id = floor.id; room = floor.room; chair = l } })) (sym e))
  floor_by c floor (Some user) e h k r u =
      floor_of_words (decimal c ∷ decimal floor.id ∷ codes "room" ∷ decimal floor.room ∷ codes "chair" ∷ decimal user ∷ []) _
      (ap (λ l. decimal c ++ (32 ∷ (decimal floor.id ++ (codes " room " ++ (decimal floor.room ++ printed_chair l))))) e)
      (both (is_plain (decimal c)) _ (conference_plain c h) (both (is_plain (decimal floor.id)) _ (number_plain floor.id k)
      (both (is_plain (decimal floor.room)) _ (number_plain floor.room r) (both (is_plain (decimal user)) _ (number_plain user u) refl))))
      ∙ rw (conference_back c h, number_back floor.id k, number_back floor.room r, number_back user u)
      (ap (λ l. Ok (Some record { conference = c; act = AddFloor record { id = floor.id; room = floor.room; chair = l } })) (sym e))

  -- what may stand behind a word: nothing, or a space and more
  abbrev IsTail : List ℕ → Type 0
  IsTail tail = (tail ≡ []) ⊎ ((rest : List ℕ) × (tail ≡ 32 ∷ rest))

  -- the tail without its space
  abbrev within : List ℕ → List ℕ
  within [] = []
  within (b ∷ rest) = rest

  pub record IsCutBefore (word tail : List ℕ) : Type 0 where
    pub first : first_word (word ++ tail) ≡ word
    pub behind : behind_word (word ++ tail) ≡ within tail

  cut_before : (word tail : List ℕ) → is_plain word ≡ true → IsTail tail → IsCutBefore word tail
  cut_before word tail plain (inl e) =
      let cut = cuts word plain in
      let same : word ++ tail ≡ word = ap (λ l. word ++ l) e ∙ append-nil word in
      record { first = ap first_word same ∙ cut.alone; behind = ap behind_word same ∙ cut.nothing_behind ∙ ap within (sym e) }
  cut_before word tail plain (inr (rest, e)) =
      let cut = cuts word plain in
      record {
        first = ap (λ l. first_word (word ++ l)) e ∙ cut.first rest;
        behind = ap (λ l. behind_word (word ++ l)) e ∙ cut.rest_behind rest ∙ ap within (sym e);
      }

  name_tail : (name : Option (List ℕ)) → IsTail (printed_name name)
  name_tail None = inl refl
  name_tail (Some name) = inr (codes "name " ++ name, refl)

  text_back : (name : List ℕ) → 0 < length name → text_form name ≡ Some (Some name)
  text_back [] some = absurd (omega (arith, some))
  text_back (b ∷ name) some = refl

  name_back : (name : Option (List ℕ)) → IsName name → name_form (within (printed_name name)) ≡ Some name
  name_back None h = refl
  name_back (Some name) (some, same, behind) = ap text_form same ∙ text_back name some

  -- a tail that begins with no such word
  abbrev Lacks : List ℕ → List ℕ → Type 0
  Lacks word tail = bytes_eq (first_word (within tail)) word ≡ false

  name_lacks_port : (name : Option (List ℕ)) → Lacks (codes "port") (printed_name name)
  name_lacks_port None = refl
  name_lacks_port (Some name) = refl

  name_lacks_proxy : (name : Option (List ℕ)) → Lacks (codes "proxy") (printed_name name)
  name_lacks_proxy None = refl
  name_lacks_proxy (Some name) = refl

  port_tail : (port : Option ℕ) (tail : List ℕ) → IsTail tail → IsTail (printed_port port ++ tail)
  port_tail None tail h = h
  port_tail (Some port) tail h = inr (codes "port " ++ (decimal port ++ tail), refl)

  port_lacks_proxy : (port : Option ℕ) (tail : List ℕ) → Lacks (codes "proxy") tail → Lacks (codes "proxy") (printed_port port ++ tail)
  port_lacks_proxy None tail h = h
  port_lacks_proxy (Some port) tail h = refl

  not_chosen : {A : Type 0} (b : Bool) (x y : A) → b ≡ false → cond b x y ≡ y
  not_chosen true x y e = absurd (false≢true (sym e))
  not_chosen false x y e = refl

  found : (b : Bool) (x : Option (Option (List ℕ) × List ℕ)) → b ≡ true → cond b x None ≡ x
  found true x e = refl
  found false x e = absurd (false≢true e)

  word_back : (word tail : List ℕ) → is_plain word ≡ true → IsTail tail → word_form (word ++ tail) ≡ Some (Some word, within tail)
  word_back word tail plain h =
      let cut = cut_before word tail plain h in
      rw (cut.first, cut.behind) (found (is_word word) _ (and_left (is_word word) _ plain))

  port_back : (port : Option ℕ) (tail : List ℕ) → IsPort port → IsTail tail → Lacks (codes "port") tail
      → port_form (within (printed_port port ++ tail)) ≡ Some (option_map decimal port, within tail)
  port_back None tail p h lacks = not_chosen _ _ _ lacks
  port_back (Some port) tail (few, p) h lacks = word_back (decimal port) tail (number_plain port few) h

  port_where_back : (port : Option ℕ) → IsPort port → port_where (option_map decimal port) ≡ Ok port
  port_where_back None p = refl
  port_where_back (Some port) (few, p) = rw (number_back port few) (not_chosen (port == 0) _ _ p)

  proxy_tail : (proxy : Bool) (tail : List ℕ) → IsTail tail → IsTail (printed_proxy proxy ++ tail)
  proxy_tail false tail h = h
  proxy_tail true tail h = inr (codes "proxy" ++ tail, refl)

  proxy_back : (proxy : Bool) (tail : List ℕ) → IsTail tail → Lacks (codes "proxy") tail
      → proxy_form (within (printed_proxy proxy ++ tail)) ≡ (proxy, within tail)
  proxy_back false tail h lacks = not_chosen _ _ _ lacks
  proxy_back true tail h lacks =
      let cut = cut_before (codes "proxy") tail refl h in
      rw (cut.first, cut.behind) refl

  word_there : (form : Option UserForm) (b : Bool) → b ≡ true → cond b form None ≡ form
  word_there form true e = refl
  word_there form false e = absurd (false≢true e)

  form_back : (c id : List ℕ) (proxy : Bool) (port : Option ℕ) (name : Option (List ℕ)) → is_plain c ≡ true → is_plain id ≡ true → IsPort port → IsName name
      → user_form (c ++ (32 ∷ (id ++ (printed_proxy proxy ++ (printed_port port ++ printed_name name)))))
      ≡ Some record { conference = c; id = id; proxy = proxy; port = option_map decimal port; name = name }
  form_back c id proxy port name c_plain id_plain p n =
      let ports = printed_port port ++ printed_name name in
      let ports_tail = port_tail port (printed_name name) (name_tail name) in
      let proxies_tail = proxy_tail proxy ports ports_tail in
      let cut = cuts c c_plain in
      let rest = id ++ (printed_proxy proxy ++ ports) in
      let second = cut_before id (printed_proxy proxy ++ ports) id_plain proxies_tail in
      rw (
        cut.first rest,
        cut.rest_behind rest,
        second.first,
        second.behind,
        proxy_back proxy ports ports_tail (port_lacks_proxy port (printed_name name) (name_lacks_proxy name)),
        port_back port (printed_name name) p (name_tail name) (name_lacks_port name),
        name_back name n,
      )
      (word_there _ (is_word id) (and_left (is_word id) _ id_plain))

  user_back : (c : ℕ) (user : User) → c < 2 ^ 32 → IsWrittenUser user
      → act_of (printed_act c (AddUser user)) ≡ Ok (Some record { conference = c; act = AddUser user })
  user_back c user h k =
      ap (λ form. some (user_or_fault form)) (form_back (decimal c) (decimal user.id) user.proxy user.port user.name (conference_plain c h) (number_plain user.id k.id) k.port k.name)
      ∙ rw (conference_back c h, number_back user.id k.id, port_where_back user.port k.port)
      (ap (λ uri. Ok (Some record { conference = c; act = AddUser (record user { uri = uri }) })) (sym k.uri))

  acts_back : (c : ℕ) (act : Act) → c < 2 ^ 32 → IsWritten act → act_of (printed_act c act) ≡ Ok (Some record { conference = c; act = act })
  acts_back c Close h tt = close_back c h
  acts_back c (Revoke r) h k = revoke_back c r h k
  acts_back c (AddUser user) h k = user_back c user h k
  acts_back c (AddFloor floor) h (k, r, u) = floor_by c floor floor.chair refl h k r u
  acts_back c (SetChair f chair) h (k, u) = chair_back c f chair h k u

pub acts_are_read_back : FirstWordsAreCutOff → NumbersAreReadBack → TextsBeginWithAWord → WordsAreReadBack → ActsAreReadBack
acts_are_read_back cuts numbers texts back text line e =
    let (h, k) = subst WrittenLine e (line_written texts text) in
    acts_back cuts numbers back line.conference line.act h k
