-- What is written of a Tell is read as that Tell.
use Rattle.std.proofs.Common.{◌≡◌, ℕ, suc, ◌*◌, ◌/◌, ◌≤◌, min, List, [], ◌∷◌, ◌++◌, map, Option, Some, None, refl, ◌∙◌, ap, arith}
use Rattle.std.specs.Prelude.{option_map, option_and_then, filter_map, All, option_to_list, IfSome}
use Rattle.std.specs.List.{cons_option}
use Rattle.std.proofs.lemmas.List.{append-nil}
use Rattle.floor_wire.specs.View.{attributes_of, items}
use Rattle.floor_wire.specs.declared.attribute.Attr.{Attr}
use Rattle.floor_wire.specs.AttrsCode.{items-attributes_of}
use Rattle.floor_message.specs.Picked.{first, pairs, octet_strings, groups, if_kind, number_in, pair_in, group_in, octets_in}
use Rattle.floor_message.specs.Written.{optional, octets, number, group, status_attr, who_attr, floor_attr, overall_inside, overall_attrs, priority_attr, info_attrs, info_attr, tell_attrs, tell_primitive}
use Rattle.floor_message.specs.Fields.{priority_of, overall_reason}
use Rattle.floor_message.specs.Tell.{who_of, floor_of, overall_of, info_of, tell_of}
use Rattle.floor_message.specs.declared.primitive.Primitive.TheVariants as primitive
use Rattle.floor_message.specs.Fits.{PriorityFits, NumbersFit}
use Rattle.floor_message.specs.declared.tell.Tell.{Tell}
use Rattle.floor_message.specs.declared.tell.Tell.TheVariants.{FloorRequestStatus, UserStatus, FloorStatus, ChairActionAck, HelloAck, Error}
use Rattle.floor_message.specs.declared.information.Who.{Who}
use Rattle.floor_message.specs.declared.information.Info.{Info}

cons_append : {A : Type 0} (o : Option A) (xs ys : List A) → cons_option o (xs ++ ys) ≡ cons_option o xs ++ ys
cons_append None xs ys = refl
cons_append (Some a) xs ys = refl

pub picked_append : {A : Type 0} (f : Attr → Option A) (xs ys : List Attr) → filter_map f (xs ++ ys) ≡ filter_map f xs ++ filter_map f ys
picked_append f [] ys = refl
picked_append f (x ∷ xs) ys = ap (λ l. cons_option (f x) l) (picked_append f xs ys) ∙ cons_append (f x) (filter_map f xs) (filter_map f ys)

-- attributes of which f picks nothing, each
pub none_picked : {A B : Type 0} (f : Attr → Option A) (g : B → Attr) → ((b : B) → f (g b) ≡ None) → (bs : List B) → filter_map f (map g bs) ≡ []
none_picked f g h [] = refl
none_picked f g h (b ∷ bs) = rw (h b) (none_picked f g h bs)

pub all_picked : {A B : Type 0} (f : Attr → Option A) (g : B → Attr) (p : B → A) → ((b : B) → f (g b) ≡ Some (p b)) → (bs : List B) → filter_map f (map g bs) ≡ map p bs
all_picked f g p h [] = refl
all_picked f g p h (b ∷ bs) = rw (h b) (ap (λ l. p b ∷ l) (all_picked f g p h bs))

-- a user's group is read as that user
who_back : (w : Who) → who_of (w.user, items (attributes_of (optional (octets 12) w.name ++ optional (octets 13) w.uri))) ≡ w
who_back w = rw (items-attributes_of (optional (octets 12) w.name ++ optional (octets 13) w.uri)) (by_parts w.user w.name w.uri) where
  by_parts : (u : ℕ) (n m : Option (List ℕ)) → who_of (u, optional (octets 12) n ++ optional (octets 13) m) ≡ record { user = u; name = n; uri = m }
  by_parts u None None = refl
  by_parts u None (Some m) = refl
  by_parts u (Some n) None = refl
  by_parts u (Some n) (Some m) = refl

-- a floor's group is read as that floor
floor_back : (n : ℕ) (s : Option (ℕ × ℕ)) → floor_of (n, items (attributes_of (optional status_attr s))) ≡ (n, s)
floor_back n None = refl
floor_back n (Some s) = refl

priority_back : (p : Option ℕ) → IfSome p (λ n. n ≤ 4) → option_map priority_of (option_map (λ n. (32 * n, 0)) p) ≡ p
priority_back None h = refl
priority_back (Some n) h = ap Some (let e : min (32 * n / 32) 4 ≡ n = omega (arith, h) in e)

floors_back : (fs : List (ℕ × Option (ℕ × ℕ))) → map floor_of (groups 17 (map floor_attr fs)) ≡ fs
floors_back [] = refl
floors_back (f ∷ fs) = ap (λ x. x ∷ map floor_of (groups 17 (map floor_attr fs))) (floor_back f.0 f.1) ∙ ap (λ l. f ∷ l) (floors_back fs)

-- the six parts of FLOOR-REQUEST-INFORMATION, with the one that f picks from
module _ (i : Info) where
  abbrev overall_part : List Attr
  overall_part = overall_attrs i.request i.overall i.reason

  abbrev floors_part : List Attr
  floors_part = map floor_attr i.floors

  abbrev beneficiary_part : List Attr
  beneficiary_part = optional (who_attr 14) i.beneficiary

  abbrev requester_part : List Attr
  requester_part = optional (who_attr 16) i.requester

  abbrev priority_part : List Attr
  priority_part = optional priority_attr i.priority

  abbrev info_part : List Attr
  info_part = optional (octets 8) i.info

  parts : {A : Type 0} (f : Attr → Option A)
      → filter_map f (info_attrs i) ≡ filter_map f overall_part ++ filter_map f floors_part ++ filter_map f beneficiary_part
      ++ filter_map f requester_part ++ filter_map f priority_part ++ filter_map f info_part
  parts f =
      picked_append f (overall_part ++ floors_part ++ beneficiary_part ++ requester_part ++ priority_part) info_part
      ∙ ap (λ l. l ++ filter_map f info_part) (picked_append f (overall_part ++ floors_part ++ beneficiary_part ++ requester_part) priority_part
      ∙ ap (λ l. l ++ filter_map f priority_part) (picked_append f (overall_part ++ floors_part ++ beneficiary_part) requester_part
      ∙ ap (λ l. l ++ filter_map f requester_part) (picked_append f (overall_part ++ floors_part) beneficiary_part
      ∙ ap (λ l. l ++ filter_map f beneficiary_part) (picked_append f overall_part floors_part))))

  picks : {A : Type 0} (f : Attr → Option A) (a b c d e g : List A) → filter_map f overall_part ≡ a → filter_map f floors_part ≡ b → filter_map f beneficiary_part ≡ c
      → filter_map f requester_part ≡ d → filter_map f priority_part ≡ e → filter_map f info_part ≡ g → filter_map f (info_attrs i) ≡ a ++ b ++ c ++ d ++ e ++ g
  picks f a b c d e g p q r s t u = parts f
      ∙ ap (λ x. x ++ filter_map f floors_part ++ filter_map f beneficiary_part ++ filter_map f requester_part ++ filter_map f priority_part ++ filter_map f info_part) p
      ∙ ap (λ x. a ++ x ++ filter_map f beneficiary_part ++ filter_map f requester_part ++ filter_map f priority_part ++ filter_map f info_part) q
      ∙ ap (λ x. a ++ b ++ x ++ filter_map f requester_part ++ filter_map f priority_part ++ filter_map f info_part) r
      ∙ ap (λ x. a ++ b ++ c ++ x ++ filter_map f priority_part ++ filter_map f info_part) s
      ∙ ap (λ x. a ++ b ++ c ++ d ++ x ++ filter_map f info_part) t
      ∙ ap (λ x. a ++ b ++ c ++ d ++ e ++ x) u

pub one_none : {A B : Type 0} (f : Attr → Option A) (g : B → Attr) → ((b : B) → f (g b) ≡ None) → (o : Option B) → filter_map f (optional g o) ≡ []
one_none f g h None = refl
one_none f g h (Some b) = ap (λ x. cons_option x []) (h b)

pub one_some : {A B : Type 0} (f : Attr → Option A) (g : B → Attr) (p : B → A) → ((b : B) → f (g b) ≡ Some (p b)) → (o : Option B) → filter_map f (optional g o) ≡ option_to_list (option_map p o)
one_some f g p h None = refl
one_some f g p h (Some b) = ap (λ x. cons_option x []) (h b)

pub first_of_option : {A : Type 0} (o : Option A) → first (option_to_list o) ≡ o
first_of_option None = refl
first_of_option (Some a) = refl

abbrev overall_group : ℕ → Option (ℕ × ℕ) → Option (List ℕ) → ℕ × List Attr
overall_group r status reason = (r, items (attributes_of (overall_inside status reason)))

-- the group of the overall status, where it holds anything
abbrev pub overall_groups : ℕ → Option (ℕ × ℕ) → Option (List ℕ) → List (ℕ × List Attr)
overall_groups r None None = []
overall_groups r None (Some reason) = overall_group r None (Some reason) ∷ []
overall_groups r (Some status) reason = overall_group r (Some status) reason ∷ []

pub overall_picked : (r : ℕ) (status : Option (ℕ × ℕ)) (reason : Option (List ℕ)) → groups 18 (overall_attrs r status reason) ≡ overall_groups r status reason
overall_picked r None None = refl
overall_picked r None (Some reason) = refl
overall_picked r (Some status) reason = refl

-- nothing of another type is picked there
pub overall_passed : {A : Type 0} (f : Attr → Option A) → ((n : ℕ) (inside : List Attr) → f (group 18 n inside) ≡ None) → (r : ℕ) (status : Option (ℕ × ℕ)) (reason : Option (List ℕ))
    → filter_map f (overall_attrs r status reason) ≡ []
overall_passed f h r None None = refl
overall_passed f h r None (Some reason) = ap (λ x. cons_option x []) (h r (overall_inside None (Some reason)))
overall_passed f h r (Some status) reason = ap (λ x. cons_option x []) (h r (overall_inside (Some status) reason))

abbrev who_group : Who → ℕ × List Attr
who_group w = (w.user, items (attributes_of (optional (octets 12) w.name ++ optional (octets 13) w.uri)))

abbrev floor_group : ℕ × Option (ℕ × ℕ) → ℕ × List Attr
floor_group f = (f.0, items (attributes_of (optional status_attr f.1)))

overall_read : (i : Info) → groups 18 (info_attrs i) ≡ overall_groups i.request i.overall i.reason
overall_read i =
    let f = if_kind group_in 18 in
    picks i f (overall_groups i.request i.overall i.reason) [] [] [] [] []
    (overall_picked i.request i.overall i.reason) (none_picked f floor_attr (λ b. refl) i.floors)
    (one_none f (who_attr 14) (λ b. refl) i.beneficiary) (one_none f (who_attr 16) (λ b. refl) i.requester) (one_none f priority_attr (λ b. refl) i.priority)
    (one_none f (octets 8) (λ b. refl) i.info)
    ∙ simp append-nil

overall_back : (i : Info) → overall_of (info_attrs i) ≡ i.overall
overall_back i =
    ap (λ gs. option_and_then (λ o. first (pairs 5 o.1)) (first gs)) (overall_read i) ∙ by_case i.request i.overall i.reason where
      by_case : (r : ℕ) (status : Option (ℕ × ℕ)) (reason : Option (List ℕ)) → option_and_then (λ o. first (pairs 5 o.1)) (first (overall_groups r status reason)) ≡ status
      by_case r None None = refl
      by_case r None (Some reason) = refl
      by_case r (Some status) None = refl
      by_case r (Some status) (Some reason) = refl

reason_back : (i : Info) → overall_reason (info_attrs i) ≡ i.reason
reason_back i =
    ap (λ gs. option_and_then (λ o. first (octet_strings 9 o.1)) (first gs)) (overall_read i) ∙ by_case i.request i.overall i.reason where
      by_case : (r : ℕ) (status : Option (ℕ × ℕ)) (reason : Option (List ℕ)) → option_and_then (λ o. first (octet_strings 9 o.1)) (first (overall_groups r status reason)) ≡ reason
      by_case r None None = refl
      by_case r None (Some reason) = refl
      by_case r (Some status) None = refl
      by_case r (Some status) (Some reason) = refl

floors_read : (i : Info) → map floor_of (groups 17 (info_attrs i)) ≡ i.floors
floors_read i =
    let f = if_kind group_in 17 in
    ap (λ l. map floor_of l)
    (picks i f [] (groups 17 (map floor_attr i.floors)) [] [] [] []
    (overall_passed f (λ n inside. refl) i.request i.overall i.reason) refl
    (one_none f (who_attr 14) (λ b. refl) i.beneficiary) (one_none f (who_attr 16) (λ b. refl) i.requester) (one_none f priority_attr (λ b. refl) i.priority)
    (one_none f (octets 8) (λ b. refl) i.info)
    ∙ simp append-nil)
    ∙ floors_back i.floors

who_read : (o : Option Who) → option_map who_of (first (option_to_list (option_map who_group o))) ≡ o
who_read None = refl
who_read (Some w) = ap Some (who_back w)

beneficiary_back : (i : Info) → option_map who_of (first (groups 14 (info_attrs i))) ≡ i.beneficiary
beneficiary_back i =
    let f = if_kind group_in 14 in
    ap (λ l. option_map who_of (first l))
    (picks i f [] [] (option_to_list (option_map who_group i.beneficiary)) [] [] []
    (overall_passed f (λ n inside. refl) i.request i.overall i.reason) (none_picked f floor_attr (λ b. refl) i.floors)
    (one_some f (who_attr 14) who_group (λ b. refl) i.beneficiary) (one_none f (who_attr 16) (λ b. refl) i.requester) (one_none f priority_attr (λ b. refl) i.priority)
    (one_none f (octets 8) (λ b. refl) i.info)
    ∙ simp append-nil)
    ∙ who_read i.beneficiary

requester_back : (i : Info) → option_map who_of (first (groups 16 (info_attrs i))) ≡ i.requester
requester_back i =
    let f = if_kind group_in 16 in
    ap (λ l. option_map who_of (first l))
    (picks i f [] [] [] (option_to_list (option_map who_group i.requester)) [] []
    (overall_passed f (λ n inside. refl) i.request i.overall i.reason) (none_picked f floor_attr (λ b. refl) i.floors)
    (one_none f (who_attr 14) (λ b. refl) i.beneficiary) (one_some f (who_attr 16) who_group (λ b. refl) i.requester) (one_none f priority_attr (λ b. refl) i.priority)
    (one_none f (octets 8) (λ b. refl) i.info)
    ∙ simp append-nil)
    ∙ who_read i.requester

priority_read : (i : Info) → PriorityFits i → option_map priority_of (first (pairs 4 (info_attrs i))) ≡ i.priority
priority_read i h =
    let f = if_kind pair_in 4 in
    ap (λ l. option_map priority_of (first l))
    (picks i f [] [] [] [] (option_to_list (option_map (λ n. (32 * n, 0)) i.priority)) []
    (overall_passed f (λ n inside. refl) i.request i.overall i.reason) (none_picked f floor_attr (λ b. refl) i.floors)
    (one_none f (who_attr 14) (λ b. refl) i.beneficiary) (one_none f (who_attr 16) (λ b. refl) i.requester) (one_some f priority_attr (λ n. (32 * n, 0)) (λ b. refl) i.priority)
    (one_none f (octets 8) (λ b. refl) i.info)
    ∙ simp append-nil)
    ∙ ap (λ o. option_map priority_of o) (first_of_option (option_map (λ n. (32 * n, 0)) i.priority))
    ∙ priority_back i.priority h

info_read : (i : Info) → first (octet_strings 8 (info_attrs i)) ≡ i.info
info_read i =
    let f = if_kind octets_in 8 in
    ap (λ l. first l)
    (picks i f [] [] [] [] [] (option_to_list (option_map (λ b. b) i.info))
    (overall_passed f (λ n inside. refl) i.request i.overall i.reason) (none_picked f floor_attr (λ b. refl) i.floors)
    (one_none f (who_attr 14) (λ b. refl) i.beneficiary) (one_none f (who_attr 16) (λ b. refl) i.requester) (one_none f priority_attr (λ b. refl) i.priority)
    (one_some f (octets 8) (λ b. b) (λ b. refl) i.info))
    ∙ by_case i.info where
      by_case : (o : Option (List ℕ)) → first ([] ++ [] ++ [] ++ [] ++ [] ++ option_to_list (option_map (λ b. b) o)) ≡ o
      by_case None = refl
      by_case (Some b) = refl

abbrev made : ℕ → Option (ℕ × ℕ) → Option (List ℕ) → List (ℕ × Option (ℕ × ℕ)) → Option Who → Option Who → Option ℕ → Option (List ℕ) → Info
made r o w f b q p n = record { request = r; overall = o; reason = w; floors = f; beneficiary = b; requester = q; priority = p; info = n }

-- a request's group is read as that request
info_back : (i : Info) → PriorityFits i → info_of (i.request, items (attributes_of (info_attrs i))) ≡ i
info_back i h =
    let a = info_attrs i in
    let floors = map floor_of (groups 17 a) in
    let beneficiary = option_map who_of (first (groups 14 a)) in
    let requester = option_map who_of (first (groups 16 a)) in
    let priority = option_map priority_of (first (pairs 4 a)) in
    let text = first (octet_strings 8 a) in
    ap (λ x. info_of (i.request, x)) (items-attributes_of a)
    ∙ ap (λ x. made i.request x (overall_reason a) floors beneficiary requester priority text) (overall_back i)
    ∙ ap (λ x. made i.request i.overall x floors beneficiary requester priority text) (reason_back i)
    ∙ ap (λ x. made i.request i.overall i.reason x beneficiary requester priority text) (floors_read i)
    ∙ ap (λ x. made i.request i.overall i.reason i.floors x requester priority text) (beneficiary_back i)
    ∙ ap (λ x. made i.request i.overall i.reason i.floors i.beneficiary x priority text) (requester_back i)
    ∙ ap (λ x. made i.request i.overall i.reason i.floors i.beneficiary i.requester x text) (priority_read i h)
    ∙ ap (λ x. made i.request i.overall i.reason i.floors i.beneficiary i.requester i.priority x) (info_read i)

infos_back : (is : List Info) → All PriorityFits is → map info_of (groups 15 (map info_attr is)) ≡ is
infos_back [] h = refl
infos_back (i ∷ is) h =
    ap (λ x. x ∷ map info_of (groups 15 (map info_attr is))) (info_back i (h 0 i (omega arith)))
    ∙ ap (λ l. i ∷ l) (infos_back is (λ k d l. h (suc k) d (omega arith)))

halves : (a : List ℕ) → map (λ b. b / 2) (map (λ t. 2 * t) a) ≡ a
halves [] = refl
halves (x ∷ xs) = ap (λ n. n ∷ map (λ b. b / 2) (map (λ t. 2 * t) xs)) (let e : 2 * x / 2 ≡ x = omega arith in e) ∙ ap (λ l. x ∷ l) (halves xs)

user_back : (who : Option Who) (infos : List Info) → All PriorityFits infos → tell_of primitive.UserStatus (optional (who_attr 14) who ++ map info_attr infos) ≡ Some (UserStatus who infos)
user_back None infos h =
    ap (λ l. Some (UserStatus (option_map who_of (first l)) (map info_of (groups 15 (map info_attr infos))))) (none_picked (if_kind group_in 14) info_attr (λ b. refl) infos)
    ∙ ap (λ l. Some (UserStatus None l)) (infos_back infos h)
user_back (Some w) infos h =
    ap (λ x. Some (UserStatus (Some x) (map info_of (groups 15 (map info_attr infos))))) (who_back w)
    ∙ ap (λ l. Some (UserStatus (Some w) l)) (infos_back infos h)

floor_status_back : (floor : Option ℕ) (infos : List Info) → All PriorityFits infos → tell_of primitive.FloorStatus (optional (number 2) floor ++ map info_attr infos) ≡ Some (FloorStatus floor infos)
floor_status_back None infos h =
    ap (λ l. Some (FloorStatus (first l) (map info_of (groups 15 (map info_attr infos))))) (none_picked (if_kind number_in 2) info_attr (λ b. refl) infos)
    ∙ ap (λ l. Some (FloorStatus None l)) (infos_back infos h)
floor_status_back (Some f) infos h = ap (λ l. Some (FloorStatus (Some f) l)) (infos_back infos h)

pub tell_back : (tell : Tell) → NumbersFit tell → tell_of (tell_primitive tell) (tell_attrs tell) ≡ Some tell
tell_back (FloorRequestStatus i) h = ap (λ x. Some (FloorRequestStatus x)) (info_back i h)
tell_back (UserStatus who infos) h = user_back who infos h
tell_back (FloorStatus floor infos) h = floor_status_back floor infos h
tell_back ChairActionAck h = refl
tell_back (HelloAck primitives attributes) h = ap (λ l. Some (HelloAck primitives l)) (halves attributes)
tell_back (Error code details) h = refl
