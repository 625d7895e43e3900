-- One conference among others goes as it would alone.
use Rattle.std.proofs.Common.{◌≡◌, ◌≢◌, ◌⊎◌, inl, inr, ℕ, zero, suc, ◌+◌, ◌<◌, ◌≤◌, Bool, true, false, List, [], ◌∷◌, ◌++◌, length, get_or, refl, sym, ◌∙◌, ap, subst, arith, rules, length-append, Some, None}
use Rattle.std.specs.Prelude.{Option, not, ◌==◌, slice_get}
use Rattle.std.specs.Option.{option_map_or}
use Rattle.std.proofs.lemmas.Bool.{eqb-true, eqb-false}
use Rattle.std.proofs.lemmas.Map.{update_here, update_apart}
use Rattle.floor_machine.specs.declared.event.Event.{Event}
use Rattle.floor_machine.specs.declared.event.Event.TheVariants.{Join, Message, Took as Takes, Say as Says}
use Rattle.std.proofs.lemmas.Option.{slice_get-get_or, slice_get_past}
use Rattle.std.proofs.Math.Seq.{get_or-append_seam}
use Rattle.std.proofs.Math.ListN.{get_or-append}
use Rattle.floor_room.specs.declared.refusal.RoomRefusal.{RoomRefusal}
use Rattle.floor_hub.specs.declared.refusal.HubRefusal.{HubRefusal}
use Rattle.floor_hub.specs.declared.refusal.HubRefusal.TheVariants.{NoConnection}
use Rattle.floor_hub.specs.declared.step.Step.{Step}
use Rattle.floor_hub.specs.declared.step.Step.TheVariants.{Open, Attach, Piece, Serve, Took, Leave, Admin, Say}
use Rattle.floor_hub.specs.declared.step.Answer.{Answer}
use Rattle.floor_hub.specs.declared.step.Answer.TheVariants.{Done, Attached, Nothing, Served, Said, Refused}
use Rattle.floor_hub.specs.World as world
use Rattle.floor_hub.specs.World.{Part, Arrival, World, Place, Aim, Turn, Offered, offer, turn, turn_at, aim, aimed, put, place, numbered, places_after, nothing}
use Rattle.floor_hub.specs.Runs.{run, within, own, own_answer, alone_in, answers, answers_to, events_in}
use Rattle.floor_machine.specs.Machine.{event_of_act}
use Rattle.floor_hub.specs.Kept.{arrivals_in}
use Rattle.floor_hub.specs.Laws.{AnswersAlone, EventsAlone}

-- an attach gets the next n; nothing else makes an arrival
abbrev pub Counts : ℕ → Answer → ℕ → Type 0
Counts k (Attached n) l = (n ≡ k + 1) × (l ≡ k + 1)
Counts k Done l = l ≡ k
Counts k Nothing l = l ≡ k
Counts k Served l = l ≡ k
Counts k (Said v) l = l ≡ k
Counts k (Refused r) l = l ≡ k

abbrev pub CountsOffer : ℕ → Offered → Type 0
CountsOffer k o = Counts k o.answer (arrivals_in o.part)

attach_counts : (p : Part) (user : ℕ) (r : Option RoomRefusal) → CountsOffer (length p.arrivals) (world.attach p user r)
attach_counts p user None = (refl, length-append p.arrivals _)
attach_counts p user (Some r) = refl

set_counts : (xs : List Arrival) (n : ℕ) (a : Arrival) → length (world.set_arrival xs n a) ≡ length xs
set_counts xs zero a = refl
set_counts xs (suc k) a = search rules

piece_counts : (p : Part) (n : ℕ) (bytes : List ℕ) (a : Option Arrival) → CountsOffer (length p.arrivals) (world.piece p n bytes a)
piece_counts p n bytes None = refl
piece_counts p n bytes (Some a) = set_counts p.arrivals n _

message_counts : (p : Part) (n : ℕ) (a : Arrival) (m : List ℕ) (r : Option RoomRefusal) → CountsOffer (length p.arrivals) (world.take_message p n a m r)
message_counts p n a m (Some r) = refl
message_counts p n a m None = set_counts p.arrivals n _

serve_counts : (p : Part) (n : ℕ) (a : Arrival) (m : Option (List ℕ)) → CountsOffer (length p.arrivals) (world.serve_message p n a m)
serve_counts p n a None = refl
serve_counts p n a (Some m) = message_counts p n a m (world.refused p (Message n m))

ended_counts : (p : Part) (n : ℕ) (a : Arrival) (ended : Bool) → not (world.state_of p).is_open ≡ ended
    → CountsOffer (length p.arrivals) (world.serve p n (Some a))
ended_counts p n a true e = rw e refl
ended_counts p n a false e = rw e (serve_counts p n a (world.unserved a))

any_serve_counts : (p : Part) (n : ℕ) (a : Option Arrival) → CountsOffer (length p.arrivals) (world.serve p n a)
any_serve_counts p n None = refl
any_serve_counts p n (Some a) = ended_counts p n a (not (world.state_of p).is_open) refl

leave_counts : (p : Part) (n : ℕ) (a : Option Arrival) → CountsOffer (length p.arrivals) (world.leave p n a)
leave_counts p n None = refl
leave_counts p n (Some a) = set_counts p.arrivals n _

added_counts : (p : Part) (e : Event) (r : Option RoomRefusal) → CountsOffer (length p.arrivals) (world.add_event p e r)
added_counts p e None = refl
added_counts p e (Some r) = refl

took_counts : (p : Part) (n k : ℕ) (a : Option Arrival) → CountsOffer (length p.arrivals) (world.took p n k a)
took_counts p n k None = refl
took_counts p n k (Some a) = added_counts p (Takes n k) (world.refused p (Takes n k))

said_counts : (p : Part) (user : ℕ) (bytes : List ℕ) (r : Option HubRefusal) → CountsOffer (length p.arrivals) (world.say p user bytes r)
said_counts p user bytes None = refl
said_counts p user bytes (Some r) = refl

pub offer_counts : (part : Option Part) (s : Step) → CountsOffer (arrivals_in part) (offer part s)
offer_counts None (Open config) = refl
offer_counts None (Attach c user) = refl
offer_counts None (Piece n bytes) = refl
offer_counts None (Serve n) = refl
offer_counts None (Took n k) = refl
offer_counts None (Leave n) = refl
offer_counts None (Admin c act) = refl
offer_counts None (Say c user bytes) = refl
offer_counts (Some p) (Open config) = refl
offer_counts (Some p) (Attach c user) = attach_counts p user (world.refused p (Join user))
offer_counts (Some p) (Piece n bytes) = piece_counts p n bytes (world.if_live (world.arrival p n))
offer_counts (Some p) (Serve n) = any_serve_counts p n (world.if_live (world.arrival p n))
offer_counts (Some p) (Took n k) = took_counts p n k (world.if_live (world.arrival p n))
offer_counts (Some p) (Leave n) = leave_counts p n (world.if_live (world.arrival p n))
offer_counts (Some p) (Admin c act) = added_counts p (event_of_act act) (world.refused p (event_of_act act))
offer_counts (Some p) (Say c user bytes) = said_counts p user bytes (world.unsaid (world.refused p (Says user bytes)) (world.is_message bytes))

-- the places of a conference that is alone
abbrev pub solo : ℕ → ℕ → List Place
solo c zero = []
solo c (suc k) = solo c k ++ record { conference = c; n = suc k } ∷ []

length_solo : (c k : ℕ) → length (solo c k) ≡ k
length_solo c zero = refl
length_solo c (suc k) = omega (arith, length_solo c k, length-append (solo c k) (record { conference = c; n = suc k } ∷ []))

get_last : (ps : List Place) (x : Place) → slice_get (ps ++ x ∷ []) (length ps) ≡ Some x
get_last ps x =
    slice_get-get_or (ps ++ x ∷ []) (length ps) x (omega (arith, length-append ps (x ∷ [])))
    ∙ ap Some (get_or-append_seam ps x [] x)

pub last_place : (ps : List Place) (x : Place) (k : ℕ) → k ≡ length ps + 1 → place (ps ++ x ∷ []) k ≡ Some x
last_place ps x zero e = absurd (omega (arith, e))
last_place ps x (suc k) e = let same : k ≡ length ps = omega arith in rw same (get_last ps x)

-- v is what w has of c
pub record Same (c : ℕ) (w v : World) : Type 0 where
  pub part : v.parts c ≡ w.parts c
  pub places : v.places ≡ solo c (arrivals_in (w.parts c))

-- a step for another conference leaves c's part
step_apart : (c : ℕ) (w v : World) (d : ℕ) (o : Offered) → c ≢ d → Same c w v → Same c (put w d o).world v
step_apart c w v d o ne same = record {
  part = same.part ∙ sym (update_apart w.parts d o.part c ne);
  places = same.places ∙ sym (ap (λ p. solo c (arrivals_in p)) (update_apart w.parts d o.part c ne));
}

places_own : (c k l : ℕ) (a : Answer) → Counts k a l → places_after (solo c k) c a ≡ solo c l
places_own c k l (Attached n) h =
    let next : n ≡ suc k = omega (arith, h.0) in
    let more : l ≡ suc k = omega (arith, h.1) in
    ap (λ m. solo c k ++ record { conference = c; n = m } ∷ []) next ∙ sym (ap (solo c) more)
places_own c k l Done h = sym (ap (solo c) h)
places_own c k l Nothing h = sym (ap (solo c) h)
places_own c k l Served h = sym (ap (solo c) h)
places_own c k l (Said v) h = sym (ap (solo c) h)
places_own c k l (Refused r) h = sym (ap (solo c) h)

-- a step for c does the same to both
pub step_own : (c : ℕ) (w v : World) (o : Offered) → CountsOffer (arrivals_in (w.parts c)) o → Same c w v → Same c (put w c o).world (put v c o).world
step_own c w v o counts same = record {
  part = update_here v.parts c o.part ∙ sym (update_here w.parts c o.part);
  places = ap (λ ps. places_after ps c o.answer) same.places ∙ places_own c (arrivals_in (w.parts c)) (arrivals_in o.part) o.answer counts
      ∙ sym (ap (λ p. solo c (arrivals_in p)) (update_here w.parts c o.part));
}

numbers_agree : (c k l : ℕ) (ps : List Place) (a : Answer) → Counts k a l → numbered (solo c k) a ≡ within (places_after ps c a) (numbered ps a)
numbers_agree c k l ps (Attached n) h =
    let last : place (ps ++ record { conference = c; n = n } ∷ []) (length ps + 1) ≡ Some record { conference = c; n = n } = last_place ps _ _ refl in
    let len : length (solo c k) + 1 ≡ n = omega (arith, length_solo c k, h.0) in
    ap Attached len ∙ sym (ap (λ x. option_map_or (λ p. Attached p.n) x (Attached 0)) last)
numbers_agree c k l ps Done h = refl
numbers_agree c k l ps Nothing h = refl
numbers_agree c k l ps Served h = refl
numbers_agree c k l ps (Said v) h = refl
numbers_agree c k l ps (Refused r) h = refl

answer_own : (c : ℕ) (w v : World) (o : Offered) → CountsOffer (arrivals_in (w.parts c)) o → Same c w v → (put v c o).answer ≡ within (put w c o).world.places (put w c o).answer
answer_own c w v o counts same =
    ap (λ ps. numbered ps o.answer) same.places ∙ numbers_agree c (arrivals_in (w.parts c)) (arrivals_in o.part) w.places o.answer counts

-- the step bears the conference that it is for
abbrev pub IsFor : ℕ → Step → Type 0
IsFor c (Open config) = config.conference ≡ c
IsFor c (Attach d user) = d ≡ c
IsFor c (Piece n bytes) = Unit {0}
IsFor c (Serve n) = Unit {0}
IsFor c (Took n k) = Unit {0}
IsFor c (Leave n) = Unit {0}
IsFor c (Admin d act) = d ≡ c
IsFor c (Say d user bytes) = d ≡ c

abbrev pub IsAim : Option Aim → Type 0
IsAim None = Unit {0}
IsAim (Some a) = IsFor a.conference a.step

piece_aims : (bytes : List ℕ) (p : Option Place) → IsAim (aim (λ n. Piece n bytes) p)
piece_aims bytes None = tt
piece_aims bytes (Some p) = tt

serve_aims : (p : Option Place) → IsAim (aim Serve p)
serve_aims None = tt
serve_aims (Some p) = tt

took_aims : (k : ℕ) (p : Option Place) → IsAim (aim (λ n. Took n k) p)
took_aims k None = tt
took_aims k (Some p) = tt

leave_aims : (p : Option Place) → IsAim (aim Leave p)
leave_aims None = tt
leave_aims (Some p) = tt

pub aims : (w : World) (s : Step) → IsAim (aimed w s)
aims w (Open config) = refl
aims w (Attach d user) = refl
aims w (Piece n bytes) = piece_aims bytes (place w.places n)
aims w (Serve n) = serve_aims (place w.places n)
aims w (Took n k) = took_aims k (place w.places n)
aims w (Leave n) = leave_aims (place w.places n)
aims w (Admin d act) = refl
aims w (Say d user bytes) = refl

-- a number in the conference alone is n, or nobody's
abbrev pub IsKnown : ℕ → ℕ → ℕ → Option Place → Type 0
IsKnown c k n p = (p ≡ Some record { conference = c; n = n }) ⊎ ((p ≡ None) × ((part : Part) → length part.arrivals ≡ k → world.arrival part n ≡ None))

lt_or_le : (j k : ℕ) → (j < k) ⊎ (k ≤ j)
lt_or_le zero zero = inr (omega arith)
lt_or_le zero (suc k) = inl (omega arith)
lt_or_le (suc j) zero = inr (omega arith)
lt_or_le (suc j) (suc k) = elim (lt_or_le j k) [ inl h ↦ inl (omega arith) | inr h ↦ inr (omega arith) ]

get_solo : (c k j : ℕ) (d : Place) → j < k → get_or (solo c k) j d ≡ record { conference = c; n = suc j }
get_solo c zero j d h = absurd (omega arith)
get_solo c (suc k) j d h = elim (lt_or_le j k) [
  | inl less ↦
      let within : j < length (solo c k) = omega (arith, less, length_solo c k) in
      get_or-append (solo c k) (record { conference = c; n = suc k } ∷ []) d j within ∙ get_solo c k j d less
  | inr more ↦
      let same : j ≡ k = omega (arith, more, h) in
      let at_end : j ≡ length (solo c k) = omega (arith, same, length_solo c k) in
      ap (λ i. get_or (solo c (suc k)) i d) at_end ∙ get_or-append_seam (solo c k) (record { conference = c; n = suc k }) [] d
      ∙ ap (λ i. record { conference = c; n = suc i }) (sym same)
]

pub known : (c k n : ℕ) → IsKnown c k n (place (solo c k) n)
known c k zero = inr (refl, λ part h. refl)
known c k (suc j) = elim (lt_or_le j k) [
  | inl less ↦
      let within : j < length (solo c k) = omega (arith, less, length_solo c k) in
      let d : Place = record { conference = c; n = suc j } in
      inl (slice_get-get_or (solo c k) j d within ∙ ap Some (get_solo c k j d less))
  | inr more ↦ inr (slice_get_past (solo c k) j (omega (arith, more, length_solo c k)), λ part h. slice_get_past part.arrivals j (omega (arith, more, h)))
]

-- what is aimed at c is aimed so in the world of c alone, or at nobody
abbrev pub IsAimedAlone : ℕ → Option Part → Step → Option Aim → Type 0
IsAimedAlone c part s x = (x ≡ Some record { conference = c; step = s }) ⊎ ((x ≡ None) × (offer part s ≡ world.refuses part NoConnection))

piece_alone : (c : ℕ) (part : Option Part) (n : ℕ) (bytes : List ℕ) (p : Option Place) → IsKnown c (arrivals_in part) n p
    → IsAimedAlone c part (Piece n bytes) (aim (λ m. Piece m bytes) p)
piece_alone c part n bytes p (inl e) = inl (ap (aim (λ m. Piece m bytes)) e)
piece_alone c None n bytes p (inr h) = inr (ap (aim (λ m. Piece m bytes)) h.0, refl)
piece_alone c (Some part) n bytes p (inr h) = inr (ap (aim (λ m. Piece m bytes)) h.0, ap (λ a. world.piece part n bytes (world.if_live a)) (h.1 part refl))

serve_alone : (c : ℕ) (part : Option Part) (n : ℕ) (p : Option Place) → IsKnown c (arrivals_in part) n p
    → IsAimedAlone c part (Serve n) (aim Serve p)
serve_alone c part n p (inl e) = inl (ap (aim Serve) e)
serve_alone c None n p (inr h) = inr (ap (aim Serve) h.0, refl)
serve_alone c (Some part) n p (inr h) = inr (ap (aim Serve) h.0, ap (λ a. world.serve part n (world.if_live a)) (h.1 part refl))

took_alone : (c : ℕ) (part : Option Part) (n k : ℕ) (p : Option Place) → IsKnown c (arrivals_in part) n p
    → IsAimedAlone c part (Took n k) (aim (λ m. Took m k) p)
took_alone c part n k p (inl e) = inl (ap (aim (λ m. Took m k)) e)
took_alone c None n k p (inr h) = inr (ap (aim (λ m. Took m k)) h.0, refl)
took_alone c (Some part) n k p (inr h) = inr (ap (aim (λ m. Took m k)) h.0, ap (λ a. world.took part n k (world.if_live a)) (h.1 part refl))

leave_alone : (c : ℕ) (part : Option Part) (n : ℕ) (p : Option Place) → IsKnown c (arrivals_in part) n p
    → IsAimedAlone c part (Leave n) (aim Leave p)
leave_alone c part n p (inl e) = inl (ap (aim Leave) e)
leave_alone c None n p (inr h) = inr (ap (aim Leave) h.0, refl)
leave_alone c (Some part) n p (inr h) = inr (ap (aim Leave) h.0, ap (λ a. world.leave part n (world.if_live a)) (h.1 part refl))

aimed_alone : (c : ℕ) (part : Option Part) (v : World) (s : Step) → v.places ≡ solo c (arrivals_in part) → IsFor c s → IsAimedAlone c part s (aimed v s)
aimed_alone c part v (Open config) e h = inl (ap (λ d. Some record { conference = d; step = Open config }) h)
aimed_alone c part v (Attach d user) e h = inl (ap (λ x. Some record { conference = x; step = Attach d user }) h)
aimed_alone c part v (Piece n bytes) e h = rw e (piece_alone c part n bytes (place (solo c (arrivals_in part)) n) (known c (arrivals_in part) n))
aimed_alone c part v (Serve n) e h = rw e (serve_alone c part n (place (solo c (arrivals_in part)) n) (known c (arrivals_in part) n))
aimed_alone c part v (Took n k) e h = rw e (took_alone c part n k (place (solo c (arrivals_in part)) n) (known c (arrivals_in part) n))
aimed_alone c part v (Leave n) e h = rw e (leave_alone c part n (place (solo c (arrivals_in part)) n) (known c (arrivals_in part) n))
aimed_alone c part v (Admin d act) e h = inl (ap (λ x. Some record { conference = x; step = Admin d act }) h)
aimed_alone c part v (Say d user bytes) e h = inl (ap (λ x. Some record { conference = x; step = Say d user bytes }) h)

-- what a step for c does in the world of c alone
pub record SameTurn (c : ℕ) (w v : Turn) : Type 0 where
  pub world : Same c w.world v.world
  pub answer : v.answer ≡ within w.world.places w.answer

turn_alone : (c : ℕ) (w v : World) (s : Step) (x : Option Aim) → Same c w v → IsAimedAlone c (w.parts c) s x
    → SameTurn c (put w c (offer (w.parts c) s)) (turn_at v x)
turn_alone c w v s x same (inl e) =
    let step : SameTurn c (put w c (offer (w.parts c) s)) (put v c (offer (w.parts c) s)) = record {
      world = step_own c w v (offer (w.parts c) s) (offer_counts (w.parts c) s) same;
      answer = answer_own c w v (offer (w.parts c) s) (offer_counts (w.parts c) s) same;
    } in
    let same_turn : turn_at v x ≡ put v c (offer (w.parts c) s) = ap (turn_at v) e ∙ ap (λ p. put v c (offer p s)) same.part in
    subst (λ t. SameTurn c (put w c (offer (w.parts c) s)) t) (sym same_turn) step
turn_alone c w v s x same (inr h) =
    let step : SameTurn c (put w c (world.refuses (w.parts c) NoConnection)) (turn_at v None) = record {
      world = record {
        part = same.part ∙ sym (update_here w.parts c (w.parts c));
        places = same.places ∙ sym (ap (λ p. solo c (arrivals_in p)) (update_here w.parts c (w.parts c)));
      };
      answer = refl;
    } in
    subst (λ o. SameTurn c (put w c o) (turn_at v x)) (sym h.1) (subst (λ y. SameTurn c (put w c (world.refuses (w.parts c) NoConnection)) (turn_at v y)) (sym h.0) step)

-- what is to be shown of the steps ss
pub record GoesAlone (c : ℕ) (w v : World) (ss : List Step) (own_steps : List Step) (own_answers : List Answer) : Type 0 where
  pub world : Same c (run w ss) (run v own_steps)
  pub answers : answers v own_steps ≡ own_answers

some_alone : (c : ℕ) (w v : World) (ss : List Step) (a : Aim) (b : Bool) → (a.conference == c) ≡ b → IsFor a.conference a.step → Same c w v
    → ((u : World) → Same c (turn_at w (Some a)).world u → GoesAlone c (turn_at w (Some a)).world u ss (alone_in c (turn_at w (Some a)).world ss) (answers_to c (turn_at w (Some a)).world ss))
    → GoesAlone c (turn_at w (Some a)).world v ss (own c (Some a) ++ alone_in c (turn_at w (Some a)).world ss) (own_answer c (Some a) (turn_at w (Some a)) ++ answers_to c (turn_at w (Some a)).world ss)
some_alone c w v ss a true e owns same ih =
    let mine : a.conference ≡ c = eqb-true a.conference c e in
    let after : Turn = turn v a.step in
    let step : SameTurn c (turn_at w (Some a)) after =
    subst (λ d. SameTurn c (put w d (offer (w.parts d) a.step)) (turn v a.step)) (sym mine)
    (turn_alone c w v a.step (aimed v a.step) same (aimed_alone c (w.parts c) v a.step same.places (subst (λ d. IsFor d a.step) mine owns))) in
    let g : GoesAlone c (turn_at w (Some a)).world after.world ss (alone_in c (turn_at w (Some a)).world ss) (answers_to c (turn_at w (Some a)).world ss) = ih after.world step.world in
    rw e (record {
      world = g.world;
      answers = ap (λ x. x ∷ answers after.world (alone_in c (turn_at w (Some a)).world ss)) step.answer
          ∙ ap (λ xs. within (turn_at w (Some a)).world.places (turn_at w (Some a)).answer ∷ xs) g.answers;
    })
some_alone c w v ss a false e owns same ih =
    let others : c ≢ a.conference = λ h. eqb-false a.conference c e (sym h) in
    let g : GoesAlone c (turn_at w (Some a)).world v ss (alone_in c (turn_at w (Some a)).world ss) (answers_to c (turn_at w (Some a)).world ss) =
    ih v (step_apart c w v a.conference (offer (w.parts a.conference) a.step) others same) in
    rw e (record { world = g.world; answers = g.answers })

one_alone : (c : ℕ) (w v : World) (ss : List Step) (x : Option Aim) → IsAim x → Same c w v
    → ((u : World) → Same c (turn_at w x).world u → GoesAlone c (turn_at w x).world u ss (alone_in c (turn_at w x).world ss) (answers_to c (turn_at w x).world ss))
    → GoesAlone c (turn_at w x).world v ss (own c x ++ alone_in c (turn_at w x).world ss) (own_answer c x (turn_at w x) ++ answers_to c (turn_at w x).world ss)
one_alone c w v ss None owns same ih = let g = ih v same in record { world = g.world; answers = g.answers }
one_alone c w v ss (Some a) owns same ih = some_alone c w v ss a (a.conference == c) refl owns same ih

pub all_alone : (c : ℕ) (w v : World) (ss : List Step) → Same c w v → GoesAlone c w v ss (alone_in c w ss) (answers_to c w ss)
all_alone c w v [] same = record { world = same; answers = refl }
all_alone c w v (s ∷ ss) same =
    let g = one_alone c w v ss (aimed w s) (aims w s) same (λ u h. all_alone c (turn w s).world u ss h) in
    record { world = g.world; answers = g.answers }

pub starts_same : (c : ℕ) → Same c nothing nothing
starts_same c = record { part = refl; places = refl }

pub events_alone : EventsAlone
events_alone c steps = ap events_in (all_alone c nothing nothing steps (starts_same c)).world.part

pub answers_alone : AnswersAlone
answers_alone c steps = (all_alone c nothing nothing steps (starts_same c)).answers
