-- What the conferences of a script stand for, call by call.
use Rattle.std.proofs.Common.{◌≡◌, ◌≢◌, ◌⊎◌, ℕ, zero, suc, ◌+◌, ◌<◌, ◌≤◌, Bool, true, false, List, [], ◌∷◌, ◌++◌, map, inl, inr, refl, sym, ◌∙◌, ap, subst, append-nil, arith, Some, None}
use Rattle.std.specs.Prelude.{filter, if◌then◌else◌, not, ◌==◌, Option, slice_get}
use Rattle.std.specs.List.{list_any}
use Rattle.std.specs.Option.{option_map}
use Rattle.std.proofs.lemmas.Bool.{eqb-false, eqb-true}
use Rattle.std.proofs.lemmas.List.{map-append}
use Rattle.floor_config.specs.Configuration.{Configuration}
use Rattle.floor_machine.specs.declared.act.Act.{Act}
use Rattle.floor_hub.specs.declared.refusal.HubRefusal.{HubRefusal}
use Rattle.floor_hub.specs.declared.step.Answer.{Answer}
use Rattle.floor_hub.specs.declared.step.Answer.TheVariants.{Done, Attached as HasAttached, Nothing, Served, Said, Refused}
use Rattle.floor_room.specs.declared.said.Said as room
use Rattle.floor_hub.specs.declared.step.Step.{Step}
use Rattle.floor_hub.specs.declared.step.Step.TheVariants as step
use Rattle.floor_hub.specs.StandsFor.{ConferenceStands, StandsFor}
use Rattle.floor_hub.specs.Hub.{Hub, is_forgotten, room_at}
use Rattle.floor_room.specs.Room.{Room}
use Rattle.floor_hub.specs.World.{Place, Turn, World, nothing, place, turn}
use Rattle.floor_script.specs.Answered.{answer_line, behind, carried, conference_of, emptied, fast_in, lives_behind, pace_answer, readers, send, serve_all, serves_on, serves_taken, text_of, told, turned}
use Rattle.floor_script.specs.Attached as attached
use Rattle.floor_script.specs.Attached.{Adds, Lives, PacesIn, RemovedFrom, is_live, is_numbered, live_in, paced}
use Rattle.floor_script.specs.Printed.{acknowledged, due_to, fast_of, is_fast, lines_to, printed_to}
use Rattle.floor_script.specs.State.{State, begun, most_at_once, changed_lives, conference_at, is_live_in, with_lives}
use Rattle.floor_script.specs.declared.attached.Attached.{Attached}
use Rattle.floor_script.specs.declared.attached.Live.{Live}
use Rattle.floor_script.specs.declared.attached.Pace.{Pace}
use Rattle.floor_script.specs.declared.attached.Pace.TheVariants as pace
use Rattle.floor_script.specs.declared.conferences.Conferences.{Conferences}
use Rattle.floor_script.specs.declared.line.Command.{Command}
use Rattle.floor_script.specs.declared.line.Command.TheVariants.{Attach, Piece, Serve, Send, Leave, Slow, Fast, Admin, Say}
use Rattle.floor_script.specs.declared.waiting.Taken.{Taken}
use Rattle.floor_script.specs.steps.Holding.{Acknowledges, Answers, Holds, IsAtOnce, IsOpened, IsWhole, taken_in}
use Rattle.floor_script.specs.steps.Standing.{Carries, Does, Leads, Prints, SetsPace, Stands, opened}
use Rattle.floor_script.specs.steps.Taking.{ArePlaced, Empties, EmptiesAll, IsPlaceOf}
use Rattle.floor_script.proofs.Most.{most_is}
use Rattle.floor_script.proofs.Places.{AddsPlace, IsOtherAnswer, acknowledged_places, attach_adds, attach_refused, conference_of_place, place_grown, place_last, places_kept, send_places}

abbrev numbers : List Live → List ℕ
numbers lives = map (λ live. live.connection) lives

placed_in : (old new : List Place) (c : ℕ) (lives : List Live) → new ≡ old → ArePlaced old c (numbers lives) → ArePlaced new c (numbers lives)
placed_in old new c lives e p = subst (λ (ps : List Place). ArePlaced ps c (numbers lives)) (sym e) p

-- the hub went on to another world, and who is attached stays
stands_moved : (old new : Conferences) (s : State) (w : World) → Stands old s → Holds new.hub w s.printed → w.places ≡ s.world.places → new.attached ≡ old.attached →
    Stands new (record { world = w; printed = s.printed; lives = s.lives })
stands_moved old new s w h holds same kept = record {
  holds = holds;
  conferences_are = ap (λ (a : Attached). a.conferences.items) kept ∙ h.conferences_are ∙ ap (map (λ (p : Place). p.conference)) (sym same);
  lives = λ c. ap (λ (a : Attached). live_in a c) kept ∙ h.lives c;
  placed = λ c. placed_in s.world.places w.places c (s.lives c) same (h.placed c);
}

-- the pieces, messages and acts of a hub
pub carries_piece : (connection : ℕ) (bytes : List ℕ) (answer : Answer) (old new : Conferences) → Answers (λ w. turn w (step.Piece connection bytes)) answer old.hub new.hub → new.attached ≡ old.attached → Carries (Piece connection bytes) answer old new
carries_piece connection bytes answer old new a kept = record {
  leads = λ s h. stands_moved old new s (turn s.world (step.Piece connection bytes)).world h (a.next s.world s.printed h.holds) (places_kept s.world (step.Piece connection bytes) tt) kept;
  answered = λ s h. a.answered s.world s.printed h.holds;
}

pub carries_serve : (connection : ℕ) (answer : Answer) (old new : Conferences) → Answers (λ w. turn w (step.Serve connection)) answer old.hub new.hub → new.attached ≡ old.attached → Carries (Serve connection) answer old new
carries_serve connection answer old new a kept = record {
  leads = λ s h. stands_moved old new s (turn s.world (step.Serve connection)).world h (a.next s.world s.printed h.holds) (places_kept s.world (step.Serve connection) tt) kept;
  answered = λ s h. a.answered s.world s.printed h.holds;
}

pub carries_admin : (conference : ℕ) (act : Act) (answer : Answer) (old new : Conferences) → Answers (λ w. turn w (step.Admin conference act)) answer old.hub new.hub → new.attached ≡ old.attached → Carries (Admin conference act) answer old new
carries_admin conference act answer old new a kept = record {
  leads = λ s h. stands_moved old new s (turn s.world (step.Admin conference act)).world h (a.next s.world s.printed h.holds) (places_kept s.world (step.Admin conference act) tt) kept;
  answered = λ s h. a.answered s.world s.printed h.holds;
}

pub carries_say : (conference user : ℕ) (bytes : List ℕ) (answer : Answer) (old new : Conferences) → Answers (λ w. turn w (step.Say conference user bytes)) answer old.hub new.hub → new.attached ≡ old.attached → Carries (Say conference user bytes) answer old new
carries_say conference user bytes answer old new a kept = record {
  leads = λ s h. stands_moved old new s (turn s.world (step.Say conference user bytes)).world h (a.next s.world s.printed h.holds) (places_kept s.world (step.Say conference user bytes) tt) kept;
  answered = λ s h. a.answered s.world s.printed h.holds;
}

pub carries_send : (connection : ℕ) (bytes : List ℕ) (answer : Answer) (old new : Conferences) → Answers (send connection bytes) answer old.hub new.hub → new.attached ≡ old.attached → Carries (Send connection bytes) answer old new
carries_send connection bytes answer old new a kept = record {
  leads = λ s h. stands_moved old new s (send connection bytes s.world).world h (a.next s.world s.printed h.holds) (send_places connection bytes s.world) kept;
  answered = λ s h. a.answered s.world s.printed h.holds;
}

-- bytes were taken, and served
pub sends_on : (connection : ℕ) (bytes : List ℕ) (answer : Answer) (a b c : Hub) → Answers (λ w. turn w (step.Piece connection bytes)) Done a b → Answers (serve_all most_at_once connection) answer b c → Answers (send connection bytes) answer a c
sends_on connection bytes answer a b c p q = record {
  next = λ w printed h. subst (λ (d : Answer). Holds c (serves_taken d connection (turn w (step.Piece connection bytes)).world).world printed) (sym (p.answered w printed h)) (q.next (turn w (step.Piece connection bytes)).world printed (p.next w printed h));
  answered = λ w printed h. ap (λ (d : Answer). (serves_taken d connection (turn w (step.Piece connection bytes)).world).answer) (p.answered w printed h) ∙ q.answered (turn w (step.Piece connection bytes)).world printed (p.next w printed h);
}

untaken_world : (d : Answer) (connection : ℕ) (w : World) → d ≢ Done → (serves_taken d connection w).world ≡ w
untaken_world Done connection w ne = absurd (ne refl)
untaken_world (HasAttached number) connection w ne = refl
untaken_world Nothing connection w ne = refl
untaken_world Served connection w ne = refl
untaken_world (Said said) connection w ne = refl
untaken_world (Refused r) connection w ne = refl

untaken_answer : (d : Answer) (connection : ℕ) (w : World) → d ≢ Done → (serves_taken d connection w).answer ≡ d
untaken_answer Done connection w ne = absurd (ne refl)
untaken_answer (HasAttached number) connection w ne = refl
untaken_answer Nothing connection w ne = refl
untaken_answer Served connection w ne = refl
untaken_answer (Said said) connection w ne = refl
untaken_answer (Refused r) connection w ne = refl

-- or they weren't taken
pub sends_nothing : (connection : ℕ) (bytes : List ℕ) (answer : Answer) (a b : Hub) → answer ≢ Done → Answers (λ w. turn w (step.Piece connection bytes)) answer a b → Answers (send connection bytes) answer a b
sends_nothing connection bytes answer a b ne p = record {
  next = λ w printed h. subst (λ (v : World). Holds b v printed)
      (sym (untaken_world (turn w (step.Piece connection bytes)).answer connection (turn w (step.Piece connection bytes)).world (λ e. ne (sym (p.answered w printed h) ∙ e)))) (p.next w printed h);
  answered = λ w printed h. untaken_answer (turn w (step.Piece connection bytes)).answer connection (turn w (step.Piece connection bytes)).world (λ e. ne (sym (p.answered w printed h) ∙ e)) ∙ p.answered w printed h;
}

serve_one : (fuel connection : ℕ) (w : World) → serve_all (suc fuel) connection w ≡ serves_on (turn w (step.Serve connection)).answer (turn w (step.Serve connection)).world (λ next. serve_all fuel connection next)
unfolding serve_all
serve_one fuel connection w = refl

serve_none : (connection : ℕ) (w : World) → serve_all zero connection w ≡ record { world = w; answer = Done }
unfolding serve_all
serve_none connection w = refl

-- Serving what is left of so many turns comes to what serving comes to from the beginning.
pub record ServesOn (fuel whole connection : ℕ) (begun now : Hub) : Type 0 where
  pub next : (w : World) (printed : ℕ → ℕ → ℕ) → Holds begun w printed → (v : World) × Holds now v printed × (serve_all fuel connection v ≡ serve_all whole connection w)

pub serves_begin : (whole connection : ℕ) (hub : Hub) → ServesOn whole whole connection hub hub
serves_begin whole connection hub = record { next = λ w printed h. (w, h, refl) }

pub serves_more : (fuel whole connection : ℕ) (a b c : Hub) → ServesOn (suc fuel) whole connection a b → Answers (λ w. turn w (step.Serve connection)) Served b c → ServesOn fuel whole connection a c
serves_more fuel whole connection a b c p q = record { next = λ w printed h. on w printed (p.next w printed h) }
  where
    on : (w : World) (printed : ℕ → ℕ → ℕ) → ((v : World) × Holds b v printed × (serve_all (suc fuel) connection v ≡ serve_all whole connection w)) →
        (v : World) × Holds c v printed × (serve_all fuel connection v ≡ serve_all whole connection w)
    on w printed t = (
      (turn t.0 (step.Serve connection)).world,
      q.next t.0 printed t.1,
      sym (serve_one fuel connection t.0 ∙ ap (λ (d : Answer). serves_on d (turn t.0 (step.Serve connection)).world (λ next. serve_all fuel connection next)) (q.answered t.0 printed t.1)) ∙ t.2,
    )

abbrev stops_with : Answer → Answer
stops_with (Refused r) = Refused r
stops_with Done = Done
stops_with Nothing = Done
stops_with Served = Done
stops_with (HasAttached number) = Done
stops_with (Said said) = Done

stopped_is : (d : Answer) (w : World) (next : World → Turn) → d ≢ Served → serves_on d w next ≡ record { world = w; answer = stops_with d }
stopped_is Served w next ne = absurd (ne refl)
stopped_is Nothing w next ne = refl
stopped_is Done w next ne = refl
stopped_is (HasAttached number) w next ne = refl
stopped_is (Said said) w next ne = refl
stopped_is (Refused r) w next ne = refl

pub serves_stop : (fuel whole connection : ℕ) (answer : Answer) (a b c : Hub) → ServesOn (suc fuel) whole connection a b → answer ≢ Served → Answers (λ w. turn w (step.Serve connection)) answer b c → Answers (serve_all whole connection) (stops_with answer) a c
serves_stop fuel whole connection answer a b c p ne q = record { next = λ w printed h. next w printed (p.next w printed h); answered = λ w printed h. answered w printed (p.next w printed h) }
  where
    is : (w v : World) (printed : ℕ → ℕ → ℕ) → Holds b v printed → serve_all (suc fuel) connection v ≡ serve_all whole connection w →
        serve_all whole connection w ≡ record { world = (turn v (step.Serve connection)).world; answer = stops_with answer }
    is w v printed h e =
        sym e ∙ serve_one fuel connection v ∙ ap (λ (d : Answer). serves_on d (turn v (step.Serve connection)).world (λ next. serve_all fuel connection next)) (q.answered v printed h)
        ∙ stopped_is answer (turn v (step.Serve connection)).world (λ next. serve_all fuel connection next) ne

    next : (w : World) (printed : ℕ → ℕ → ℕ) → ((v : World) × Holds b v printed × (serve_all (suc fuel) connection v ≡ serve_all whole connection w)) → Holds c (serve_all whole connection w).world printed
    next w printed t = subst (λ (u : Turn). Holds c u.world printed) (sym (is w t.0 printed t.1 t.2)) (q.next t.0 printed t.1)

    answered : (w : World) (printed : ℕ → ℕ → ℕ) → ((v : World) × Holds b v printed × (serve_all (suc fuel) connection v ≡ serve_all whole connection w)) → (serve_all whole connection w).answer ≡ stops_with answer
    answered w printed t = ap (λ (u : Turn). u.answer) (is w t.0 printed t.1 t.2)

pub serves_out : (whole connection : ℕ) (a b : Hub) → ServesOn zero whole connection a b → Answers (serve_all whole connection) Done a b
serves_out whole connection a b p = record { next = λ w printed h. next w printed (p.next w printed h); answered = λ w printed h. answered w printed (p.next w printed h) }
  where
    next : (w : World) (printed : ℕ → ℕ → ℕ) → ((v : World) × Holds b v printed × (serve_all zero connection v ≡ serve_all whole connection w)) → Holds b (serve_all whole connection w).world printed
    next w printed t = subst (λ (u : Turn). Holds b u.world printed) (sym (serve_none connection t.0) ∙ t.2) t.1

    answered : (w : World) (printed : ℕ → ℕ → ℕ) → ((v : World) × Holds b v printed × (serve_all zero connection v ≡ serve_all whole connection w)) → (serve_all whole connection w).answer ≡ Done
    answered w printed t = ap (λ (u : Turn). u.answer) (sym t.2 ∙ serve_none connection t.0)

placed_grown : (ps : List Place) (q : Place) (c : ℕ) (lives : List Live) → ArePlaced ps c (numbers lives) → ArePlaced (ps ++ q ∷ []) c (numbers lives)
placed_grown ps q c [] p = tt
placed_grown ps q c (live ∷ lives) p = (here (place ps live.connection) refl p.0, placed_grown ps q c lives p.1)
  where
    here : (a : Option Place) → place ps live.connection ≡ a → IsPlaceOf c a → IsPlaceOf c (place (ps ++ q ∷ []) live.connection)
    here None e is = absurd is
    here (Some a) e is = subst (IsPlaceOf c) (sym (place_grown ps q a live.connection e)) is

placed_more : (ps : List Place) (c : ℕ) (lives : List Live) (live : Live) → ArePlaced ps c (numbers lives) → IsPlaceOf c (place ps live.connection) → ArePlaced ps c (numbers (lives ++ live ∷ []))
placed_more ps c [] live p is = (is, tt)
placed_more ps c (x ∷ lives) live p is = (p.0, placed_more ps c lives live p.1 is)

placed_kept : (ps : List Place) (c : ℕ) (keep : Live → Bool) (lives : List Live) → ArePlaced ps c (numbers lives) → ArePlaced ps c (numbers (filter keep lives))
placed_kept ps c keep [] p = tt
placed_kept ps c keep (live ∷ lives) p = by (keep live) (placed_kept ps c keep lives p.1)
  where
    by : (b : Bool) → ArePlaced ps c (numbers (filter keep lives)) → ArePlaced ps c (numbers (if b then live ∷ filter keep lives else filter keep lives))
    by true q = (p.0, q)
    by false q = q

chosen_number : (b : Bool) (x y : Live) → x.connection ≡ y.connection → (if b then x else y).connection ≡ y.connection
chosen_number true x y e = e
chosen_number false x y e = refl

paced_number : (connection : ℕ) (pace : Pace) (live : Live) → (paced connection pace live).connection ≡ live.connection
paced_number connection pace live = chosen_number (is_numbered connection live) (record { connection = live.connection; pace = pace }) live refl

placed_paced : (ps : List Place) (c connection : ℕ) (pace : Pace) (lives : List Live) → ArePlaced ps c (numbers lives) → ArePlaced ps c (numbers (map (paced connection pace) lives))
placed_paced ps c connection pace [] p = tt
placed_paced ps c connection pace (live ∷ lives) p = (subst (λ (n : ℕ). IsPlaceOf c (place ps n)) (sym (paced_number connection pace live)) p.0, placed_paced ps c connection pace lives p.1)

-- those of one conference have changed
lives_with : (old new : Attached) (lives : ℕ → List Live) (c : ℕ) (now : List Live) → ((other : ℕ) → live_in old other ≡ lives other) → Lives c now old new → (other : ℕ) → live_in new other ≡ with_lives lives c now other
lives_with old new lives c now same l other = by (other == c) refl
  where
    by : (b : Bool) → (other == c) ≡ b → live_in new other ≡ (if b then now else lives other)
    by true e = ap (live_in new) (eqb-true other c e) ∙ l.here
    by false e = l.others other (eqb-false other c e) ∙ same other

placed_with : (ps : List Place) (lives : ℕ → List Live) (c : ℕ) (now : List Live) → ((other : ℕ) → ArePlaced ps other (numbers (lives other))) → ArePlaced ps c (numbers now) →
    (other : ℕ) → ArePlaced ps other (numbers (with_lives lives c now other))
placed_with ps lives c now all is other = by (other == c) refl
  where
    by : (b : Bool) → (other == c) ≡ b → ArePlaced ps other (numbers (if b then now else lives other))
    by true e = subst (λ (k : ℕ). ArePlaced ps k (numbers now)) (sym (eqb-true other c e)) is
    by false e = all other

-- the conference of a connection, as the state has it
at_state : (c : Conferences) (s : State) (connection : ℕ) → Stands c s → attached.conference_at c.attached connection ≡ conference_at s connection
at_state c s zero h = refl
at_state c s (suc j) h = conference_of_place s.world.places c.attached.conferences.items j h.conferences_are

pub conference_is : (c : Conferences) (s : State) (connection : ℕ) (result : Option ℕ) → Stands c s → result ≡ attached.conference_at c.attached connection → result ≡ conference_at s connection
conference_is c s connection result h e = e ∙ at_state c s connection h

-- a connection was attached
pub carries_attach : (conference user number : ℕ) (old new : Conferences) → Answers (λ w. turn w (step.Attach conference user)) (HasAttached number) old.hub new.hub → Adds conference number old.attached new.attached →
    Carries (Attach conference user) (HasAttached number) old new
carries_attach conference user number old new a adds = record { leads = λ s h. leads s h (a.answered s.world s.printed h.holds); answered = λ s h. a.answered s.world s.printed h.holds }
  where
    leads : (s : State) → Stands old s → (turn s.world (step.Attach conference user)).answer ≡ HasAttached number → Stands new (carried s (Attach conference user))
    leads s h is =
        let p = attach_adds s.world conference user number is in
        let w : World = (turn s.world (step.Attach conference user)).world in
        let live : Live = record { connection = number; pace = pace.Fast } in
        let now : List Live = s.lives conference ++ live ∷ [] in
        let lives : ℕ → List Live = with_lives s.lives conference now in
        let told_lives : Lives conference now old.attached new.attached =
        subst (λ (l : List Live). Lives conference (l ++ live ∷ []) old.attached new.attached) (h.lives conference) adds.lives in
        let placed : (other : ℕ) → ArePlaced (s.world.places ++ p.added ∷ []) other (numbers (lives other)) =
        placed_with (s.world.places ++ p.added ∷ []) s.lives conference now (λ other. placed_grown s.world.places p.added other (s.lives other) (h.placed other))
        (placed_more (s.world.places ++ p.added ∷ []) conference (s.lives conference) live (placed_grown s.world.places p.added conference (s.lives conference) (h.placed conference))
        (subst (IsPlaceOf conference) (sym (place_last s.world.places p.added number p.next)) p.there)) in
        let to_state : State = record { world = w; printed = s.printed; lives = lives } in
        let stands : Stands new to_state = record {
          holds = a.next s.world s.printed h.holds;
          conferences_are = adds.conferences ∙ ap (λ (l : List ℕ). l ++ conference ∷ []) h.conferences_are
              ∙ ap (λ (c : ℕ). map (λ (q : Place). q.conference) s.world.places ++ c ∷ []) (sym p.there)
              ∙ sym (map-append (λ (q : Place). q.conference) s.world.places (p.added ∷ [])) ∙ ap (map (λ (q : Place). q.conference)) (sym p.places_are);
          lives = lives_with old.attached new.attached s.lives conference now h.lives told_lives;
          placed = λ other. placed_in (s.world.places ++ p.added ∷ []) w.places other (lives other) p.places_are (placed other);
        } in
        subst (λ (d : Answer). Stands new (record { world = w; printed = s.printed; lives = lives_behind s (Attach conference user) d })) (sym is) stands

unattached : (s : State) (conference user : ℕ) (d : Answer) → IsOtherAnswer d → lives_behind s (Attach conference user) d ≡ s.lives
unattached s conference user Done h = refl
unattached s conference user (HasAttached number) h = absurd h
unattached s conference user Nothing h = refl
unattached s conference user Served h = refl
unattached s conference user (Said said) h = refl
unattached s conference user (Refused r) h = refl

-- or none was
pub carries_unattached : (conference user : ℕ) (answer : Answer) (old new : Conferences) → IsOtherAnswer answer → Answers (λ w. turn w (step.Attach conference user)) answer old.hub new.hub → new.attached ≡ old.attached →
    Carries (Attach conference user) answer old new
carries_unattached conference user answer old new other a kept = record { leads = λ s h. leads s h (a.answered s.world s.printed h.holds); answered = λ s h. a.answered s.world s.printed h.holds }
  where
    leads : (s : State) → Stands old s → (turn s.world (step.Attach conference user)).answer ≡ answer → Stands new (carried s (Attach conference user))
    leads s h is =
        let w : World = (turn s.world (step.Attach conference user)).world in
        let calm : IsOtherAnswer (turn s.world (step.Attach conference user)).answer = subst IsOtherAnswer (sym is) other in
        subst (λ (lives : ℕ → List Live). Stands new (record { world = w; printed = s.printed; lives = lives })) (sym (unattached s conference user (turn s.world (step.Attach conference user)).answer calm))
        (stands_moved old new s w h (a.next s.world s.printed h.holds) (attach_refused s.world conference user calm) kept)

removed : (c : Option ℕ) (connection : ℕ) (old new : Conferences) (s : State) (w : World) → Stands old s → Holds new.hub w s.printed → w.places ≡ s.world.places → RemovedFrom c connection old.attached new.attached →
    Stands new (record { world = w; printed = s.printed; lives = changed_lives (filter (λ live. not (is_numbered connection live))) c s.lives })
removed None connection old new s w h holds same gone = stands_moved old new s w h holds same gone
removed (Some c) connection old new s w h holds same gone =
    let now : List Live = filter (λ live. not (is_numbered connection live)) (s.lives c) in
    let told_lives : Lives c now old.attached new.attached = subst (λ (l : List Live). Lives c (filter (λ live. not (is_numbered connection live)) l) old.attached new.attached) (h.lives c) gone.lives in record {
      holds = holds;
      conferences_are = rw gone.conferences refl ∙ h.conferences_are ∙ ap (map (λ (p : Place). p.conference)) (sym same);
      lives = lives_with old.attached new.attached s.lives c now h.lives told_lives;
      placed = λ other. placed_in s.world.places w.places other (with_lives s.lives c now other) same
          (placed_with s.world.places s.lives c now h.placed (placed_kept s.world.places c (λ live. not (is_numbered connection live)) (s.lives c) (h.placed c)) other);
    }

-- a connection has left
pub carries_leave : (connection : ℕ) (old new : Conferences) → Answers (λ w. turn w (step.Leave connection)) Done old.hub new.hub → RemovedFrom (attached.conference_at old.attached connection) connection old.attached new.attached →
    Carries (Leave connection) Done old new
carries_leave connection old new a gone = record { leads = λ s h. leads s h (a.answered s.world s.printed h.holds); answered = λ s h. a.answered s.world s.printed h.holds }
  where
    leads : (s : State) → Stands old s → (turn s.world (step.Leave connection)).answer ≡ Done → Stands new (carried s (Leave connection))
    leads s h is =
        let w : World = (turn s.world (step.Leave connection)).world in
        let gone_at : RemovedFrom (conference_at s connection) connection old.attached new.attached = subst (λ (c : Option ℕ). RemovedFrom c connection old.attached new.attached) (at_state old s connection h) gone in
        subst (λ (d : Answer). Stands new (record { world = w; printed = s.printed; lives = lives_behind s (Leave connection) d })) (sym is)
        (removed (conference_at s connection) connection old new s w h (a.next s.world s.printed h.holds) (places_kept s.world (step.Leave connection) tt) gone_at)

unleft : (s : State) (connection : ℕ) (d : Answer) → d ≢ Done → lives_behind s (Leave connection) d ≡ s.lives
unleft s connection Done ne = absurd (ne refl)
unleft s connection (HasAttached number) ne = refl
unleft s connection Nothing ne = refl
unleft s connection Served ne = refl
unleft s connection (Said said) ne = refl
unleft s connection (Refused r) ne = refl

-- or not
pub carries_stay : (connection : ℕ) (answer : Answer) (old new : Conferences) → answer ≢ Done → Answers (λ w. turn w (step.Leave connection)) answer old.hub new.hub → new.attached ≡ old.attached → Carries (Leave connection) answer old new
carries_stay connection answer old new ne a kept = record { leads = λ s h. leads s h (a.answered s.world s.printed h.holds); answered = λ s h. a.answered s.world s.printed h.holds }
  where
    leads : (s : State) → Stands old s → (turn s.world (step.Leave connection)).answer ≡ answer → Stands new (carried s (Leave connection))
    leads s h is =
        let w : World = (turn s.world (step.Leave connection)).world in
        subst (λ (lives : ℕ → List Live). Stands new (record { world = w; printed = s.printed; lives = lives }))
        (sym (unleft s connection (turn s.world (step.Leave connection)).answer (λ e. ne (sym is ∙ e))))
        (stands_moved old new s w h (a.next s.world s.printed h.holds) (places_kept s.world (step.Leave connection) tt) kept)

paced_at : (c : Option ℕ) (connection : ℕ) (pace : Pace) (old new : Conferences) (s : State) → Stands old s → new.hub ≡ old.hub → PacesIn c connection pace old.attached new.attached →
    Stands new (record { world = s.world; printed = s.printed; lives = changed_lives (map (paced connection pace)) c s.lives })
paced_at None connection pace old new s h hub same = stands_moved old new s s.world h (subst (λ (b : Hub). Holds b s.world s.printed) (sym hub) h.holds) refl same
paced_at (Some c) connection pace old new s h hub set =
    let now : List Live = map (paced connection pace) (s.lives c) in
    let told_lives : Lives c now old.attached new.attached = subst (λ (l : List Live). Lives c (map (paced connection pace) l) old.attached new.attached) (h.lives c) set.lives in record {
      holds = subst (λ (b : Hub). Holds b s.world s.printed) (sym hub) h.holds;
      conferences_are = rw set.conferences refl ∙ h.conferences_are;
      lives = lives_with old.attached new.attached s.lives c now h.lives told_lives;
      placed = placed_with s.world.places s.lives c now h.placed (placed_paced s.world.places c connection pace (s.lives c) (h.placed c));
    }

live_alike : (old : Conferences) (s : State) (c : Option ℕ) (connection : ℕ) → Stands old s → is_live old.attached c connection ≡ is_live_in s.lives c connection
live_alike old s None connection h = refl
live_alike old s (Some c) connection h = ap (list_any (is_numbered connection)) (h.lives c)

pace_answered : (connection : ℕ) (pace : Pace) (answer : Answer) (old new : Conferences) (s : State) → Stands old s → SetsPace connection pace answer old new →
    pace_answer (is_live_in s.lives (conference_at s connection) connection) ≡ answer
pace_answered connection pace answer old new s h set =
    ap pace_answer (sym (live_alike old s (conference_at s connection) connection h))
    ∙ ap (λ (c : Option ℕ). pace_answer (is_live old.attached c connection)) (sym (at_state old s connection h)) ∙ sym set.answer_is

-- the pace of a connection
pub carries_slow : (connection : ℕ) (answer : Answer) (old new : Conferences) → SetsPace connection pace.Slow answer old new → Carries (Slow connection) answer old new
carries_slow connection answer old new set = record {
  leads = λ s h. paced_at (conference_at s connection) connection pace.Slow old new s h set.hub
      (subst (λ (c : Option ℕ). PacesIn c connection pace.Slow old.attached new.attached) (at_state old s connection h) set.attached);
  answered = λ s h. pace_answered connection pace.Slow answer old new s h set;
}

pub carries_fast : (connection : ℕ) (answer : Answer) (old new : Conferences) → SetsPace connection pace.Fast answer old new → Carries (Fast connection) answer old new
carries_fast connection answer old new set = record {
  leads = λ s h. paced_at (conference_at s connection) connection pace.Fast old new s h set.hub
      (subst (λ (c : Option ℕ). PacesIn c connection pace.Fast old.attached new.attached) (at_state old s connection h) set.attached);
  answered = λ s h. pace_answered connection pace.Fast answer old new s h set;
}

-- a conference was opened
pub leads_open : (config : Configuration) (old new : Conferences) → IsOpened config old.hub new.hub → new.attached ≡ old.attached → Leads (opened config) old new
leads_open config old new o kept = record {
  leads = λ s h. stands_moved old new s (turn s.world (step.Open config)).world h (o.next s.world s.printed h.holds) (places_kept s.world (step.Open config) tt) kept;
}

-- acknowledgements were told
pub leads_told : (taken : List Taken) (old new : Conferences) → Acknowledges taken old.hub new.hub → new.attached ≡ old.attached → Leads (told taken) old new
leads_told taken old new a kept = record {
  leads = λ s h. stands_moved old new s (acknowledged taken s.world) h (a.next s.world s.printed h.holds) (acknowledged_places taken s.world) kept;
}

-- nothing is taken without a conference
pub prints_nothing : (at : Option ℕ) (conferences : Conferences) (noted : List Taken) (text : List ℕ) → at ≡ None → noted ≡ [] → Prints at conferences conferences noted text text
prints_nothing at conferences noted text none empty =
    subst (λ (c : Option ℕ). Prints c conferences conferences noted text text) (sym none)
    (subst (λ (l : List Taken). Prints None conferences conferences l text text) (sym empty) (record { leads = λ s h. same s h; noted_is = λ s h. refl; text = λ s h. sym (append-nil text) }))
  where
    same : (s : State) → Stands conferences s → Stands conferences (emptied [] s)
    same s h = record { holds = h.holds; conferences_are = h.conferences_are; lives = h.lives; placed = h.placed }

-- what waits for the connections of a conference was taken
pub prints_all : (at : Option ℕ) (conference : ℕ) (lives : List Live) (old new : Conferences) (begun_with noted : List Taken) (was is : List ℕ) → at ≡ Some conference → begun_with ≡ [] → lives ≡ live_in old.attached conference →
    EmptiesAll conference (fast_of lives) old.hub new.hub begun_with noted was is → new.attached ≡ old.attached → Prints at old new noted was is
prints_all at conference lives old new begun_with noted was is at_is empty lives_are all kept =
    subst (λ (c : Option ℕ). Prints c old new noted was is) (sym at_is) (record { leads = leads; noted_is = λ s h. (one s h).noted_is; text = λ s h. (one s h).text })
  where
    here : (s : State) → Stands old s → EmptiesAll conference (fast_of (s.lives conference)) old.hub new.hub [] noted was is
    here s h =
        subst (λ (l : List Taken). EmptiesAll conference (fast_of (s.lives conference)) old.hub new.hub l noted was is) empty
        (subst (λ (l : List Live). EmptiesAll conference (fast_of l) old.hub new.hub begun_with noted was is) (lives_are ∙ h.lives conference) all)

    one : (s : State) → Stands old s → Empties s.world (fast_of (s.lives conference)) s.printed new.hub [] noted was is
    one s h = (here s h).empties s.world s.printed h.holds (placed_kept s.world.places conference (λ live. is_fast live.pace) (s.lives conference) (h.placed conference))

    leads : (s : State) → Stands old s → Stands new (emptied (fast_of (s.lives conference)) s)
    leads s h = record {
      holds = (one s h).holds;
      conferences_are = ap (λ (a : Attached). a.conferences.items) kept ∙ h.conferences_are;
      lives = λ c. ap (λ (a : Attached). live_in a c) kept ∙ h.lives c;
      placed = h.placed;
    }

-- a command from end to end
pub does_all : (command : Command) (conference : Option ℕ) (answer : Answer) (old mid empty new : Conferences) (noted slice : List Taken) (was is : List ℕ) → ((s : State) → Stands old s → conference ≡ conference_of s command) →
    Carries command answer old mid → was ≡ answer_line answer → Prints conference mid empty noted was is → slice ≡ noted → Leads (told slice) empty new → Does command old new is
does_all command conference answer old mid empty new noted slice was is at carries line prints slice_is acknowledges = record { leads = leads; text_is = text_is }
  where
    leads : (s : State) → Stands old s → Stands new (behind s command)
    leads s h =
        let middle = carries.leads s h in
        let same : conference ≡ conference_of s command = at s h in
        let last : Stands new (told slice (emptied (fast_in (carried s command) conference) (carried s command))) = acknowledges.leads (emptied (fast_in (carried s command) conference) (carried s command)) (prints.leads (carried s command) middle) in
        subst (λ (c : Option ℕ). Stands new (told (due_to (carried s command).world (fast_in (carried s command) c) s.printed) (emptied (fast_in (carried s command) c) (carried s command)))) same
        (subst (λ (l : List Taken). Stands new (told l (emptied (fast_in (carried s command) conference) (carried s command)))) (slice_is ∙ prints.noted_is (carried s command) middle) last)

    text_is : (s : State) → Stands old s → is ≡ text_of s command
    text_is s h =
        let middle = carries.leads s h in
        prints.text (carried s command) middle
        ∙ ap (λ (l : List ℕ). l ++ lines_to (carried s command).world (fast_in (carried s command) conference) s.printed) (line ∙ ap answer_line (sym (carries.answered s h)))
        ∙ ap (λ (c : Option ℕ). answer_line (turned s command).answer ++ lines_to (carried s command).world (fast_in (carried s command) c) s.printed) (at s h)

-- an answer by another name
pub answers_as : (does : World → Turn) (d e : Answer) (a b : Hub) → d ≡ e → Answers does d a b → Answers does e a b
answers_as does d e a b is p = record { next = p.next; answered = λ w printed h. p.answered w printed h ∙ is }

-- a command by another name
pub carries_as : (x y : Command) (answer : Answer) (a b : Conferences) → x ≡ y → Carries y answer a b → Carries x answer a b
carries_as x y answer a b is k = subst (λ (command : Command). Carries command answer a b) (sym is) k

-- one message more was served
pub serves_next : (fuel served connection : ℕ) (d : Answer) (a b c : Hub) → fuel + served ≡ most_at_once → served < 100000000 → ServesOn fuel most_at_once connection a b → Answers (λ w. turn w (step.Serve connection)) d b c → d ≡ Served →
    (x : ℕ) × (x + (served + 1) ≡ most_at_once) × ServesOn x most_at_once connection a c
serves_next zero served connection d a b c e few on q is = absurd (omega (arith, e, few, most_is))
serves_next (suc fuel) served connection d a b c e few on q is = (fuel, omega (arith, e), serves_more fuel most_at_once connection a b c on (answers_as (λ w. turn w (step.Serve connection)) d Served b c is q))

-- or the last
pub serves_last : (fuel served connection : ℕ) (d e : Answer) (a b c : Hub) → fuel + served ≡ most_at_once → served < 100000000 → ServesOn fuel most_at_once connection a b → Answers (λ w. turn w (step.Serve connection)) d b c →
    (d ≢ Served) × (stops_with d ≡ e) → Answers (serve_all most_at_once connection) e a c
serves_last zero served connection d e a b c sum few on q stops = absurd (omega (arith, sum, few, most_is))
serves_last (suc fuel) served connection d e a b c sum few on q stops = answers_as (serve_all most_at_once connection) (stops_with d) e a c stops.1 (serves_stop fuel most_at_once connection d a b c on stops.0 q)

pub serves_over : (fuel served connection : ℕ) (a b : Hub) → fuel + served ≡ most_at_once → 100000000 ≤ served → ServesOn fuel most_at_once connection a b → Answers (serve_all most_at_once connection) Done a b
serves_over zero served connection a b sum many on = serves_out most_at_once connection a b on
serves_over (suc fuel) served connection a b sum many on = absurd (omega (arith, sum, many, most_is))

refused_served : (r : HubRefusal) → ◌≡◌ {A = Answer} (Refused r) Served → ⊥
refused_served r e = cc

nothing_served : ◌≡◌ {A = Answer} Nothing Served → ⊥
nothing_served e = cc

done_served : ◌≡◌ {A = Answer} Done Served → ⊥
done_served e = cc

attached_served : (number : ℕ) → ◌≡◌ {A = Answer} (HasAttached number) Served → ⊥
attached_served number e = cc

said_served : (said : room.Said) → ◌≡◌ {A = Answer} (Said said) Served → ⊥
said_served said e = cc

pub stops_refused : (d : Answer) (r : HubRefusal) → d ≡ Refused r → (d ≢ Served) × (stops_with d ≡ Refused r)
stops_refused d r is = (λ e. refused_served r (sym is ∙ e), ap stops_with is)

pub stops_done : (d : Answer) → (d ≡ Nothing) ⊎ ((d ≡ Done) ⊎ (((number : ℕ) × (d ≡ HasAttached number)) ⊎ ((said : room.Said) × (d ≡ Said said)))) → (d ≢ Served) × (stops_with d ≡ Done)
stops_done d (inl is) = (λ e. nothing_served (sym is ∙ e), ap stops_with is)
stops_done d (inr (inl is)) = (λ e. done_served (sym is ∙ e), ap stops_with is)
stops_done d (inr (inr (inl is))) = (λ e. attached_served is.0 (sym is.1 ∙ e), ap stops_with is.1)
stops_done d (inr (inr (inr is))) = (λ e. said_served is.0 (sym is.1 ∙ e), ap stops_with is.1)

-- one way or another
pub split : {P Q R : Type 0} → P ⊎ Q → (P → R) → (Q → R) → R
split (inl p) f g = f p
split (inr q) f g = g q

no_items : (conferences : List ℕ) → slice_get conferences 0 ≡ None → conferences ≡ []
no_items [] e = refl
no_items (c ∷ conferences) e = cc

empty_room : (b : Bool) (r : Option Room) → ConferenceStands b r None → r ≡ None
empty_room true r st = st.0
empty_room false None st = refl
empty_room false (Some r) st = absurd st

-- no conference is open, and nobody was attached
pub stands_new : (c : Conferences) → StandsFor c.hub nothing → ((connection : ℕ) → attached.conference_at c.attached connection ≡ None) → ((conference : ℕ) → live_in c.attached conference ≡ []) → Stands c (begun [])
stands_new c stands unattached unlive = record {
  holds = record {
    stands = stands;
    whole = λ d. subst IsWhole (sym (empty_room (is_forgotten c.hub d) (room_at c.hub d) (stands.stands.conferences d))) tt;
    at_once = λ d. subst IsAtOnce (sym (empty_room (is_forgotten c.hub d) (room_at c.hub d) (stands.stands.conferences d))) tt;
    taken = λ d n. ap (λ (r : Option Room). taken_in r n) (empty_room (is_forgotten c.hub d) (room_at c.hub d) (stands.stands.conferences d));
  };
  conferences_are = no_items c.attached.conferences.items (unattached 1);
  lives = unlive;
  placed = λ d. tt;
}
