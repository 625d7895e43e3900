-- What each call of a hub gathers of what it changed.
use Rattle.std.proofs.Common.{◌≡◌, ◌≢◌, ◌⊎◌, ◌<◌, ◌+◌, ◌++◌, ◌&&◌, ℕ, List, [], ◌∷◌, Bool, true, false, arith, length, refl, sym, ap, subst, ◌∙◌, inl, inr, Some, None, append-nil, length-append}
use Rattle.std.specs.Prelude.{Option, ◌==◌, filter, nat_eq, not}
use Rattle.std.specs.List.{list_any}
use Rattle.std.proofs.lemmas.Bool.Decides.{eqb_tells}
use Rattle.floor_machine.specs.Conference.{AreCut, Conference, opening}
use Rattle.floor_machine.specs.Next.{next}
use Rattle.floor_machine.specs.declared.event.Event.{Event}
use Rattle.floor_machine.proofs.Runs.{after_from-more}
use Rattle.floor_room.specs.Calls.{Applied}
use Rattle.floor_room.specs.Ledger.{closed, conference_of}
use Rattle.floor_room.specs.Room.{Room}
use Rattle.floor_room.proofs.Ledgers.{opened}
use Rattle.floor_hub.specs.declared.connection.Connection.{Connection}
use Rattle.floor_hub.specs.declared.news.Before.{Before}
use Rattle.floor_hub.specs.declared.news.News.{News}
use Rattle.floor_hub.specs.declared.refusal.HubRefusal.{HubRefusal}
use Rattle.floor_hub.specs.Gathers.{Gathers, IsGathered}
use Rattle.floor_hub.specs.Hub.{Hub, is_watched, room_at}
use Rattle.floor_hub.specs.News.{AreNews, Gathered, IsNews, has, is_live_cut, news_of}
use Rattle.floor_hub.specs.Rooms.{OneRoom, RoomOf}
use Rattle.floor_hub.specs.Shown.{Shows}
use Rattle.floor_hub.specs.steps.Gathering.{GathersAt, GathersFor, GathersIn, IsBefore, IsBeforeOf, IsNewsIn}
use Rattle.floor_hub.proofs.Known.{Went}

false_true : false ≡ true → ⊥
false_true e = cc

some_is : (x y : Room) → ◌≡◌ {A = Option Room} (Some x) (Some y) → x ≡ y
some_is x y e = cc

none_before : (b : Before) → ◌≡◌ {A = Option Before} (Some b) None → ⊥
none_before b e = cc

-- those of one list that pass the test, and are none of another's

any-filter : (p : ℕ → Bool) (xs : List ℕ) (n : ℕ) → list_any (λ j. j == n) (filter p xs) ≡ (list_any (λ j. j == n) xs && p n)
any-filter p [] n = refl
any-filter p (x ∷ xs) n = by (any-filter p xs n) (p x) refl (eqb_tells x n)
  where
    none : (a b : Bool) → b ≡ false → (a && b) ≡ false
    none true b e = e
    none false b e = refl

    by : list_any (λ j. j == n) (filter p xs) ≡ (list_any (λ j. j == n) xs && p n) → (b : Bool) → p x ≡ b → (((nat_eq x n ≡ true) × (x ≡ n)) ⊎ ((nat_eq x n ≡ false) × (x ≢ n))) →
        list_any (λ j. j == n) (filter p (x ∷ xs)) ≡ (list_any (λ j. j == n) (x ∷ xs) && p n)
    by rest true e (inl t) = rw e (rw t.0 (sym (ap p (sym t.1) ∙ e)))
    by rest true e (inr t) = rw e (rw t.0 rest)
    by rest false e (inl t) = rw e (rw t.0 (rest ∙ none (list_any (λ j. j == n) xs) (p n) (ap p (sym t.1) ∙ e) ∙ sym (ap p (sym t.1) ∙ e)))
    by rest false e (inr t) = rw e (rw t.0 rest)

-- whom an event cut

cut-by : (s t : Conference) (was now : List ℕ) (cut : List ℕ) → AreCut s.members was → AreCut t.members now → cut ≡ filter (λ k. not (list_any (λ j. j == k) was)) now →
    (k : ℕ) → list_any (λ j. j == k) cut ≡ (is_live_cut t k && not (is_live_cut s k))
cut-by s t was now cut before after is k =
    ap (λ (ks : List ℕ). list_any (λ j. j == k) ks) is ∙ any-filter (λ k. not (list_any (λ j. j == k) was)) now k
    ∙ ap (λ (b : Bool). b && not (list_any (λ j. j == k) was)) (after k) ∙ ap (λ (b : Bool). is_live_cut t k && not b) (before k)

-- of a conference

of-own : (c : ℕ) (n : News) → n.conference ≡ c → news_of c (n ∷ []) ≡ n ∷ []
of-own c n is = rw (ap (nat_eq c) is ∙ same (eqb_tells c c)) refl
  where
    same : (((nat_eq c c ≡ true) × (c ≡ c)) ⊎ ((nat_eq c c ≡ false) × (c ≢ c))) → nat_eq c c ≡ true
    same (inl t) = t.0
    same (inr t) = absurd (t.1 refl)

of-other : (c d : ℕ) (n : News) → n.conference ≡ c → nat_eq c d ≡ false → news_of d (n ∷ []) ≡ []
of-other c d n is ne = rw (ap (nat_eq d) is ∙ other (eqb_tells d c) (eqb_tells c d)) refl
  where
    other : (((nat_eq d c ≡ true) × (d ≡ c)) ⊎ ((nat_eq d c ≡ false) × (d ≢ c))) → (((nat_eq c d ≡ true) × (c ≡ d)) ⊎ ((nat_eq c d ≡ false) × (c ≢ d))) → nat_eq d c ≡ false
    other (inr t) u = t.0
    other (inl t) (inr u) = absurd (u.1 (sym t.1))
    other (inl t) (inl u) = absurd (false_true (sym ne ∙ u.0))

-- a room as it was

still : (c : ℕ) (watched missed : Bool) (added : List News) (r s : Room) → s ≡ r → news_of c added ≡ [] → IsGathered c watched missed added r s
still c watched missed added r s same none = record {
  broken = λ h. ap (λ (z : Room). z.ledger.is_broken) same ∙ h;
  went = λ whole. record {
    events = [];
    config = ap (λ (z : Room). z.ledger.config) same;
    journal = ap (λ (z : Room). z.ledger.journal) same ∙ sym (append-nil r.ledger.journal);
    news = λ w m. subst (AreNews (conference_of r.ledger) (length r.ledger.journal) []) (sym none) tt;
  };
  unwatched = λ w. none;
}

-- calls that add no event

pub gathers-nothing : (old new : Hub) → ((d : ℕ) → room_at new d ≡ room_at old d) → new.gathered ≡ old.gathered → Gathers old new
gathers-nothing old new same kept = record {
  added = [];
  news = ap (λ (g : Gathered). g.news) kept ∙ sym (append-nil old.gathered.news);
  watched = ap (λ (g : Gathered). g.watched) kept;
  missed = λ h. ap (λ (g : Gathered). g.missed) kept ∙ h;
  rooms = λ c r is. (r, same c ∙ is, still c (is_watched old c) new.gathered.missed [] r r refl refl);
}

-- a call for the conference of one room

module _ (c : ℕ) (old new : Hub) (others : (d : ℕ) → nat_eq c d ≡ false → room_at new d ≡ room_at old d) (moves : (r : Room) → room_at old c ≡ Some r → (s : Room) × (room_at new c ≡ Some s) × Went r s)
    (shows : Shows old new) where
  longer : (r s : Room) (e : Event) → Applied r s e → length s.ledger.journal ≡ length r.ledger.journal + 1
  longer r s e t = ap (λ (z : Room). length z.ledger.journal) t.next ∙ length-append r.ledger.journal (e ∷ [])

  -- what its room came to, where no event of it was gathered
  own : (missed : Bool) (r s : Room) → Went r s → ((e : Event) → Applied r s e → has old.gathered.watched c ≡ true → missed ≡ false → ⊥) → IsGathered c (is_watched old c) missed [] r s
  own missed r s (inl same) unseen = still c (is_watched old c) missed [] r s same refl
  own missed r s (inr (takes, inl broken)) unseen = record { broken = λ h. broken; went = λ whole. absurd (false_true (sym whole ∙ broken)); unwatched = λ w. refl }
  own missed r s (inr (takes, inr (e, t))) unseen = record {
    broken = λ h. absurd (false_true (sym (opened r.ledger (sym takes)).unbroken ∙ h));
    went = λ whole. record {
      events = e ∷ [];
      config = ap (λ (z : Room). z.ledger.config) t.next;
      journal = ap (λ (z : Room). z.ledger.journal) t.next;
      news = λ w m. absurd (unseen e t w m);
    };
    unwatched = λ w. refl;
  }

  -- nothing was gathered
  nothing-new : (missed : Bool) → ((r s : Room) → room_at old c ≡ Some r → room_at new c ≡ Some s → (e : Event) → Applied r s e → has old.gathered.watched c ≡ true → missed ≡ false → ⊥) →
      new.gathered.news ≡ old.gathered.news → new.gathered.watched ≡ old.gathered.watched → (old.gathered.missed ≡ true → new.gathered.missed ≡ true) → new.gathered.missed ≡ missed → Gathers old new
  nothing-new missed unseen news watched stays is = record {
    added = [];
    news = news ∙ sym (append-nil old.gathered.news);
    watched = watched;
    missed = stays;
    rooms = λ d r there. by d r there (eqb_tells c d);
  }
    where
      by : (d : ℕ) (r : Room) → room_at old d ≡ Some r → (((nat_eq c d ≡ true) × (c ≡ d)) ⊎ ((nat_eq c d ≡ false) × (c ≢ d))) →
          (s : Room) × (room_at new d ≡ Some s) × IsGathered d (is_watched old d) new.gathered.missed [] r s
      by d r there (inr t) = (r, others d t.0 ∙ there, still d (is_watched old d) new.gathered.missed [] r r refl refl)
      by d r there (inl t) =
          let here : room_at old c ≡ Some r = ap (room_at old) t.1 ∙ there in
          let m = moves r here in
          subst (λ (i : ℕ). (s : Room) × (room_at new i ≡ Some s) × IsGathered i (is_watched old i) new.gathered.missed [] r s) t.1
          (m.0, m.1, own new.gathered.missed r m.0 m.2 (λ e a w k. unseen r m.0 here m.1 e a w (sym is ∙ k)))

  -- what was gathered is as it was, and no event of it was to be gathered
  kept : ((r s : Room) → room_at old c ≡ Some r → room_at new c ≡ Some s → (e : Event) → Applied r s e → has old.gathered.watched c ≡ true → ⊥) → new.gathered ≡ old.gathered → Gathers old new
  kept unseen same =
      nothing-new old.gathered.missed (λ r s is_r is_s e a w m. unseen r s is_r is_s e a w) (ap (λ (g : Gathered). g.news) same) (ap (λ (g : Gathered). g.watched) same) (λ h. ap (λ (g : Gathered). g.missed) same ∙ h)
      (ap (λ (g : Gathered). g.missed) same)

  -- this was gathered of it
  module _ (b : Before) (r s : Room) (was : room_at old c ≡ Some r) (now : room_at new c ≡ Some s) (conference : b.conference ≡ c) (events : b.events ≡ length r.ledger.journal)
      (are : b.is_known ≡ true → r.ledger.is_broken ≡ false → AreCut (conference_of r.ledger).members b.cut.items) (went : Went r s) (watched : has old.gathered.watched c ≡ true) where
    -- what the event changed
    module _ (n : News) (is : IsNewsIn b s new.changed n) where
      is-news : (e : Event) → closed r.ledger ≡ None → Applied r s e → s.ledger.is_broken ≡ false → IsNews (conference_of r.ledger) (length r.ledger.journal + 1) e n
      is-news e takes a whole =
          let state : conference_of s.ledger ≡ next (conference_of r.ledger) e = ap (λ (z : Room). conference_of z.ledger) a.next ∙ after_from-more (opening r.ledger.config) r.ledger.journal e in
          record {
            place = is.place ∙ longer r s e a;
            changed = is.changed ∙ shows.added c r s e was now (ap (λ (z : Room). z.ledger.journal) a.next) whole;
            cut = cut-by (conference_of r.ledger) (next (conference_of r.ledger) e) b.cut.items is.now n.cut.items (are is.known (opened r.ledger (sym takes)).unbroken)
                (subst (λ (z : Conference). AreCut z.members is.now) state (is.are_cut whole)) is.cut;
          }

      one : Went r s → b.events < length s.ledger.journal → IsGathered c (is_watched old c) new.gathered.missed (n ∷ []) r s
      one (inl same) more = absurd (shorter (ap (λ (z : Room). length z.ledger.journal) same))
        where
          shorter : length s.ledger.journal ≡ length r.ledger.journal → ⊥
          shorter e = omega (arith, e, more, events)
      one (inr (takes, inl broken)) more = record { broken = λ h. broken; went = λ whole. absurd (false_true (sym whole ∙ broken)); unwatched = λ u. absurd (false_true (sym u ∙ watched)) }
      one (inr (takes, inr (e, a))) more = record {
        broken = λ h. absurd (false_true (sym (opened r.ledger (sym takes)).unbroken ∙ h));
        went = λ whole. record {
          events = e ∷ [];
          config = ap (λ (z : Room). z.ledger.config) a.next;
          journal = ap (λ (z : Room). z.ledger.journal) a.next;
          news = λ w m. subst (AreNews (conference_of r.ledger) (length r.ledger.journal) (e ∷ [])) (sym (of-own c n (is.conference ∙ conference))) (is-news e takes a whole, tt);
        };
        unwatched = λ u. absurd (false_true (sym u ∙ watched));
      }

      gathered-one : b.events < length s.ledger.journal → new.gathered ≡ record old.gathered { news = old.gathered.news ++ n ∷ [] } → Gathers old new
      gathered-one more same = record {
        added = n ∷ [];
        news = ap (λ (g : Gathered). g.news) same;
        watched = ap (λ (g : Gathered). g.watched) same;
        missed = λ h. ap (λ (g : Gathered). g.missed) same ∙ h;
        rooms = λ d q there. by d q there (eqb_tells c d);
      }
        where
          by : (d : ℕ) (q : Room) → room_at old d ≡ Some q → (((nat_eq c d ≡ true) × (c ≡ d)) ⊎ ((nat_eq c d ≡ false) × (c ≢ d))) →
              (u : Room) × (room_at new d ≡ Some u) × IsGathered d (is_watched old d) new.gathered.missed (n ∷ []) q u
          by d q there (inr t) = (q, others d t.0 ∙ there, still d (is_watched old d) new.gathered.missed (n ∷ []) q q refl (of-other c d n (is.conference ∙ conference) t.0))
          by d q there (inl t) =
              let same_room : r ≡ q = some_is r q (sym was ∙ ap (room_at old) t.1 ∙ there) in
              subst (λ (i : ℕ). (u : Room) × (room_at new i ≡ Some u) × IsGathered i (is_watched old i) new.gathered.missed (n ∷ []) q u) t.1
              (subst (λ (z : Room). (u : Room) × (room_at new c ≡ Some u) × IsGathered c (is_watched old c) new.gathered.missed (n ∷ []) z u) same_room (s, now, one went more))

    seen : GathersIn b s new.changed old.gathered new.gathered → Gathers old new
    seen (inl t) = kept (λ q u is_q is_u e a w. unseen q u (some_is q r (sym is_q ∙ was)) (some_is u s (sym is_u ∙ now)) (longer q u e a)) t.1
      where
        unseen : (q u : Room) → q ≡ r → u ≡ s → length u.ledger.journal ≡ length q.ledger.journal + 1 → ⊥
        unseen q u same_q same_u more =
            let one_more : length s.ledger.journal ≡ length r.ledger.journal + 1 = ap (λ (z : Room). length z.ledger.journal) (sym same_u) ∙ more ∙ ap (λ (z : Room). length z.ledger.journal + 1) same_q in
            omega (arith, one_more, t.0, events)
    seen (inr (inl same)) =
        nothing-new true (λ q u is_q is_u e a w m. false_true (sym m)) (ap (λ (g : Gathered). g.news) same) (ap (λ (g : Gathered). g.watched) same) (λ h. ap (λ (g : Gathered). g.missed) same)
        (ap (λ (g : Gathered). g.missed) same)
    seen (inr (inr t)) = gathered-one t.0 t.2 t.1 t.3

  -- of the conference it is known how it stood, if it is watched
  pub gathers-at : (b : Option Before) → IsBefore old.gathered.watched (room_at old c) c b → GathersFor b (room_at new) new.changed old.gathered new.gathered → Gathers old new
  gathers-at None before same = kept (λ r s is_r is_s e a w. before.there r is_r w) same
  gathers-at (Some b) before gathers = by (room_at old c) (has old.gathered.watched c) refl refl
    where
      by : (y : Option Room) (w : Bool) → room_at old c ≡ y → has old.gathered.watched c ≡ w → Gathers old new
      by None w is_y is_w = absurd (none_before b (before.absent is_y))
      by (Some r) false is_y is_w = absurd (none_before b (before.unwatched is_w))
      by (Some r) true is_y is_w =
          let stood = before.there r is_y is_w in
          let m = moves r is_y in
          seen b r m.0 is_y m.1 stood.0 stood.1 stood.2 m.2 is_w
          (subst (λ (z : Option Room). GathersAt b z new.changed old.gathered new.gathered) (ap (room_at new) stood.0 ∙ m.1) gathers)

pub gathers-one : (shut why : Option HubRefusal) (event : Room → List Event) (c : ℕ) (old new : Hub) (b : Option Before) → OneRoom shut why event c old new →
    ((r : Room) → room_at old c ≡ Some r → (s : Room) × (room_at new c ≡ Some s) × Went r s) → Shows old new → IsBefore old.gathered.watched (room_at old c) c b →
    GathersFor b (room_at new) new.changed old.gathered new.gathered → Gathers old new
gathers-one shut why event c old new b one moves shows before gathers = gathers-at c old new one.others moves shows b before gathers

-- the same of a connection's conference
pub gathers-of : (shut why : Option HubRefusal) (event : Connection → Room → List Event) (y : Option Connection) (old new : Hub) (b : Option Before) → RoomOf shut why event y old new →
    ((x : Connection) → y ≡ Some x → (r : Room) → room_at old x.conference ≡ Some r → (s : Room) × (room_at new x.conference ≡ Some s) × Went r s) → Shows old new → IsBeforeOf old.gathered.watched (room_at old) y b →
    GathersFor b (room_at new) new.changed old.gathered new.gathered → Gathers old new
gathers-of shut why event None old new b one moves shows before gathers =
    gathers-nothing old new one.0.rooms (subst (λ (z : Option Before). GathersFor z (room_at new) new.changed old.gathered new.gathered) before gathers)
gathers-of shut why event (Some x) old new b one moves shows before gathers = gathers-one shut why (event x) x.conference old new b one (moves x refl) shows before gathers
