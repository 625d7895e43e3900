-- What the calls of a hub gather, one after another.
use Rattle.std.proofs.Common.{◌≡◌, ℕ, ◌+◌, ◌++◌, Bool, true, false, List, [], ◌∷◌, arith, length, refl, sym, ◌∙◌, ap, subst, append_assoc, append-nil, length-append, Some}
use Rattle.std.specs.Prelude.{nat_eq}
use Rattle.floor_config.specs.Configuration.{Configuration}
use Rattle.floor_machine.specs.Conference.{Conference, opening}
use Rattle.floor_machine.specs.Journal.{after_from}
use Rattle.floor_machine.specs.Next.{next}
use Rattle.floor_machine.specs.declared.event.Event.{Event}
use Rattle.floor_room.specs.Ledger.{Ledger, conference_of}
use Rattle.floor_room.specs.Room.{Room}
use Rattle.floor_hub.specs.declared.news.News.{News}
use Rattle.floor_hub.specs.Gathers.{Gathers, IsGathered, WentOn}
use Rattle.floor_hub.specs.Hub.{Hub, is_watched, room_at}
use Rattle.floor_hub.specs.News.{AreNews, Gathered, has, news_of}
use Rattle.floor_loop.specs.Loop.{Attended}
use Rattle.floor_loop.specs.steps.Moved.{IsLoop, loop_of}

false_true : false ≡ true → ⊥
false_true e = cc

-- each room has its ledger, and nothing was gathered

still : (c : ℕ) (watched missed : Bool) (r s : Room) → s.ledger ≡ r.ledger → IsGathered c watched missed [] r s
still c watched missed r s same = record {
  broken = λ h. ap (λ (l : Ledger). l.is_broken) same ∙ h;
  went = λ whole. record {
    events = [];
    config = ap (λ (l : Ledger). l.config) same;
    journal = ap (λ (l : Ledger). l.journal) same ∙ sym (append-nil r.ledger.journal);
    news = λ w m. tt;
  };
  unwatched = λ w. refl;
}

pub gathers-ledgers : (old new : Hub) → ((c : ℕ) (r : Room) → room_at old c ≡ Some r → (s : Room) × (room_at new c ≡ Some s) × (s.ledger ≡ r.ledger)) → new.gathered ≡ old.gathered → Gathers old new
gathers-ledgers old new ledgers kept = record {
  added = [];
  news = ap (λ (g : Gathered). g.news) kept ∙ sym (append-nil old.gathered.news);
  watched = ap (λ (g : Gathered). g.watched) kept;
  missed = λ h. ap (λ (g : Gathered). g.missed) kept ∙ h;
  rooms = λ c r is.
      let t = ledgers c r is in
      (t.0, t.1, still c (is_watched old c) new.gathered.missed r t.0 t.2);
}

pub gathers-refl : (a : Hub) → Gathers a a
gathers-refl a = gathers-ledgers a a (λ c r is. (r, is, refl)) refl

-- one call after another

news-both : (c : ℕ) (xs ys : List News) → news_of c (xs ++ ys) ≡ news_of c xs ++ news_of c ys
news-both c [] ys = refl
news-both c (x ∷ xs) ys = by (news-both c xs ys) (nat_eq c x.conference) refl
  where
    by : news_of c (xs ++ ys) ≡ news_of c xs ++ news_of c ys → (b : Bool) → nat_eq c x.conference ≡ b → news_of c ((x ∷ xs) ++ ys) ≡ news_of c (x ∷ xs) ++ news_of c ys
    by rest true e = rw e (ap (λ (zs : List News). x ∷ zs) rest)
    by rest false e = rw e rest

after-both : (s : Conference) (es fs : List Event) → after_from s (es ++ fs) ≡ after_from (after_from s es) fs
after-both s [] fs = refl
after-both s (e ∷ es) fs = after-both (next s e) es fs

are-both : (s : Conference) (n : ℕ) (es fs : List Event) (xs ys : List News) → AreNews s n es xs → AreNews (after_from s es) (n + length es) fs ys → AreNews s n (es ++ fs) (xs ++ ys)
are-both s n [] fs [] ys a b = let none : n + 0 ≡ n = omega arith in subst (λ (k : ℕ). AreNews s k fs ys) none b
are-both s n [] fs (x ∷ xs) ys a b = absurd a
are-both s n (e ∷ es) fs [] ys a b = absurd a
are-both s n (e ∷ es) fs (x ∷ xs) ys a b =
    let more : n + length (e ∷ es) ≡ (n + 1) + length es = omega arith in
    (a.0, are-both (next s e) (n + 1) es fs xs ys a.1 (subst (λ (k : ℕ). AreNews (after_from (next s e) es) k fs ys) more b))

-- what was true is so, where it isn't now
unless : (a b : Bool) → (a ≡ true → b ≡ true) → b ≡ false → a ≡ false
unless true b f e = absurd (false_true (sym e ∙ f refl))
unless false b f e = refl

went-both : (c : ℕ) (w m k : Bool) (xs ys : List News) (r s t : Room) → (m ≡ true → k ≡ true) → WentOn c w m xs r s → WentOn c w k ys s t → WentOn c w k (xs ++ ys) r t
went-both c w m k xs ys r s t missed f g =
    let state : conference_of s.ledger ≡ after_from (conference_of r.ledger) f.events =
    ap (λ (l : Configuration). after_from (opening l) s.ledger.journal) f.config ∙ ap (after_from (opening r.ledger.config)) f.journal ∙ after-both (opening r.ledger.config) r.ledger.journal f.events in
    let count : length s.ledger.journal ≡ length r.ledger.journal + length f.events = ap length f.journal ∙ length-append r.ledger.journal f.events in
    record {
      events = f.events ++ g.events;
      config = g.config ∙ f.config;
      journal = g.journal ∙ ap (λ (es : List Event). es ++ g.events) f.journal ∙ append_assoc r.ledger.journal f.events g.events;
      news = λ u v. subst (AreNews (conference_of r.ledger) (length r.ledger.journal) (f.events ++ g.events)) (sym (news-both c xs ys))
          (are-both (conference_of r.ledger) (length r.ledger.journal) f.events g.events (news_of c xs) (news_of c ys) (f.news u (unless m k missed v))
          (subst (λ (n : ℕ). AreNews (after_from (conference_of r.ledger) f.events) n g.events (news_of c ys)) count
          (subst (λ (q : Conference). AreNews q (length s.ledger.journal) g.events (news_of c ys)) state (g.news u v))));
    }

gathered-both : (c : ℕ) (w m k : Bool) (xs ys : List News) (r s t : Room) → (m ≡ true → k ≡ true) → IsGathered c w m xs r s → IsGathered c w k ys s t → IsGathered c w k (xs ++ ys) r t
gathered-both c w m k xs ys r s t missed f g = record {
  broken = λ h. g.broken (f.broken h);
  went = λ whole. went-both c w m k xs ys r s t missed (f.went (unless s.ledger.is_broken t.ledger.is_broken g.broken whole)) (g.went whole);
  unwatched = λ u. news-both c xs ys ∙ ap (λ (zs : List News). zs ++ news_of c ys) (f.unwatched u) ∙ g.unwatched u;
}

pub gathers-both : (a b c : Hub) → Gathers a b → Gathers b c → Gathers a c
gathers-both a b c f g = record {
  added = f.added ++ g.added;
  news = g.news ∙ ap (λ (zs : List News). zs ++ g.added) f.news ∙ append_assoc a.gathered.news f.added g.added;
  watched = g.watched ∙ f.watched;
  missed = λ h. g.missed (f.missed h);
  rooms = λ d r is.
      let s = f.rooms d r is in
      let t = g.rooms d s.0 s.1 in (
        t.0,
        t.1,
        gathered-both d (is_watched a d) b.gathered.missed c.gathered.missed f.added g.added r s.0 t.0 g.missed s.2
            (subst (λ (w : Bool). IsGathered d w c.gathered.missed g.added s.0 t.0) (ap (λ (ws : List ℕ). has ws d) f.watched) t.2),
      );
}

-- a loop of which nothing has changed but what is gathered
pub loop-gathers : (h : Hub) (g : Gathered) (a : Attended) → IsLoop (loop_of h a) → IsLoop (loop_of (record h { gathered = g }) a)
loop-gathers h g a l = record {
  world = l.world;
  stands = record {
    kept = l.stands.kept;
    numbered = l.stands.numbered;
    stands = record {
      conferences = l.stands.stands.conferences;
      count = l.stands.stands.count;
      numbers = l.stands.stands.numbers;
      apart = l.stands.stands.apart;
      remembered = l.stands.stands.remembered;
    };
  };
  serving = λ number x is.
      let t = l.serving number x is in
      record { outgoing = t.outgoing; room = t.room; found = t.found; there = t.there; conference = t.conference; on_its_way = t.on_its_way };
  timed = l.timed;
  own = l.own;
}
