use Rattle.std.proofs.Common.{◌≡◌, ◌≢◌, ◌⊎◌, inl, inr, ℕ, ◌≤◌, Bool, true, false, Some, None, ap, refl, subst, sym, ◌∙◌}
use Rattle.std.specs.Prelude.{Option, nat_eq}
use Rattle.std.proofs.lemmas.Bool.Decides.{eqb_tells}
use Rattle.std.proofs.lemmas.Option.{none-some}
use Rattle.floor_room.specs.Room.{Room}
use Rattle.floor_hub.specs.declared.connection.Connection.{Connection}
use Rattle.floor_hub.specs.Connections.{connection_at}
use Rattle.floor_hub.specs.Hub.{Hub, room_at}
use Rattle.floor_hub.specs.Members.{user_of}
use Rattle.floor_loop.specs.declared.stay.Stay.{Stay}
use Rattle.floor_loop.specs.Away.{Away, stay_of}
use Rattle.floor_loop.specs.steps.Losing.{is_away}
use Rattle.floor_loop.specs.steps.Moved.{IsLoop, loop_of}
use Rattle.floor_loop.proofs.Moving.{live-came}
use Rattle.floor_loop.proofs.coming.keep.Goals as goal

same : (s t : Stay) → ◌≡◌ {A = Option Stay} (Some s) (Some t) → s ≡ t
same s t e = cc

pub returns-in-Some-clause-user : goal.returns-in-Some-clause-user
returns-in-Some-clause-user c = λ e x r s is_x is_r is_s.
    sym (c.user_at.ensures.found x r is_x is_r) ∙ c.in-Some.is ∙ ap (λ (z : Stay). Some z.user) (sym (same s _ (sym is_s ∙ c.keep_for.ensures.away e)))

pub returns-in-Some-clause-leaves : goal.returns-in-Some-clause-leaves
returns-in-Some-clause-leaves c = λ e other. absurd (other (c.keep_for.ensures.stays e))

pub returns-in-None-clause-leaves : goal.returns-in-None-clause-leaves
returns-in-None-clause-leaves c = λ e other x r is_x is_r. sym (c.user_at.ensures.found x r is_x is_r) ∙ c.in-None.is

abbrev Own : Hub → ℕ → Stay → Type 0
Own hub k s = (k ≤ hub.arrivals) × ((x : Connection) (r : Room) → connection_at hub.connections k ≡ Some x → room_at hub x.conference ≡ Some r → user_of r.ledger.journal x.n ≡ Some s.user)

pub returns-in-Some-clause-own : goal.returns-in-Some-clause-own
returns-in-Some-clause-own c = λ l k s is. by l k s is (is_away c.keep_for.result) refl
  where
    here : IsLoop (loop_of c.args.hub.now c.args.attended.now) → (k : ℕ) (s : Stay) → stay_of c.keep_for.new.attended.away k ≡ Some s → is_away c.keep_for.result ≡ true → c.args.number ≡ k →
        (z : Option Connection) → connection_at c.args.hub.now.connections c.args.number ≡ z → Own c.args.hub.now k s
    here l k s is e at None none = absurd (none-some c.in-Some.user (sym (c.user_at.ensures.none none) ∙ c.in-Some.is))
    here l k s is e at (Some x) there = (
      subst (λ (j : ℕ). j ≤ c.args.hub.now.arrivals) at (live-came c.args.hub.now l.world c.args.number x l.stands there),
      λ y r is_y is_r. returns-in-Some-clause-user c e y r s (ap (connection_at c.args.hub.now.connections) at ∙ is_y) is_r (ap (stay_of c.keep_for.new.attended.away) at ∙ is),
    )

    which : IsLoop (loop_of c.args.hub.now c.args.attended.now) → (k : ℕ) (s : Stay) → stay_of c.keep_for.new.attended.away k ≡ Some s → is_away c.keep_for.result ≡ true →
        (((nat_eq c.args.number k ≡ true) × (c.args.number ≡ k)) ⊎ ((nat_eq c.args.number k ≡ false) × (c.args.number ≢ k))) → Own c.args.hub.now k s
    which l k s is e (inl t) = here l k s is e t.1 (connection_at c.args.hub.now.connections c.args.number) refl
    which l k s is e (inr t) = l.own k s (sym (c.keep_for.ensures.others k t.0) ∙ is)

    by : IsLoop (loop_of c.args.hub.now c.args.attended.now) → (k : ℕ) (s : Stay) → stay_of c.keep_for.new.attended.away k ≡ Some s → (b : Bool) → is_away c.keep_for.result ≡ b → Own c.args.hub.now k s
    by l k s is true e = which l k s is e (eqb_tells c.args.number k)
    by l k s is false e = l.own k s (ap (λ (z : Away). stay_of z k) (sym (c.keep_for.ensures.left e)) ∙ is)

pub returns-in-None-clause-own : goal.returns-in-None-clause-own
returns-in-None-clause-own c = λ l. l.own
