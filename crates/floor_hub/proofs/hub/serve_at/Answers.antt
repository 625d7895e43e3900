use Rattle.std.proofs.Common.{◌≡◌, ℕ, false, Some, sym, ◌∙◌, ap, subst}
use Rattle.std.specs.Prelude.{Option, nat_eq}
use Rattle.std.proofs.lemmas.Option.{none-some}
use Rattle.indexmap.specs.IndexMap.{get}
use Rattle.floor_hub.specs.declared.connection.Connection.{Connection}
use Rattle.floor_hub.specs.steps.Attached.{ConcernedOf, live_in}
use Rattle.floor_hub.specs.steps.Handed.{HandedOf}
use Rattle.floor_hub.specs.steps.Serving.{ServedIn}
use Rattle.floor_hub.proofs.hub.serve_at.Goals as goal

some_is : (x y : Connection) → ◌≡◌ {A = Option Connection} (Some x) (Some y) → x ≡ y
some_is x y e = cc

pub returns-in-Some : goal.returns-in-Some
returns-in-Some c =
    let was : Connection = c.in-Some.connection.now in
    let made : Connection = c.serve_room.new.connection in record {
      connection = record {
        absent = λ none. absurd (none-some was (sym none ∙ sym c.in-Some.ensures.found));
        there = λ x is r room.
            let same : was ≡ x = some_is was x (c.in-Some.ensures.found ∙ is) in
            let place = c.serve_room.ensures.place in
            let t = c.serve_room.ensures.room r (ap (λ (z : Connection). get nat_eq c.args.rooms.now z.conference) same ∙ room) in (
              t.0,
              Some made,
              ap (λ (z : Connection). get nat_eq c.serve_room.new.rooms z.conference) (sym same) ∙ t.1.1,
              λ d ne. t.1.2 d (subst (λ (z : Connection). nat_eq z.conference d ≡ false) (sym same) ne),
              c.in-Some.ensures.puts x made is,
              (
                made.held,
                ap (λ (i : ℕ). Some (record { conference = i; n = made.n; held = made.held })) (place.0 ∙ ap (λ (z : Connection). z.conference) same)
                    ∙ ap (λ (i : ℕ). Some (record { conference = x.conference; n = i; held = made.held })) (place.1 ∙ ap (λ (z : Connection). z.n) same),
                subst (λ (z : Connection). ServedIn r t.0 z.n z.held made.held c.serve_room.result) same t.2,
              ),
            );
      };
      concerned = subst (λ (z : Option Connection). ConcernedOf (λ x. live_in c.args.concerned.now x.conference) c.serve_room.new.effects.told.items z (get nat_eq c.args.rooms.now) (get nat_eq c.serve_room.new.rooms) c.args.concerned.now c.serve_room.new.concerned)
          c.in-Some.ensures.found c.serve_room.ensures.concerned;
      changed = subst (λ (z : Option Connection). HandedOf z (get nat_eq c.args.rooms.now) (get nat_eq c.serve_room.new.rooms) c.serve_room.new.effects.changed.items)
          c.in-Some.ensures.found c.serve_room.ensures.changed;
    }
