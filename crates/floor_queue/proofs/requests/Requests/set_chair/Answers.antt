use Rattle.std.proofs.Common.{◌≡◌, ◌∙◌, ℕ, List, Option, Some, None, ap, map, subst, sym}
use Rattle.std.specs.Prelude.{if◌then◌else◌}
use Rattle.floor_config.specs.declared.floors.Floor.{Floor}
use Rattle.floor_config.specs.Changed.{chaired}
use Rattle.floor_config.specs.Configuration.{floor_ids}
use Rattle.floor_queue.specs.declared.request.Request.{Request}
use Rattle.floor_queue.specs.Queue.{Queue, IsQueue, after_set_chair, loses_chair}
use Rattle.floor_queue.specs.steps.Lines.{AreLines, without_lost}
use Rattle.floor_queue.proofs.Chairs.{AreMarked-all, IsQueue-set_chair, ids-chaired, involves-without_lost, number-without_lost, ongoing_then}
use Rattle.floor_queue.proofs.Firsts.{some_floors}
use Rattle.floor_queue.proofs.Lining.{AreLines-with_mark}
use Rattle.floor_queue.proofs.Parting.{AreParties-kept}
use Rattle.floor_queue.proofs.requests.Requests.set_chair.Goals as goal

pub change_chairs-requires : goal.change_chairs-requires
change_chairs-requires c =
    let before : c.deref-3.result.now ≡ c.self.inside.floors.items = c.deref-3.ensures.value ∙ c.in_ok-before.ensures.items ∙ c.deref.ensures.value in
    let now : c.deref-4.result.now ≡ map (chaired c.args.floor c.args.chair) c.self.inside.floors.items = c.deref-4.ensures.value ∙ c.put_chair.ensures in
    record {
      lines = subst (λ (floors : List Floor). AreLines floors c.self.inside.ongoing c.self.inside.lines) (sym before) c.self.invariant.1;
      floors = ap floor_ids now ∙ ids-chaired c.args.floor c.args.chair c.self.inside.floors.items ∙ ap floor_ids (sym before);
    }

pub invariant_of-self : goal.invariant_of-self
invariant_of-self c =
    let q : Queue = record { floors = c.self.inside.floors.items; given = c.self.inside.given; ongoing = c.self.inside.ongoing } in
    let lost : Option ℕ = c.lost_chair-lost.result in
    let floors : List Floor = c.put_chair.new.floors.items in
    let lines : AreLines floors c.change_chairs.new.self c.change_chairs.new.lines =
    subst (λ (floors : List Floor). AreLines floors c.change_chairs.new.self c.change_chairs.new.lines) c.deref-4.ensures.value c.change_chairs.ensures.lines in
    let now : IsQueue (record { floors = floors; given = q.given; ongoing = c.change_chairs.new.self }) =
    rw (c.put_chair.ensures, c.change_chairs.ensures.next) (IsQueue-set_chair q c.args.floor c.args.chair lost c.self.invariant.0) in (
      now,
      rw c.mark_all.ensures (AreLines-with_mark floors c.change_chairs.new.self c.change_chairs.new.lines lines),
      rw c.mark_all.ensures
          (AreMarked-all floors c.change_chairs.new.self c.change_chairs.new.lines lines.floors_same (some_floors record { floors = floors; given = q.given; ongoing = c.change_chairs.new.self } now)),
      rw c.change_chairs.ensures.next
          (AreParties-kept (without_lost lost) (number-without_lost lost) (involves-without_lost lost) q.ongoing c.self.inside.parties c.self.invariant.3),
    )

pub returns-clause-next : goal.returns-clause-next
returns-clause-next c =
    let made : List Floor → List Request → Queue = λ floors requests. record { floors = floors; given = c.self.inside.given; ongoing = requests } in
    let before : c.deref-2.result.now ≡ c.self.inside.floors.items = c.deref-2.ensures.value ∙ c.in_ok-before.ensures.items ∙ c.deref.ensures.value in
    let lost : c.lost_chair-lost.result ≡ (if loses_chair c.self.inside.floors.items c.args.floor c.args.chair then Some c.args.floor else None) =
    c.lost_chair-lost.ensures ∙ ap (λ (floors : List Floor). if loses_chair floors c.args.floor c.args.chair then Some c.args.floor else None) before in
    ap (λ (floors : List Floor). made floors c.change_chairs.new.self) c.put_chair.ensures
    ∙ ap (made (map (chaired c.args.floor c.args.chair) c.self.inside.floors.items))
    (c.change_chairs.ensures.next ∙ ap (λ (lost : Option ℕ). map (without_lost lost) c.self.inside.ongoing) lost ∙ ongoing_then c.self.inside.floors.items c.args.floor c.args.chair c.self.inside.ongoing)
    ∙ ap (λ (q : Queue). after_set_chair q c.args.floor c.args.chair) c.self.view_is
