use Rattle.std.proofs.Common.{◌∙◌, ap, sym, List}
use Rattle.std.specs.Prelude.{◌==◌}
use Rattle.std.specs.List.{slice_get}
use Rattle.std.proofs.lemmas.List.Folds.{find_at}
use Rattle.floor_queue.specs.declared.request.Request.{Request}
use Rattle.floor_queue.proofs.ongoing.Ongoing.find.Goals as goal

pub returns : goal.returns
returns c =
    c.request_in.ensures ∙ ap (λ (rs : List Request). slice_get rs c.place_of.result) (c.deref.ensures.value ∙ c.self.view_is)
    ∙ ap (slice_get c.args.self.now) c.place_of.ensures
    ∙ sym (find_at (λ (r : Request). r.number == c.args.number) c.args.self.now)
