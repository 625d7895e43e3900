use Rattle.std.proofs.Common.{◌∙◌, ◌++◌, ◌∷◌, [], List, true, inl, inr, ap, arith, length}
use Rattle.floor_hub.specs.News.{Gathered}
use Rattle.floor_hub.specs.declared.news.News.{News}
use Rattle.floor_hub.proofs.news.Gathered.gather_in.Goals.{in-Ok-push, in-Err-push}
use Rattle.floor_hub.proofs.news.Gathered.gather_in.Goals as goal

pub returns-after-push : goal.returns-after-push
returns-after-push c = record {
  next = elim c.match-push.branch [
    | in-Ok-push w ↦ inr (inr (
      c.in-Ok.news,
      omega (arith, c.if-journal-before.false, ap length c.journal.ensures.value),
      c.in-Ok.ensures.value,
      w.self-is ∙ ap (λ (ns : List News). record { watched = c.self.inside.watched.keys; news = ns; missed = c.self.inside.missed }) w.in-Ok-push.ensures.items
          ∙ ap (λ (g : Gathered). record g { news = g.news ++ c.in-Ok.news ∷ [] }) c.self.view_is,
    ))
    | in-Err-push w ↦ inr (inl (
        w.self-is ∙ ap (λ (ns : List News). record { watched = c.self.inside.watched.keys; news = ns; missed = true }) w.in-Err-push.ensures.items
        ∙ ap (λ (g : Gathered). record g { missed = true }) c.self.view_is
        ))
  ];
}
