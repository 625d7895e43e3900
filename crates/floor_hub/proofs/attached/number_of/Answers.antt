use Rattle.std.proofs.Common.{List, ap, false, sym}
use Rattle.floor_hub.specs.declared.attached.Live.{Live}
use Rattle.floor_hub.specs.steps.Attached.{numbers_of}
use Rattle.floor_hub.proofs.Searching.{one-found}
use Rattle.floor_hub.proofs.attached.number_of.Goals as goal

pub returns-in-Some : goal.returns-in-Some
returns-in-Some c =
    let d : Live = record { number = 0; n = 0; is_cut = false } in
    record { value = sym (ap (λ (z : List Live). numbers_of z) (one-found c.args.n 0 c.in-Some.place c.args.live.now d c.requires.1 c.in-Some.ensures.found.0 (c.in-Some.ensures.found.1 d))) }
