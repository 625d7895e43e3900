use Rattle.std.proofs.Common.{◌++◌, List, Option, subst, sym}
use Rattle.std.specs.Prelude.{All}
use Rattle.std.proofs.lemmas.List.Elements.{All-tail}
use Rattle.floor_message.specs.Shown.{IsShown}
use Rattle.floor_message.specs.declared.tell.Tell.{Tell}
use Rattle.floor_machine.specs.steps.Telling.{listed}
use Rattle.floor_machine.proofs.tell.due.put_answer.Goals as goal

pub put_tells-requires-in-Some : goal.put_tells-requires-in-Some
put_tells-requires-in-Some c =
    let all : List Tell → Type 0 = λ ts. All IsShown ts in
    let others : List Tell = c.messages.inside.others.items in
    let S : Option Tell → Type 0 = λ o. All IsShown (listed o ++ others) in
    let whole : All IsShown (listed c.messages.inside.status ++ others) = subst all (sym c.messages.view_is) c.requires in
    subst all (sym c.deref-in-Some.ensures.value) (All-tail IsShown _ others (subst S c.in-Some.is whole))
