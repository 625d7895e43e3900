use Rattle.std.proofs.Common.{◌<◌, ◌∙◌, ap, length, rules, sym}
use Rattle.floor_machine.specs.Conference.{is_numbered_from}
use Rattle.floor_machine.proofs.Live.{changed-there, none-changed}
use Rattle.floor_machine.proofs.Sent.{numbered-watching}
use Rattle.floor_machine.proofs.joined.Joined.watch.Goals as goal

pub returns-then-place-len-clause-members : goal.returns-then-place-len-clause-members
returns-then-place-len-clause-members c =
    let ms = c.args.self.now.members.items in
    let within : c.place_of-place.result < length ms = search rules in
    changed-there c.args.n c.place_of-place.result (λ m. record m { watched = c.args.watched }) ms c.index_mut.result.now c.args.self.now.numbered c.place_of-place.ensures within c.index_mut.ensures.value

pub returns-else-place-len-clause-members : goal.returns-else-place-len-clause-members
returns-else-place-len-clause-members c =
    let ms = c.args.self.now.members.items in
    sym (none-changed c.args.n (λ m. record m { watched = c.args.watched }) ms (search rules))

pub invariant_of-self : goal.invariant_of-self
invariant_of-self c =
    let ms = c.args.self.now.members.items in
    let within : c.place_of-place.result < length ms = search rules in
    record {
      numbered =
          ap (is_numbered_from 1) (changed-there c.args.n c.place_of-place.result (λ m. record m { watched = c.args.watched }) ms c.index_mut.result.now c.args.self.now.numbered c.place_of-place.ensures within c.index_mut.ensures.value)
          ∙ numbered-watching c.args.n c.args.watched 1 ms c.args.self.now.numbered;
    }
