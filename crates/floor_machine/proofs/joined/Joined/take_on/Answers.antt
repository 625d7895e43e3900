use Rattle.std.proofs.Common.{◌<◌, ◌∙◌, false, ap, length, rules, set, sym, Option}
use Rattle.std.specs.Option.{option_map_or}
use Rattle.floor_machine.specs.Conference.{is_numbered_from}
use Rattle.floor_machine.specs.declared.member.Member.{Member}
use Rattle.floor_machine.specs.steps.Counting.{counted_at, is_told, taken_on}
use Rattle.floor_machine.proofs.Counting.{n-counted}
use Rattle.floor_machine.proofs.Live.{changed-there, found-there, none-changed, none-found, numbered-map}
use Rattle.floor_machine.proofs.joined.Joined.take_on.Goals as goal

pub returns-then-place-len-clause-value : goal.returns-then-place-len-clause-value
returns-then-place-len-clause-value c =
    let ms = c.args.self.now.members.items in
    let within : c.place_of-place.result < length ms = search rules in
    c.take_on.ensures.value
    ∙ sym (ap (λ (o : Option Member). option_map_or (is_told c.args.due) o false) (found-there c.args.n c.place_of-place.result ms c.index_mut.result.now c.place_of-place.ensures within c.index_mut.ensures.value))

pub returns-then-place-len-clause-members : goal.returns-then-place-len-clause-members
returns-then-place-len-clause-members c =
    let ms = c.args.self.now.members.items in
    let within : c.place_of-place.result < length ms = search rules in
    ap (λ (m : Member). set ms c.place_of-place.result m) c.take_on.ensures.member
    ∙ changed-there c.args.n c.place_of-place.result (taken_on c.args.due) ms c.index_mut.result.now c.args.self.now.numbered c.place_of-place.ensures within c.index_mut.ensures.value

pub returns-else-place-len-clause-value : goal.returns-else-place-len-clause-value
returns-else-place-len-clause-value c =
    let ms = c.args.self.now.members.items in
    sym (ap (λ (o : Option Member). option_map_or (is_told c.args.due) o false) (none-found c.args.n ms (search rules)))

pub returns-else-place-len-clause-members : goal.returns-else-place-len-clause-members
returns-else-place-len-clause-members c =
    let ms = c.args.self.now.members.items in
    sym (none-changed c.args.n (taken_on c.args.due) ms (search rules))

pub invariant_of-self : goal.invariant_of-self
invariant_of-self c =
    let ms = c.args.self.now.members.items in
    let within : c.place_of-place.result < length ms = search rules in
    record {
      numbered =
          ap (λ (m : Member). is_numbered_from 1 (set ms c.place_of-place.result m)) c.take_on.ensures.member
          ∙ ap (is_numbered_from 1) (changed-there c.args.n c.place_of-place.result (taken_on c.args.due) ms c.index_mut.result.now c.args.self.now.numbered c.place_of-place.ensures within c.index_mut.ensures.value)
          ∙ numbered-map (counted_at c.args.due c.args.n) (n-counted c.args.due c.args.n) 1 ms c.args.self.now.numbered;
    }
