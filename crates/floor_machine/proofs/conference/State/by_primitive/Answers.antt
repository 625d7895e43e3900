use Rattle.std.proofs.Common.{ap, sym, ◌∙◌}
use Rattle.floor_message.specs.declared.ask.Ask.{Ask}
use Rattle.floor_machine.specs.steps.Deciding.{asked}
use Rattle.floor_machine.specs.steps.Serving.{conference_of}
use Rattle.floor_machine.proofs.conference.State.by_primitive.Goals as goal

pub returns-in-FloorRequest : goal.returns-in-FloorRequest
returns-in-FloorRequest c =
    let n = c.args.sender.now.n in
    let user = c.args.sender.now.user in
    record { value = c.decide_request.ensures.value n ∙ ap (λ (a : Ask). asked (conference_of c.args.self.now) n user a) (sym c.in-FloorRequest.is) }

pub returns-in-FloorRelease : goal.returns-in-FloorRelease
returns-in-FloorRelease c =
    let n = c.args.sender.now.n in
    let user = c.args.sender.now.user in
    record { value = c.decide_release.ensures.value n ∙ ap (λ (a : Ask). asked (conference_of c.args.self.now) n user a) (sym c.in-FloorRelease.is) }

pub returns-in-FloorRequestQuery : goal.returns-in-FloorRequestQuery
returns-in-FloorRequestQuery c =
    let n = c.args.sender.now.n in
    let user = c.args.sender.now.user in
    record { value = c.decide_query.ensures.value n user ∙ ap (λ (a : Ask). asked (conference_of c.args.self.now) n user a) (sym c.in-FloorRequestQuery.is) }

pub returns-in-UserQuery : goal.returns-in-UserQuery
returns-in-UserQuery c =
    let n = c.args.sender.now.n in
    let user = c.args.sender.now.user in
    record { value = c.decide_user.ensures.value n user ∙ ap (λ (a : Ask). asked (conference_of c.args.self.now) n user a) (sym c.in-UserQuery.is) }

pub returns-in-ChairAction : goal.returns-in-ChairAction
returns-in-ChairAction c =
    let n = c.args.sender.now.n in
    let user = c.args.sender.now.user in
    record { value = c.decide_action.ensures.value n ∙ ap (λ (a : Ask). asked (conference_of c.args.self.now) n user a) (sym c.in-ChairAction.is) }

pub returns-in-Hello : goal.returns-in-Hello
returns-in-Hello c =
    let n = c.args.sender.now.n in
    let user = c.args.sender.now.user in
    record { value = c.decide_hello.ensures.value n user ∙ ap (λ (a : Ask). asked (conference_of c.args.self.now) n user a) (sym c.in-Hello.is) }
