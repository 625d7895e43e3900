use Rattle.std.proofs.Common.{◌≡◌, ◌∙◌, ℕ, ◌+◌, ◌<◌, Bool, true, List, [], ◌∷◌, ◌++◌, Option, Some, length, set, take, drop, ap, sym, subst, arith}
use Rattle.std.specs.Prelude.{◌==◌, IsSomeAnd, IsTrue}
use Rattle.std.proofs.lemmas.Option.{get_or_from_slice_get}
use Rattle.floor_config.specs.Configuration.{Configuration}
use Rattle.floor_queue.specs.declared.request.Request.{Request}
use Rattle.floor_message.specs.declared.information.Info.{Info}
use Rattle.floor_machine.specs.Shown.{entry_of, info}
use Rattle.floor_machine.specs.steps.Renewing.{differs, info_here, shown_if}
use Rattle.floor_machine.specs.steps.Telling.{info_with, listed}
use Rattle.floor_machine.proofs.Asked.{on_ok}
use Rattle.floor_machine.proofs.InPlace.{IsThere, if_ok_on, there}
use Rattle.floor_machine.proofs.Places.{here_there, here_within, put-stead}
use Rattle.floor_machine.proofs.Renewed.{request-info}
use Rattle.floor_machine.proofs.tell.renewing.show_at.Goals as goal

-- what stands at the place is all but its statuses
abbrev IsDescribed : Configuration → Request → Info → Type 0
IsDescribed config r i = i ≡ record (info_with config r 0 []) { overall = i.overall; floors = i.floors }

stands : (config : Configuration) (r : Request) (known : Bool) (infos infos' : List Info) (place : ℕ) → infos' ≡ infos → known ≡ true →
    (IsTrue known → IsSomeAnd (info_here infos' place r.number) (IsDescribed config r)) → IsThere (info_here infos place r.number) (IsDescribed config r)
stands config r known infos infos' place same passes h =
    there (info_here infos place r.number) (IsDescribed config r)
    (let P : List Info → Type 0 = λ is. IsSomeAnd (info_here is place r.number) (IsDescribed config r) in subst P same (h passes))

pub index_mut-requires : goal.index_mut-requires
index_mut-requires c =
    let r = c.args.ongoing.now.request.now in
    let infos : List Info = c.args.infos.now.items in
    let found = stands c.args.ongoing.now.settled.config.now r c.is_described_at.result infos c.deref.result.now c.args.place c.deref.ensures.value c.if-is_described_at.true c.is_described_at.ensures.0 in
    let inside : c.args.place < length infos = here_within (λ i. i.request == r.number) infos c.args.place found.value found.is in
    omega (arith, inside, ap (λ (is : List Info). length is) c.deref.ensures.value, c.deref.ensures.len)

pub update-requires : goal.update-requires
update-requires c =
    let config = c.args.ongoing.now.settled.config.now in
    let r = c.args.ongoing.now.request.now in
    let infos : List Info = c.args.infos.now.items in
    let found = stands config r c.is_described_at.result infos c.deref.result.now c.args.place c.deref.ensures.value c.if-is_described_at.true c.is_described_at.ensures.0 in
    let same : found.value ≡ c.index_mut.result.now =
    sym (c.index_mut.ensures.value ∙ get_or_from_slice_get infos c.args.place found.value c.index_mut.result.now (here_there (λ i. i.request == r.number) infos c.args.place found.value found.is)) in
    subst (IsDescribed config r) same found.holds

pub returns-then-is_described_at-clause-infos : goal.returns-then-is_described_at-clause-infos
returns-then-is_described_at-clause-infos c =
    let config = c.args.ongoing.now.settled.config.now in
    let r = c.args.ongoing.now.request.now in
    let infos : List Info = c.args.infos.now.items in
    let now : Info = info config c.args.ongoing.now.settled.requests.now.ongoing r in
    let found = stands config r c.is_described_at.result infos c.deref.result.now c.args.place c.deref.ensures.value c.if-is_described_at.true c.is_described_at.ensures.0 in
    on_ok c.update.result (λ is. ap (λ (x : Info). set infos c.args.place x) is ∙ put-stead (λ i. i.request == r.number) infos c.args.place now found.value found.is) c.update.ensures.now

pub returns-then-is_described_at-clause-changed : goal.returns-then-is_described_at-clause-changed
returns-then-is_described_at-clause-changed c =
    let config = c.args.ongoing.now.settled.config.now in
    let r = c.args.ongoing.now.request.now in
    let infos : List Info = c.args.infos.now.items in
    let now : Info = info config c.args.ongoing.now.settled.requests.now.ongoing r in
    let found = stands config r c.is_described_at.result infos c.deref.result.now c.args.place c.deref.ensures.value c.if-is_described_at.true c.is_described_at.ensures.0 in
    let same : c.index_mut.result.now ≡ found.value =
    c.index_mut.ensures.value ∙ get_or_from_slice_get infos c.args.place found.value c.index_mut.result.now (here_there (λ i. i.request == r.number) infos c.args.place found.value found.is) in
    let old : Some c.index_mut.result.now ≡ info_here infos c.args.place r.number = ap (λ (i : Info). Some i) same ∙ sym found.is in
    if_ok_on c.update.result (λ x is changed. changed
    ∙ ap (λ (i : Info). shown_if (differs (Some c.index_mut.result.now) i) i) is
    ∙ ap (λ (o : Option Info). shown_if (differs o now) now) old)
    c.update.ensures.now c.update.ensures.changed

pub returns-clause-infos : goal.returns-clause-infos
returns-clause-infos c =
    let config = c.args.ongoing.now.settled.config.now in
    let ongoing = c.args.ongoing.now.settled.requests.now.ongoing in
    let r = c.args.ongoing.now.request.now in
    let infos : List Info = c.args.infos.now.items in
    let place = c.args.place in
    let now : Info = info config ongoing r in
    let is : c.in_ok-shared.shared ≡ now = c.in_ok-shared.ensures.value ∙ c.in_ok-info.ensures.value in
    c.in_ok-put_info.ensures
    ∙ ap (λ (x : Info). take place infos ++ x ∷ drop (place + length (listed (info_here infos place x.request))) infos) is
    ∙ ap (λ (n : ℕ). take place infos ++ now ∷ drop (place + length (listed (info_here infos place n))) infos) (request-info config ongoing (entry_of r))

pub returns-clause-changed : goal.returns-clause-changed
returns-clause-changed c =
    let config = c.args.ongoing.now.settled.config.now in
    let ongoing = c.args.ongoing.now.settled.requests.now.ongoing in
    let r = c.args.ongoing.now.request.now in
    let infos : List Info = c.args.infos.now.items in
    let place = c.args.place in
    let now : Info = info config ongoing r in
    let made : c.in_ok-info.info ≡ now = c.in_ok-info.ensures.value in
    let is : c.in_ok-shared.shared ≡ now = c.in_ok-shared.ensures.value ∙ made in
    let changed : c.differs-is_changed.result ≡ differs (info_here infos place r.number) now =
    c.differs-is_changed.ensures
    ∙ ap (λ (is : List Info). differs (info_here is place c.in_ok-info.info.request) c.in_ok-info.info) c.deref-2.ensures.value
    ∙ ap (λ (x : Info). differs (info_here infos place x.request) x) made
    ∙ ap (λ (n : ℕ). differs (info_here infos place n) now) (request-info config ongoing (entry_of r)) in
    c.in_ok-changed.ensures
    ∙ ap (λ (b : Bool). shown_if b c.in_ok-shared.shared) changed
    ∙ ap (λ (x : Info). shown_if (differs (info_here infos place r.number) now) x) is
