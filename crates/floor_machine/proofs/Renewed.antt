-- What is shown of each request after an event.
use Rattle.std.proofs.Common.{◌≡◌, ℕ, ◌+◌, Bool, true, false, cond, List, [], ◌∷◌, ◌++◌, Option, Some, None, refl, sym, ap, subst, ◌∙◌, append_assoc, append-nil}
use Rattle.std.specs.Prelude.{◌==◌, All, not, find, option_map, drop, take, length}
use Rattle.std.specs.Option.{option_map_or}
use Rattle.std.proofs.lemmas.List.Elements.{All-append, All-cons, All-drop, All-same, All-take}
use Rattle.floor_config.specs.Configuration.{Configuration}
use Rattle.std.proofs.lemmas.Bool.{eqb-true}
use Rattle.floor_queue.specs.declared.request.Request.{Request}
use Rattle.floor_queue.specs.Queue.{request_at}
use Rattle.floor_message.specs.Shown.{IsShownInfo}
use Rattle.floor_message.specs.declared.information.Info.{Info}
use Rattle.floor_machine.specs.declared.course.Ended.{Ended}
use Rattle.floor_machine.specs.declared.information.shown.Shown.{Shown}
use Rattle.floor_machine.specs.declared.tell.renewing.Changes.{Changes}
use Rattle.floor_machine.specs.declared.tell.changed.Update.{Update}
use Rattle.floor_machine.specs.Shown.{Entry, entry_of, info, info_of}
use Rattle.floor_machine.specs.steps.Renewing.{IsRenewed, differs, floors_before, floors_shown, info_here, now_at, update_from}
use Rattle.floor_machine.specs.steps.Telling.{entry_of_ended, listed, shown_at, shown_of, update_of}
use Rattle.floor_machine.proofs.SameInfo.{info_own}
use Rattle.floor_machine.proofs.Places.{at-place}
use Rattle.floor_machine.proofs.Shows.{shown_of-ended}

-- an info has the number of its request
pub request-info : (config : Configuration) (ongoing : List Request) (e : Entry) → (info_of config ongoing e).request ≡ e.request.number
unfolding info_of
request-info config ongoing e = refl

-- the status of a request that is shown otherwise
pub update-differing : (old : Option Info) (s : Shown) (us vs : List Update) → differs old s.info ≡ true → vs ≡ us ++ update_of s ∷ [] → vs ≡ us ++ update_from old (Some s)
update-differing old s us vs h put = put ∙ ap (λ (b : Bool). us ++ cond b (update_of s ∷ []) []) (sym h)

-- no status of one that is shown as before
pub update-same : (old : Option Info) (s : Shown) (us : List Update) → differs old s.info ≡ false → us ≡ us ++ update_from old (Some s)
update-same old s us h = sym (append-nil us) ∙ ap (λ (b : Bool). us ++ cond b (update_of s ∷ []) []) (sym h)

-- a request that is shown otherwise is put in the stead of its old info
pub renewed-differing : (config : Configuration) (ongoing : List Request) (r : Request) (place : ℕ) (before after : List Info) (changes changes' : Changes) →
    differs (info_here before place r.number) (info config ongoing r) ≡ true →
    after ≡ take place before ++ info config ongoing r ∷ drop (place + length (listed (info_here before place r.number))) before →
    changes'.updates ≡ changes.updates ++ update_of (shown_of config ongoing (entry_of r)) ∷ [] →
    changes'.floors.items ≡ (changes.floors.items ++ floors_before (info_here before place r.number)) ++ floors_shown (info config ongoing r) →
    IsRenewed place (info_here before place r.number) (Some (info config ongoing r)) (Some (shown_of config ongoing (entry_of r))) before after changes changes'
renewed-differing config ongoing r place before after changes changes' otherwise put updates floors =
    let now : Info = info config ongoing r in
    let old : Option Info = info_here before place r.number in
    record {
      infos = put ∙ sym (append_assoc (take place before) (now ∷ []) (drop (place + length (listed old)) before));
      updates = update-differing old (shown_of config ongoing (entry_of r)) changes.updates changes'.updates otherwise updates;
      floors =
          floors
          ∙ append_assoc changes.floors.items (floors_before old) (floors_shown now)
          ∙ ap (λ (b : Bool). changes.floors.items ++ cond b (floors_before old ++ floors_shown now) []) (sym otherwise);
    }

-- of one that is shown as before nothing is told
pub renewed-same : (config : Configuration) (ongoing : List Request) (r : Request) (place : ℕ) (before after : List Info) (changes changes' : Changes) →
    differs (info_here before place r.number) (info config ongoing r) ≡ false →
    after ≡ take place before ++ info config ongoing r ∷ drop (place + length (listed (info_here before place r.number))) before →
    changes'.updates ≡ changes.updates → changes'.floors.items ≡ changes.floors.items →
    IsRenewed place (info_here before place r.number) (Some (info config ongoing r)) (Some (shown_of config ongoing (entry_of r))) before after changes changes'
renewed-same config ongoing r place before after changes changes' same put updates floors =
    let now : Info = info config ongoing r in
    let old : Option Info = info_here before place r.number in
    record {
      infos = put ∙ sym (append_assoc (take place before) (now ∷ []) (drop (place + length (listed old)) before));
      updates = updates ∙ update-same old (shown_of config ongoing (entry_of r)) changes.updates same;
      floors =
          floors ∙ sym (append-nil changes.floors.items) ∙ ap (λ (b : Bool). changes.floors.items ++ cond b (floors_before old ++ floors_shown now) []) (sym same);
    }

-- a request that is shown as before stays
pub renewed-standing : (config : Configuration) (ongoing : List Request) (r : Request) (place : ℕ) (before : List Info) (changes : Changes) →
    info_here before place r.number ≡ Some (info config ongoing r) →
    IsRenewed place (info_here before place r.number) (Some (info config ongoing r)) (Some (shown_of config ongoing (entry_of r))) before before changes changes
renewed-standing config ongoing r place before changes stands =
    let now : Info = info config ongoing r in
    let old : Option Info = info_here before place r.number in
    let same : differs old now ≡ false = ap (λ (o : Option Info). differs o now) stands ∙ ap (λ (b : Bool). not b) (info_own now) in
    record {
      infos =
          at-place (λ x. x.request == r.number) before place now stands
          ∙ sym (append_assoc (take place before) (now ∷ []) (drop (place + length (listed old)) before));
      updates = update-same old (shown_of config ongoing (entry_of r)) changes.updates same;
      floors = sym (append-nil changes.floors.items) ∙ ap (λ (b : Bool). changes.floors.items ++ cond b (floors_before old ++ floors_shown now) []) (sym same);
    }

-- the test of a request as it ended
pub differs-ended : (config : Configuration) (d : Ended) (i : Info) (place : ℕ) (infos : List Info) → i ≡ info_of config [] (entry_of_ended d) →
    differs (info_here infos place d.request.number) (info_of config [] (entry_of_ended d)) ≡ differs (info_here infos place i.request) i
differs-ended config d i place infos same =
    ap (λ (n : ℕ). differs (info_here infos place n) (info_of config [] (entry_of_ended d))) (sym (request-info config [] (entry_of_ended d)))
    ∙ ap (λ (x : Info). differs (info_here infos place x.request) x) (sym same)

-- the infos fit still where one that fits was put among them
pub fit-put : (place number : ℕ) (before after : List Info) (i : Info) → IsShownInfo i →
    after ≡ take place before ++ i ∷ drop (place + length (listed (info_here before place number))) before → All IsShownInfo before → All IsShownInfo after
fit-put place number before after i fits put h =
    All-same IsShownInfo after (take place before ++ i ∷ drop (place + length (listed (info_here before place number))) before) put
    (All-append IsShownInfo (take place before) (i ∷ drop (place + length (listed (info_here before place number))) before) (All-take IsShownInfo place before h)
    (All-cons IsShownInfo i (drop (place + length (listed (info_here before place number))) before) fits
    (All-drop IsShownInfo (place + length (listed (info_here before place number))) before h)))

-- they fit still where one was taken out
pub fit-taken : (place n : ℕ) (before after : List Info) → after ≡ take place before ++ drop n before → All IsShownInfo before → All IsShownInfo after
fit-taken place n before after taken h =
    All-same IsShownInfo after (take place before ++ drop n before) taken
    (All-append IsShownInfo (take place before) (drop n before) (All-take IsShownInfo place before h) (All-drop IsShownInfo n before h))

pub found-number : (ended : List Ended) (n : ℕ) (d : Ended) → find (λ d. d.request.number == n) ended ≡ Some d → d.request.number ≡ n
found-number [] n d h = cc
found-number (e ∷ ended) n d h = by (e.request.number == n) refl h (found-number ended n d)
  where
    by : (b : Bool) → (e.request.number == n) ≡ b → cond b (Some e) (find (λ d. d.request.number == n) ended) ≡ Some d → (find (λ d. d.request.number == n) ended ≡ Some d → d.request.number ≡ n) →
        d.request.number ≡ n
    by true same h rest = let is : e ≡ d = cc in ap (λ (x : Ended). x.request.number) (sym is) ∙ eqb-true e.request.number n same
    by false other h rest = rest h

-- a request that is found among those that ended is shown no more
pub renewed-ended : (config : Configuration) (ongoing : List Request) (ended : List Ended) (d : Ended) (n place : ℕ) (before after : List Info) (changes changes' : Changes) →
    find (λ d. d.request.number == n) ended ≡ Some d →
    IsRenewed place (info_here before place d.request.number) None (Some (shown_of config [] (entry_of_ended d))) before after changes changes' →
    IsRenewed place (info_here before place n) (now_at config ended ongoing n) (shown_at config ongoing ended n) before after changes changes'
renewed-ended config ongoing ended d n place before after changes changes' found h =
    let N : ℕ → Type 0 = λ m. IsRenewed place (info_here before place m) None (Some (shown_of config [] (entry_of_ended d))) before after changes changes' in
    let O : Option Info → Type 0 = λ o. IsRenewed place (info_here before place n) o (Some (shown_of config [] (entry_of_ended d))) before after changes changes' in
    let S : Option Shown → Type 0 = λ s. IsRenewed place (info_here before place n) (now_at config ended ongoing n) s before after changes changes' in
    let none : None ≡ now_at config ended ongoing n =
    sym (ap (λ (o : Option Ended). option_map (info config ongoing) (option_map_or (λ x. None) o (request_at ongoing n))) found) in
    let some : Some (shown_of config [] (entry_of_ended d)) ≡ shown_at config ongoing ended n =
    ap (λ (s : Shown). Some s) (shown_of-ended config ongoing d)
    ∙ sym (ap (λ (o : Option Ended). option_map (shown_of config ongoing) (option_map_or (λ x. Some (entry_of_ended x)) o (option_map entry_of (request_at ongoing n)))) found) in
    subst S some (subst O none (subst N (found-number ended n d found) h))
