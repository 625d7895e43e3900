-- The infos of the ongoing requests of a user are those that show the user.
use Rattle.std.proofs.Common.{◌≡◌, ℕ, Bool, true, false, cond, List, [], ◌∷◌, map, Some, None, refl, sym, ap, ◌∙◌}
use Rattle.std.specs.Prelude.{◌==◌, ◌||◌, filter}
use Rattle.std.specs.Option.{option_map_or}
use Rattle.std.proofs.lemmas.Bool.{eqb-true}
use Rattle.floor_config.specs.Configuration.{Configuration}
use Rattle.floor_queue.specs.declared.request.Request.{Request}
use Rattle.floor_queue.specs.Queue.{involves}
use Rattle.floor_message.specs.declared.information.Info.{Info}
use Rattle.floor_machine.specs.Shown.{info, info_of, named}
use Rattle.floor_machine.specs.steps.Telling.{infos_of, infos_with_user, shows_user}

twice : (b : Bool) → b ≡ (b || b)
twice true = refl
twice false = refl

-- an info shows the users that its request involves
shows-involved : (config : Configuration) (all : List Request) (user : ℕ) (r : Request) → shows_user user (info config all r) ≡ involves r user
unfolding info_of
shows-involved config all user r = by (r.requester == r.beneficiary) refl
  where
    by : (b : Bool) → b ≡ (r.requester == r.beneficiary) →
        (option_map_or (λ who. who.user == user) (cond b None (Some (named config r.requester))) false || (r.beneficiary == user)) ≡ (r.requester == user || r.beneficiary == user)
    by true e = twice (r.beneficiary == user) ∙ ap (λ (k : ℕ). (k == user) || (r.beneficiary == user)) (sym (eqb-true r.requester r.beneficiary (sym e)))
    by false e = refl

involved : (config : Configuration) (all : List Request) (user : ℕ) (rs : List Request) →
    filter (shows_user user) (map (info config all) rs) ≡ map (info config all) (filter (λ r. involves r user) rs)
involved config all user [] = refl
involved config all user (r ∷ rs) =
    ap (λ (b : Bool). cond b (info config all r ∷ filter (shows_user user) (map (info config all) rs)) (filter (shows_user user) (map (info config all) rs))) (shows-involved config all user r)
    ∙ by (involves r user) (involved config all user rs)
  where
    by : (b : Bool) → filter (shows_user user) (map (info config all) rs) ≡ map (info config all) (filter (λ r. involves r user) rs) →
        cond b (info config all r ∷ filter (shows_user user) (map (info config all) rs)) (filter (shows_user user) (map (info config all) rs))
        ≡ map (info config all) (cond b (r ∷ filter (λ r. involves r user) rs) (filter (λ r. involves r user) rs))
    by true h = ap (λ (is : List Info). info config all r ∷ is) h
    by false h = h

-- of what is shown of all ongoing requests
pub infos-involved : (config : Configuration) (ongoing : List Request) (user : ℕ) (shown : List Info) → shown ≡ infos_of config ongoing →
    infos_with_user user shown ≡ map (info config ongoing) (filter (λ r. involves r user) ongoing)
infos-involved config ongoing user shown same = ap (infos_with_user user) same ∙ involved config ongoing user ongoing
