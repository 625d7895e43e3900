use Rattle.std.proofs.Common.{◌≡◌, ℕ, List, inl, inr, refl, ap, ap₂, subst, ◌∙◌}
use Rattle.std.specs.Prelude.{Some, None}
use Rattle.floor_config.specs.declared.users.User.{User}
use Rattle.floor_machine.specs.declared.act.Act.TheVariants.{AddUser}
use Rattle.floor_ffi.specs.Called.{Acting}
use Rattle.floor_ffi.specs.Numbers.{number_of}
use Rattle.floor_ffi.proofs.acting.add_user.Goals as goal

pub returns-in_default : goal.returns-in_default
returns-in_default c = record { gives = inl ((λ both. c.in_default.ensures.cases.0 both.0), c.number.ensures.value, refl) }

pub returns-in_default-from_utf8 : goal.returns-in_default-from_utf8
returns-in_default-from_utf8 c = record { gives = inl ((λ both. c.in_default-from_utf8.ensures.cases.0 both.1), c.number-in_default-from_utf8.ensures.value, refl) }

pub returns-in-Err : goal.returns-in-Err
returns-in-Err c = record { gives = inr ((c.in-Ok.ensures.cases.1, c.in-Ok-from_utf8.ensures.cases.1), inl (c.number-in-Err.ensures.value, refl)) }

pub returns-in-Ok-user_of : goal.returns-in-Ok-user_of
returns-in-Ok-user_of c =
    let user : List ℕ → List ℕ → User = λ name uri. record { id = c.args.id; name = Some name; uri = Some uri; proxy = c.args.proxy; port = None } in
    let is : c.in-Ok-user_of.user ≡ user c.args.name.now c.args.uri.now = c.in-Ok-user_of.ensures.value ∙ ap₂ user c.in-Ok.ensures.cases.0 c.in-Ok-from_utf8.ensures.cases.0 in
    let acting : Acting c.args.conference (AddUser c.in-Ok-user_of.user) c.args.hub.now c.admin.new.self c.admin.result = record {
      next = c.admin.ensures.next;
      room = c.admin.ensures.room;
      connections = c.admin.ensures.connections;
      left = c.admin.ensures.left;
      concerned = c.admin.ensures.concerned;
      forgotten = c.admin.ensures.forgotten;
    } in
    record {
      gives = inr (
        (c.in-Ok.ensures.cases.1, c.in-Ok-from_utf8.ensures.cases.1),
        inr (
          c.admin.result,
          c.number-in-Ok-user_of.ensures.value ∙ ap number_of c.outcome_of.ensures.value,
          subst (λ (u : User). Acting c.args.conference (AddUser u) c.args.hub.now c.admin.new.self c.admin.result) is acting,
        ),
      );
    }
