use Rattle.std.proofs.Common.{◌∙◌, inl, inr, refl, subst, sym}
use Rattle.std.specs.Prelude.{Err, Option}
use Rattle.floor_machine.specs.declared.machine.Refusal.TheVariants.{Memory}
use Rattle.floor_room.specs.Ledger.{IsRefusedBy}
use Rattle.floor_room.specs.declared.refusal.RoomRefusal.{RoomRefusal}
use Rattle.floor_room.specs.declared.refusal.RoomRefusal.TheVariants.{Refused}
use Rattle.floor_hub.proofs.hub.saying.say_in.Goals as goal

pub returns-in-Some-clause-said : goal.returns-in-Some-clause-said
returns-in-Some-clause-said c = record { said = tt; failed = inl (c.in-Some.why, refl, sym (c.in-Some.ensures.value c.args.message.now), refl) }

pub returns-then-not-is_message-clause-said : goal.returns-then-not-is_message-clause-said
returns-then-not-is_message-clause-said c = record {
  said = tt;
  failed = inr (inl (refl, sym c.is_message.ensures ∙ c.if-not-is_message.true, sym (c.in-None.ensures.value c.args.message.now), refl));
}

pub returns-in-Ok-None-clause-said : goal.returns-in-Ok-None-clause-said
returns-in-Ok-None-clause-said c = record {
  said = tt;
  failed = inr (inr (
    Refused Memory,
    refl,
    sym c.is_message.ensures ∙ c.if-not-is_message.false,
    subst (λ (y : Option RoomRefusal). IsRefusedBy {T = Unit {0}} y (Err (Refused Memory))) (c.in-None.ensures.value c.args.message.now) refl,
    inl c.break_off.ensures.next,
  ));
}
