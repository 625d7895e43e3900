use Rattle.std.proofs.Common.{nat_eq, false, sym, refl, subst}
use Rattle.floor_sockets.specs.declared.life.Deed.{Deed}
use Rattle.floor_sockets.specs.declared.life.Deed.TheVariants as deed
use Rattle.floor_sockets.specs.steps.Ending.{IsAnswered}
use Rattle.floor_sockets.proofs.Stopping.{answered_accept, answered_other, answered_shut}
use Rattle.floor_sockets.proofs.ending.answer.Goals as goal

pub returns-in-Shut : goal.returns-in-Shut
returns-in-Shut c = record {
  answered =
      subst (λ (d : Deed). IsAnswered d c.args.slot c.args.sockets.now (nat_eq c.in-Shut.other c.args.slot) c.shut.new.self) (sym c.in-Shut.is)
      (answered_shut c.in-Shut.other c.args.slot (nat_eq c.in-Shut.other c.args.slot) c.args.sockets.now c.shut.new.self
      (record { took = c.shut.ensures.took; not_asked = c.shut.ensures.not_asked; none = c.shut.ensures.none }) refl);
}

pub returns-in-Accept : goal.returns-in-Accept
returns-in-Accept c = record {
  answered =
      subst (λ (d : Deed). IsAnswered d c.args.slot c.args.sockets.now false c.nothing.new.self) (sym c.in-Accept.is)
      (answered_accept c.in-Accept.other c.args.slot c.args.sockets.now c.nothing.new.self c.nothing.ensures.took);
}

pub returns-in-Read : goal.returns-in-Read
returns-in-Read c = record {
  answered = subst (λ (d : Deed). IsAnswered d c.args.slot c.args.sockets.now false c.args.sockets.now) (sym c.in-Read.is) (answered_other (deed.Read _) c.args.slot c.args.sockets.now refl);
}

pub returns-in-Serve : goal.returns-in-Serve
returns-in-Serve c = record {
  answered = subst (λ (d : Deed). IsAnswered d c.args.slot c.args.sockets.now false c.args.sockets.now) (sym c.in-Serve.is) (answered_other (deed.Serve _) c.args.slot c.args.sockets.now refl);
}

pub returns-in-Write : goal.returns-in-Write
returns-in-Write c = record {
  answered = subst (λ (d : Deed). IsAnswered d c.args.slot c.args.sockets.now false c.args.sockets.now) (sym c.in-Write.is) (answered_other (deed.Write _) c.args.slot c.args.sockets.now refl);
}
