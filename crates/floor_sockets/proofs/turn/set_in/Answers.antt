use Rattle.floor_sockets.proofs.Listing.{set_listed}
use Rattle.floor_sockets.proofs.turn.set_in.Goals as goal

pub returns-clause-listed : goal.returns-clause-listed
returns-clause-listed c = λ whole listed.
    set_listed c.args.lives.now c.put_in.new.lives c.args.line.now c.put_or_miss.new.line c.args.slot c.args.life
    c.put_in.ensures.here c.put_in.ensures.none c.put_in.ensures.others (c.put_or_miss.ensures.stands whole) c.put_or_miss.ensures.others (listed (c.put_or_miss.ensures.short whole))
