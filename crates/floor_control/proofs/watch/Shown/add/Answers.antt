use Rattle.std.proofs.Common.{ℕ, List}
use Rattle.std.specs.String.{string_bytes}
use Rattle.floor_machine.specs.Conference.{Conference}
use Rattle.floor_control.specs.Watch.{said}
use Rattle.floor_control.proofs.ShownLines.{on-ok, put-all}
use Rattle.floor_control.proofs.watch.Shown.add.Goals as goal

pub returns : goal.returns
returns c =
    let s : Conference = c.args.machine.now.conference in
    let own : List (List ℕ) = said c.args.self.now.number c.args.self.now.leaver c.args.self.now.event.now in
    on-ok c.add_end.result
    (put-all c.args.at.conference c.args.at.place own c.args.self.now.changed.now s c.args.self.now.cut.now
    (string_bytes c.args.out.now) (string_bytes c.add_own.new.out) (string_bytes c.add_requests.new.out) (string_bytes c.add_cut.new.out) (string_bytes c.add_end.new.out)
    c.is_any.result c.in_ok-add_own.ensures c.in_ok-add_requests.ensures c.in_ok-add_cut.ensures (c.is_any.ensures s))
    c.add_end.ensures
