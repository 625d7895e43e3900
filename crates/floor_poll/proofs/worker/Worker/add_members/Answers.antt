use Rattle.std.proofs.Common.{List, ◌++◌, ◌∙◌, ap, arith, flat_map, false, string_bytes}
use Rattle.std.proofs.lemmas.List.{take_all}
use Rattle.floor_control.specs.People.{member_line}
use Rattle.floor_hub.specs.declared.attached.Live.{Live}
use Rattle.floor_poll.specs.Readers.{line_of}
use Rattle.floor_poll.proofs.OneMore.{one-more}
use Rattle.floor_poll.proofs.worker.Worker.add_members.Goals as goal

pub loop-one-preserved : goal.loop-one-preserved
loop-one-preserved g c = λ r is.
    one-more (λ one. member_line (line_of c.args.self.now.hub c.args.self.now.now r.ledger one)) c.args.live.now c.loop-one.one-index record { number = 0; n = 0; is_cut = false }
    (string_bytes c.args.text.now) (string_bytes c.loop-one.text) (string_bytes c.add_member.new.out) (member_line c.in_ok-line.line)
    c.loop-one-test.true (c.loop-one.invariant r is) c.in_ok-add_member.ensures (ap member_line (c.in_ok-line.ensures.found r is))

pub returns : goal.returns
returns g c = record {
  found = λ r is.
      c.loop-one.invariant r is
      ∙ ap (λ (xs : List Live). string_bytes c.args.text.now
      ++ flat_map (λ one. member_line (line_of c.args.self.now.hub c.args.self.now.now r.ledger one)) xs)
      (take_all c.loop-one.one-index c.args.live.now (omega arith));
}
