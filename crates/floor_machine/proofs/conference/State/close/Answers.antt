use Rattle.std.proofs.Common.{ap, false, rules, ◌∙◌}
use Rattle.floor_queue.specs.Queue.{Queue}
use Rattle.floor_machine.specs.steps.Serving.{conference_of, with_requests}
use Rattle.floor_machine.proofs.Quiet.{settled-close}
use Rattle.floor_machine.proofs.conference.State.close.Goals as goal

pub returns : goal.returns
returns c =
    let s = c.args.self.now in
    record {
      taken = record {
        rest = search rules;
        kept = λ no. cc;
        closed = λ yes. ap (λ (q : Queue). record (with_requests (conference_of s) q) { is_open = false }) c.clear.ensures ∙ settled-close (conference_of s);
      };
    }
