use Rattle.std.proofs.Common.{length, take, drop, arith, refl, ap, ◌∙◌}
use Rattle.floor_wire.specs.Message.{message_len}
use Rattle.floor_wire.proofs.Messages.{messages-none, takes_first, rest-taken}
use Rattle.floor_wire.proofs.framer.Framer.next.Goals as goal

pub returns-then-held-lt-HEADER_LEN-clause-found : goal.returns-then-held-lt-HEADER_LEN-clause-found
returns-then-held-lt-HEADER_LEN-clause-found c =
    let held = c.as_slice-held.ensures ∙ c.self.view_is in (messages-none _ (omega (arith, ap length held)), refl)

pub returns-then-held-len-clause-found : goal.returns-then-held-len-clause-found
returns-then-held-len-clause-found c =
    let held = c.as_slice-held.ensures ∙ c.self.view_is in (messages-none _ (omega (arith, ap length held, ap message_len held)), refl)

pub returns-clause-found : goal.returns-clause-found
returns-clause-found c =
    let held = c.as_slice-held.ensures ∙ c.self.view_is in
    let len = c.announced_len-len.ensures ∙ ap message_len held in
    takes_first c.args.self.now _ _ (omega (arith, ap length held, len))
    (c.new.ensures ∙ c.in_ok-bytes.ensures.front ∙ ap (λ n. take n c.self.inside.held.items) len ∙ ap (λ s. take (message_len c.args.self.now) s) c.self.view_is)
    (c.in_ok-bytes.ensures.rest.0 ∙ ap (λ n. drop n c.self.inside.held.items) len ∙ ap (λ s. drop (message_len c.args.self.now) s) c.self.view_is)

pub returns-clause-rest : goal.returns-clause-rest
returns-clause-rest c =
    let held = c.as_slice-held.ensures ∙ c.self.view_is in
    let len = c.announced_len-len.ensures ∙ ap message_len held in
    rest-taken c.args.self.now _ (omega (arith, ap length held, len))
    (c.in_ok-bytes.ensures.rest.0 ∙ ap (λ n. drop n c.self.inside.held.items) len ∙ ap (λ s. drop (message_len c.args.self.now) s) c.self.view_is)
