use Rattle.std.proofs.Common.{length, arith, ap, ◌∙◌}
use Rattle.std.proofs.lemmas.Bool.{lt-leb, leb-false}
use Rattle.floor_wire.specs.Message.{message_len}
use Rattle.floor_wire.proofs.Messages.{short_of_none, messages-none}
use Rattle.floor_wire.proofs.framer.Framer.ready.Goals as goal

pub returns-then-held-ge-HEADER_LEN : goal.returns-then-held-ge-HEADER_LEN
returns-then-held-ge-HEADER_LEN c =
    let held = c.as_slice-held.ensures ∙ c.self.view_is in (
      λ no. messages-none _ (omega (arith, leb-false c.announced_len.result (length c.as_slice-held.result.now) no, ap length held, ap message_len held)),
      λ none. lt-leb _ _ (omega (arith, short_of_none _ none, ap length held, ap message_len held)),
    )

pub returns-else-held-ge-HEADER_LEN : goal.returns-else-held-ge-HEADER_LEN
returns-else-held-ge-HEADER_LEN c =
    let held = c.as_slice-held.ensures ∙ c.self.view_is in (
      λ no. messages-none _ (omega (arith, leb-false 12 (length c.as_slice-held.result.now) no, ap length held)),
      λ none. lt-leb _ _ (omega (arith, short_of_none _ none, ap length held)),
    )
