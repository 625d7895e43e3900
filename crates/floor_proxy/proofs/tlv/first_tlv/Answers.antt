use Rattle.std.proofs.Common.{◌-◌, arith, drop, length}
use Rattle.std.proofs.lemmas.List.{length-drop, length-take}
use Rattle.floor_proxy.proofs.Parts.{none_is, split_is, too_short}
use Rattle.floor_proxy.proofs.tlv.first_tlv.Goals as goal

pub returns-then-bytes-lt-HEAD_LEN : goal.returns-then-bytes-lt-HEAD_LEN
returns-then-bytes-lt-HEAD_LEN c = record { value = too_short c.args.bytes.now c.requires.some c.if-bytes-lt-HEAD_LEN.true }

pub returns-in-None : goal.returns-in-None
returns-in-None c =
    let bytes = c.args.bytes.now in
    record {
      value = none_is bytes c.from-len.result c.if-bytes-lt-HEAD_LEN.false (omega (arith, c.from-len.ensures, c.from_be_bytes.ensures))
          (omega (arith, c.in-None.ensures.cases, length-take (length bytes - 3) (drop 3 bytes), length-drop 3 bytes));
    }

pub returns-in-Some : goal.returns-in-Some
returns-in-Some c =
    let at = c.in-Some.ensures.cases in
    let found = split_is c.args.bytes.now c.from-len.result c.in-Some.value.now c.in-Some.behind.now c.if-bytes-lt-HEAD_LEN.false
    (omega (arith, c.from-len.ensures, c.from_be_bytes.ensures)) at.0 at.1 at.2 in
    record { value = record { whole = found.0; shorter = found.1 } }
