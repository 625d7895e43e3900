use Rattle.std.proofs.Common.{◌∙◌, sym}
use Rattle.floor_proxy.specs.Header.{signature}
use Rattle.floor_proxy.proofs.Signature.{agrees-front}
use Rattle.floor_proxy.proofs.header.agrees.Goals as goal

pub returns-else-starts_with : goal.returns-else-starts_with
returns-else-starts_with c = record {
  value = c.starts_with-else-starts_with.ensures.value ∙ agrees-front signature c.args.bytes.now (sym c.starts_with.ensures.value ∙ c.if-starts_with.false);
}
