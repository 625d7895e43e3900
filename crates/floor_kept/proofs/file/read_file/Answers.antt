use Rattle.std.proofs.Common.{◌∙◌, ap, sym, subst, refl, arith}
use Rattle.floor_kept.specs.Body.{IsFault}
use Rattle.floor_kept.specs.declared.body.BadLine.{BadLine}
use Rattle.floor_kept.specs.declared.body.BodyFault.{BodyFault}
use Rattle.floor_kept.proofs.Files.{bad_bytes, bad_of_body, count_within, no_feed, number_within, whole_file}
use Rattle.floor_kept.proofs.file.read_file.Goals as goal

pub behind-requires : goal.behind-requires
behind-requires c =
    let bad = subst (λ (f : BodyFault). IsFault c.in-Ok.cut.behind.now f) c.in-Err-BadLine.field-0-is c.in-Err-BadLine.ensures.refused in
    let within = number_within c.args.bytes.now _ _ _ _ _ _ _ c.text_of-parts.ensures c.in-Ok.ensures.value bad in
    omega (arith, within, ap (λ (b : BadLine). b.number) c.in-Err-BadLine.bad-is)

pub returns-in-Err-BadLine-clause-refused : goal.returns-in-Err-BadLine-clause-refused
returns-in-Err-BadLine-clause-refused c =
    let bad = subst (λ (f : BodyFault). IsFault c.in-Ok.cut.behind.now f) c.in-Err-BadLine.field-0-is c.in-Err-BadLine.ensures.refused in
    bad_of_body c.args.bytes.now _ _ _ _ _ _ _ c.behind.result c.text_of-parts.ensures c.in-Ok.ensures.value bad
    (omega (arith, c.behind.ensures.place, ap (λ (b : BadLine). b.place) c.in-Err-BadLine.bad-is))
    (omega (arith, c.behind.ensures.number, ap (λ (b : BadLine). b.number) c.in-Err-BadLine.bad-is))

pub behind-requires-then-has_more : goal.behind-requires-then-has_more
behind-requires-then-has_more c =
    let more = sym c.contains-has_more.ensures.value ∙ c.if-has_more.true in
    let within = count_within c.args.bytes.now _ c.text_of-parts.result.rest.now _ _ _ _ _ _ c.text_of-parts.ensures c.in-Ok.ensures.value c.in-Ok-read_body.ensures.value more in
    omega (arith, within, c.len.ensures, c.in-Ok-read_body.body.entries.ok.0)

pub returns-then-has_more-clause-refused : goal.returns-then-has_more-clause-refused
returns-then-has_more-clause-refused c =
    let more = sym c.contains-has_more.ensures.value ∙ c.if-has_more.true in
    bad_bytes c.args.bytes.now _ c.text_of-parts.result.rest.now _ _ _ _ _ _ c.behind-then-has_more.result c.text_of-parts.ensures c.in-Ok.ensures.value
    c.in-Ok-read_body.ensures.value more
    (c.behind-then-has_more.ensures.place ∙ c.in-Ok-read_body.ensures.next)
    (omega (arith, c.behind-then-has_more.ensures.number, c.len.ensures, c.in-Ok-read_body.body.entries.ok.0))

pub returns-clause-value : goal.returns-clause-value
returns-clause-value c =
    whole_file c.args.bytes.now _ c.text_of-parts.result.rest.now _ _ _ _ _ _ _ c.text_of-parts.ensures c.in-Ok.ensures.value c.in-Ok-read_body.ensures.value
    (no_feed c.text_of-parts.result.rest.now (sym c.contains-has_more.ensures.value ∙ c.if-has_more.false)) refl
