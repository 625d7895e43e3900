use Rattle.std.proofs.Common.{◌∙◌, ◌^◌, ap, arith, length, refl, sym}
use Rattle.std.specs.Result.{result_ok}
use Rattle.std.proofs.lemmas.Str.Parse.{digits_value_short, parse_gives}
use Rattle.floor_words.proofs.Digits.{counts, own}
use Rattle.floor_words.proofs.Some.{some_of}
use Rattle.floor_words.proofs.number.read_u64.Goals as goal

pub returns : goal.returns
returns c =
    let word = c.args.word.now in
    let some = some_of (length word) _ c.is_empty.ensures c.if-is_empty.false in
    let few = c.if-word-gt-MAX_DIGITS.false in
    let all = sym c.has_digits_alone.ensures ∙ c.if-not-has_digits_alone.false in
    let short = digits_value_short own word 10 all few in
    c.ok.ensures.value
    ∙ ap result_ok (parse_gives own 64 word c.parse.result c.parse.ensures.value.0 all some (omega (arith, short)))
    ∙ sym (counts word (10 ^ 10) _ some few all refl short)
