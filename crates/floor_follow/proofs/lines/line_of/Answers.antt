use Rattle.std.proofs.Common.{◌≡◌, Bool, true, false, cond, length, eq-eqb, refl, sym, ◌∙◌, ap}
use Rattle.std.specs.Str.Lossy.{utf8_valid_len}
use Rattle.std.proofs.lemmas.Bool.{false≢true}
use Rattle.std.proofs.lemmas.Str.{utf8_valid_len-IsUtf8}
use Rattle.floor_follow.specs.Cutting.{is_text}
use Rattle.floor_follow.specs.declared.lines.NextLine.{NextLine}
use Rattle.floor_follow.specs.declared.lines.NextLine.TheVariants.{Line, NotText}
use Rattle.floor_follow.proofs.lines.line_of.Goals as goal

chosen : (b : Bool) (x y : NextLine) → b ≡ true → cond b x y ≡ x
chosen true x y e = refl
chosen false x y e = absurd (false≢true e)

pub returns-in_ok-text-in-Ok : goal.returns-in_ok-text-in-Ok
returns-in_ok-text-in-Ok c =
    let bytes = c.args.bytes.now in
    let h = c.in-Ok.ensures.cases in
    let whole : is_text bytes ≡ true = eq-eqb (utf8_valid_len bytes) (length bytes) (utf8_valid_len-IsUtf8 bytes h.1) in
    record {
      value = ap Line (c.from_string.ensures ∙ c.in_ok-text-in-Ok.ensures.ok ∙ h.0) ∙ sym (chosen (is_text bytes) (Line bytes) NotText whole);
    }
