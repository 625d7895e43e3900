use Rattle.std.proofs.Common.{◌+◌, ◌++◌, sym, ◌∙◌, ap}
use Rattle.floor_control.specs.Floors.{words_of}
use Rattle.floor_control.specs.declared.floors.Part.TheVariants.{Waits}
use Rattle.floor_control.proofs.Waiting.{none_before, one_more}
use Rattle.floor_control.proofs.floors.waiting.Goals as goal

pub loop-before-init : goal.loop-before-init
loop-before-init c = c.new-words.ensures.bytes ∙ sym (none_before c.args.entries.now)

pub loop-before-preserved : goal.loop-before-preserved
loop-before-preserved c =
    c.in_ok-add_words.ensures ∙ ap (λ words. words ++ words_of (Waits (c.loop-before.before + 1)) c.args.entries.now) c.loop-before.invariant
    ∙ sym (one_more c.loop-before.before c.args.entries.now)
