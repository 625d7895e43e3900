use Rattle.std.proofs.Common.{◌∙◌, arith, refl}
use Rattle.floor_wire.proofs.Built.{end_group_is}
use Rattle.floor_wire.proofs.builder.FrameBuilder.end_group.Goals as goal

pub returns : goal.returns
returns c = λ before kind number inside at all.
    end_group_is before kind number inside c.self.inside.bytes.items _ c.args.start _ at (c.self.view_is ∙ all) (omega arith) refl
