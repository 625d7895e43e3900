use Rattle.std.proofs.Common.{refl}
use Rattle.floor_script.proofs.Holding.{ok_as}
use Rattle.floor_script.proofs.Standing.{carries_say}
use Rattle.floor_script.proofs.conferences.Conferences.say.Goals as goal

pub returns : goal.returns
returns c = record { took = ok_as c.say_in.result _ _ c.say_in.ensures.took (λ answer a. carries_say c.args.conference c.args.user c.args.message.now answer _ _ a refl) }
