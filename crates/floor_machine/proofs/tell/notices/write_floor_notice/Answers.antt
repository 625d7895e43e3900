use Rattle.std.proofs.Common.{refl, arith}
use Rattle.floor_machine.proofs.Fitting.{infos_on_fit}
use Rattle.floor_machine.proofs.tell.notices.write_floor_notice.Goals as goal

pub write_floor_status-requires : goal.write_floor_status-requires
write_floor_status-requires c = c.what_is_shown_fits.ensures _ (omega (arith, c.requires.floor.id), infos_on_fit c.args.floor.now.id c.args.now.now c.requires.shown)

pub returns : goal.returns
returns c = rw (c.in_ok-push.ensures.items, c.of.ensures.value, c.in_ok-frame.ensures, c.notice-head.ensures) refl
