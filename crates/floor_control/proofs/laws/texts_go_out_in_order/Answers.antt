use Rattle.floor_control.proofs.InOrder.{texts_go_out_in_order}
use Rattle.floor_control.proofs.laws.texts_go_out_in_order.Goals as goal

pub returns : goal.returns
returns c = texts_go_out_in_order
