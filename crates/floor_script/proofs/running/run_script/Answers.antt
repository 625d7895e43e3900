use Rattle.std.proofs.Common.{List, ℕ, subst, sym}
use Rattle.floor_script.specs.Input.{IsInput}
use Rattle.floor_script.proofs.Reading.{leaves_input, leaves_unread}
use Rattle.floor_script.proofs.running.run_script.Goals as goal

pub returns-in-Ok : goal.returns-in-Ok
returns-in-Ok g c =
    let input = subst (λ (l : List ℕ). IsInput (g.R.Read.remaining c.args.input.now) (g.R.Read.remaining c.read_all.new.input) l) (sym c.as_slice.ensures.value) c.in-Ok.ensures in
    leaves_input c.run_bytes.result c.as_slice.result.now _ _ _ _ input c.run_bytes.ensures

pub returns-in-Err : goal.returns-in-Err
returns-in-Err g c = leaves_unread c.in-Err.fault _ _ _ c.in-Err.ensures
