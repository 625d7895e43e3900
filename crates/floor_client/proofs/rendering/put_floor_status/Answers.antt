use Rattle.std.proofs.Common.{◌++◌}
use Rattle.std.specs.List.{flat_map}
use Rattle.std.specs.Prelude.{codes}
use Rattle.std.specs.String.{string_bytes}
use Rattle.floor_client.proofs.Appending.{appended, appended_on_ok}
use Rattle.floor_client.specs.Rendered.{bracketed, floor_number, optional}
use Rattle.floor_client.proofs.rendering.put_floor_status.Goals as goal

pub returns : goal.returns
returns c =
    let floor = optional floor_number c.args.floor in
    let named = appended (string_bytes c.args.out.now) (string_bytes c.push_str.new.self) (string_bytes c.put_floor.new.out)
    (codes "FloorStatus") floor c.in_ok-push_str.ensures.bytes c.in_ok-put_floor.ensures in
    appended_on_ok c.put_infos.result (string_bytes c.args.out.now) (string_bytes c.put_floor.new.out) (string_bytes c.put_infos.new.out)
    (codes "FloorStatus" ++ floor) (flat_map bracketed c.args.infos.now) named c.put_infos.ensures
