use Rattle.std.specs.Prelude.{codes}
use Rattle.std.specs.String.{string_bytes}
use Rattle.floor_client.proofs.Appending.{appended_on_ok}
use Rattle.floor_client.specs.Rendered.{info_text}
use Rattle.floor_client.proofs.rendering.put_floor_request_status.Goals as goal

pub returns : goal.returns
returns c =
    appended_on_ok c.put_info.result (string_bytes c.args.out.now) (string_bytes c.push_str.new.self) (string_bytes c.put_info.new.out)
    (codes "FloorRequestStatus ") (info_text c.args.info.now) c.in_ok-push_str.ensures.bytes c.put_info.ensures
