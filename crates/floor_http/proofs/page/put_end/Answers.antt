use Rattle.std.specs.Prelude.{◌++◌}
use Rattle.std.specs.String.{string_bytes}
use Rattle.floor_http.specs.Exchanges.{last_lines}
use Rattle.floor_http.proofs.Appending.{appended_on_ok, on_ok}
use Rattle.floor_http.proofs.page.put_end.Goals as goal

pub returns : goal.returns
returns c =
    appended_on_ok c.push_str-2.result (string_bytes c.args.out.now) (string_bytes c.push_str.new.self) (string_bytes c.push_str-2.new.self) last_lines c.args.body.now
    c.in_ok-push_str.ensures.bytes
    (on_ok c.push_str-2.result (string_bytes c.push_str-2.new.self) (string_bytes c.push_str.new.self ++ c.args.body.now) (string_bytes c.push_str.new.self) c.push_str-2.ensures.bytes)
