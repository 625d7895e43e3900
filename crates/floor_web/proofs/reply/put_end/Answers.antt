use Rattle.std.specs.Prelude.{codes, ◌++◌}
use Rattle.std.specs.String.{string_bytes}
use Rattle.floor_web.specs.Replies.{policy, end}
use Rattle.floor_web.proofs.Appending.{on_ok, three_on_ok}
use Rattle.floor_web.proofs.reply.put_end.Goals as goal

pub returns : goal.returns
unfolding policy end
returns c =
    three_on_ok c.push_str-3.result (string_bytes c.args.out.now) (string_bytes c.push_str.new.self) (string_bytes c.push_str-2.new.self) (string_bytes c.push_str-3.new.self)
    policy c.args.more.now (codes "Connection: close\r\n\r\n")
    c.in_ok-push_str.ensures.bytes c.in_ok-push_str-2.ensures.bytes (on_ok c.push_str-3.result (string_bytes c.push_str-3.new.self) (string_bytes c.push_str-2.new.self ++ codes "Connection: close\r\n\r\n") (string_bytes c.push_str-2.new.self) c.push_str-3.ensures.bytes)
