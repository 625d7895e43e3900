use Rattle.std.specs.Prelude.{codes, length}
use Rattle.std.specs.String.{string_bytes}
use Rattle.floor_http.specs.Exchanges.{end, length_line, line, reply}
use Rattle.floor_http.proofs.Appending.{four_on_ok}
use Rattle.floor_http.proofs.page.put_reply.Goals as goal

pub returns : goal.returns
unfolding reply
returns c =
    four_on_ok c.put_end.result (string_bytes c.args.out.now) (string_bytes c.put_line.new.out) (string_bytes c.put_line-2.new.out) (string_bytes c.put_length.new.out) (string_bytes c.put_end.new.out)
    (line (codes "HTTP/1.1 ") c.args.status.now) (line (codes "Content-Type: ") c.args.kind.now) (length_line (length c.args.body.now)) (end c.args.body.now)
    c.in_ok-put_line.ensures c.in_ok-put_line-2.ensures c.in_ok-put_length.ensures c.put_end.ensures
