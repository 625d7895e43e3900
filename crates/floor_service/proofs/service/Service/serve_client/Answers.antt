use Rattle.floor_service.proofs.service.Service.serve_client.Goals as goal

pub returns-clause-served : goal.returns-clause-served
returns-clause-served c = record {
  next = c.next_line-next.result;
  between = c.next_line-next.new.self.callers;
  here = c.next_line-next.ensures.here;
  others = c.next_line-next.ensures.others;
  rest = c.follow_line.ensures.attends;
}
