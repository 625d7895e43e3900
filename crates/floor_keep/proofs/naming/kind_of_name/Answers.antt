use Rattle.std.proofs.Common.{◌≡◌, ◌∙◌, sym, ap, lit<}
use Rattle.floor_keep.proofs.Points.{no_journal, number_first, same_name, unread}
use Rattle.floor_keep.proofs.naming.kind_of_name.Goals as goal

pub returns-in_default : goal.returns-in_default
returns-in_default c = record {
  found = λ conference few same. no_journal c.args.name.now conference (c.in_default.ensures.byte (lit< tt) (λ w o h. h)) same;
}

pub returns-in_default-read_u32 : goal.returns-in_default-read_u32
returns-in_default-read_u32 c =
    let h = c.in-Some.ensures.byte (lit< tt) (λ w o h. h) in
    record {
      found = λ conference few same.
          unread c.numbers_are_read_back.ensures c.in-Some.number.now conference few (sym c.in_default-read_u32.is ∙ c.read_u32.ensures)
          (number_first c.args.name.now c.in-Some.number.now c.in-Some.rest.now conference h.0 h.1 h.2 few same);
    }

pub returns : goal.returns
returns c =
    let h = c.in-Some.ensures.byte (lit< tt) (λ w o h. h) in
    record {
      found = λ conference few same.
          same_name c.numbers_are_read_back.ensures c.args.name.now c.in-Some.number.now c.in-Some.rest.now _ conference c.in-Some-read_u32.conference h.0 h.1 h.2 few
          (sym c.in-Some-read_u32.is ∙ c.read_u32.ensures) (c.as_str.ensures.value ∙ c.in_ok-journal.ensures) (sym c.eq.ensures ∙ c.if-eq.false) same;
    }
