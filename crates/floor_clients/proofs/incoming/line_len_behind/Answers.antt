use Rattle.std.proofs.Common.{◌≡◌, drop, sym, ap, ◌∙◌, Some, None, arith}
use Rattle.std.specs.Prelude.{Option, ℕ}
use Rattle.floor_clients.specs.Lines.{line_len}
use Rattle.floor_clients.proofs.Searching.{first_within, found_behind, none_behind}
use Rattle.floor_clients.proofs.incoming.line_len_behind.Goals as goal

pub split_at-requires : goal.split_at-requires
split_at-requires c = let within = first_within c.args.bytes.now in omega (arith, c.requires, within)

pub returns-in-Some-clause-value : goal.returns-in-Some-clause-value
returns-in-Some-clause-value c =
    sym (found_behind c.args.bytes.now c.args.searched c.in-Some.len c.requires (ap line_len (sym c.split_at.ensures.back) ∙ sym c.in-Some.ensures.value)).0

pub returns-in-Some-clause-within : goal.returns-in-Some-clause-within
returns-in-Some-clause-within c =
    let found = found_behind c.args.bytes.now c.args.searched c.in-Some.len c.requires (ap line_len (sym c.split_at.ensures.back) ∙ sym c.in-Some.ensures.value) in
    (found.1, found.2)

pub returns-in-None-clause-value : goal.returns-in-None-clause-value
returns-in-None-clause-value c =
    sym (none_behind c.args.bytes.now c.args.searched c.requires (ap line_len (sym c.split_at.ensures.back) ∙ sym c.in-None.ensures.value)).0

pub returns-in-None-clause-none : goal.returns-in-None-clause-none
returns-in-None-clause-none c = λ _.
    (none_behind c.args.bytes.now c.args.searched c.requires (ap line_len (sym c.split_at.ensures.back) ∙ sym c.in-None.ensures.value)).1
