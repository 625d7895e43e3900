use Rattle.std.proofs.Common.{◌+◌, ℕ, ap, length, lit<, refl, rules}
use Rattle.floor_kept.proofs.Bodies.{bad_behind, bad_line, read_more, whole_body}
use Rattle.floor_kept.proofs.body.read_body.Goals as goal

pub returns-in_default-clause-value : goal.returns-in_default-clause-value
returns-in_default-clause-value c =
    whole_body c.args.text.now c.loop-line.entries.items c.loop-line.rest.now c.loop-line.place _ c.loop-line.is_ended c.loop-line.invariant.1
    (c.in_default.ensures.byte (lit< tt) (λ w o h. h)) refl

pub returns-then-is_ended-clause-refused : goal.returns-then-is_ended-clause-refused
returns-then-is_ended-clause-refused c =
    let h = c.in-Some.ensures.byte (lit< tt) (λ w o h. h) in
    bad_behind c.args.text.now c.loop-line.entries.items c.loop-line.rest.now c.in-Some.line.now c.in-Some.behind.now c.loop-line.place c.loop-line.is_ended _ c.loop-line.invariant.1
    h.0 h.1 h.2 c.if-is_ended.true refl (ap (λ (n : ℕ). n + 1) (ap length c.as_slice.ensures.value))

pub returns-in_default-2-clause-refused : goal.returns-in_default-2-clause-refused
returns-in_default-2-clause-refused c =
    let h = c.in-Some.ensures.byte (lit< tt) (λ w o h. h) in
    bad_line c.args.text.now c.loop-line.entries.items c.loop-line.rest.now c.in-Some.line.now c.in-Some.behind.now c.loop-line.place c.loop-line.is_ended _ c.loop-line.invariant.1
    h.0 h.1 h.2 (c.in_ok-entry.ensures.none c.in_default-2.is) refl (ap (λ (n : ℕ). n + 1) (ap length c.as_slice.ensures.value))

pub loop-line-preserved : goal.loop-line-preserved
loop-line-preserved c =
    let h = c.in-Some.ensures.byte (lit< tt) (λ w o h. h) in (
      search rules,
      read_more c.args.text.now c.loop-line.entries.items c.push.new.self.items c.loop-line.rest.now c.in-Some.line.now c.in-Some.behind.now c.loop-line.place _ c.loop-line.is_ended _ c.in-Some-2.entry
          c.loop-line.invariant.1 c.if-is_ended.false h.0 h.1 h.2 (rw c.in-Some-2.is at c.in_ok-entry.ensures.found) c.in_ok-push.ensures.items c.place_behind-place.ensures c.is_end-is_ended.ensures,
    )

pub returns-in_default-clause-next : goal.returns-in_default-clause-next
returns-in_default-clause-next c = c.loop-line.invariant.1.place_is
