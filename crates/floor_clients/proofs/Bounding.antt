-- How much waits for a client.
use Rattle.std.proofs.Common.{◌≡◌, ◌≤◌, ◌+◌, ◌-◌, ℕ, Bool, true, false, cond, List, [], ◌∷◌, ◌++◌, length, drop, refl, sym, subst, ◌∙◌, ap, arith, eqb-true, length-append}
use Rattle.std.specs.Prelude.{Result, min, nat_eq, nat_le, not, ◌&&◌, ◌==◌}
use Rattle.std.proofs.lemmas.Bool.{false≢true, leb-true}
use Rattle.std.proofs.lemmas.List.{length-drop}
use Rattle.floor_rpc.specs.declared.answer.Answer.{Answer as Said}
use Rattle.floor_rpc.specs.declared.error.ErrorName.TheVariants as error
use Rattle.floor_rpc.specs.declared.failure.Failure.{Failure}
use Rattle.floor_clients.specs.declared.reply.Reply.{Reply}
use Rattle.floor_clients.specs.declared.reply.Reply.TheVariants as reply
use Rattle.floor_clients.specs.declared.standing.Asked.{Asked}
use Rattle.floor_clients.specs.declared.standing.Asked.TheVariants as asked
use Rattle.floor_clients.specs.declared.standing.CloseReason.TheVariants as reason
use Rattle.floor_clients.specs.declared.standing.Standing.{Standing}
use Rattle.floor_clients.specs.declared.standing.Standing.TheVariants as standing
use Rattle.floor_clients.specs.Clients.{Client, answered_at, came_at, is_free, is_nothing, is_over, max_notices, new_client, put_told, refusal_line, room, told_if}
use Rattle.floor_clients.specs.Laws.{NoticesAreBounded}
use Rattle.floor_clients.specs.Outgoing.{Outgoing, answered, lent, notices_len, told, took}
use Rattle.floor_clients.specs.Runs.{Came, Ended, Close, Line, TooLong, Answer, Tell, Pass, Watch, Unwatch, WatchAll, Took, Does, Runs, Step, told_line}
use Rattle.floor_clients.specs.Served.{asked_after, outgoing_after}
use Rattle.floor_clients.specs.Wanted.{Told, is_wanted}
use Rattle.floor_clients.proofs.Running.{chosen, told_leaves}

-- while something is awaited no answer is under way, and the notifications that wait are few enough
pub record IsBounded (a : Asked) (o : Outgoing) : Type 0 where
  pub none : is_nothing a ≡ false → o.answer ≡ 0
  pub few : notices_len o ≤ 16777216

same : (a b : Asked) (o p : Outgoing) → b ≡ a → p ≡ o → IsBounded a o → IsBounded b p
same a b o p e f h = subst (λ (x : Asked). IsBounded x p) (sym e) (subst (λ (x : Outgoing). IsBounded a x) (sym f) h)

-- an answer behind what waits, where none is under way
behind : (line : List ℕ) (a : Asked) (o : Outgoing) → is_nothing a ≡ true → o.answer ≡ 0 → notices_len o ≤ 16777216 → IsBounded a (answered line o)
behind line a o nothing none few = record { none = λ e. absurd (false≢true (sym e ∙ nothing)); few = omega (arith, none, few, length-append o.bytes line) }

free : (c : Client) → is_free c ≡ true → (is_nothing c.asked ≡ true) × (c.outgoing.answer ≡ 0)
free c e = on (is_over c.standing) (is_nothing c.asked) (c.outgoing.answer == 0) refl e
  where
    on : (over nothing none : Bool) → (c.outgoing.answer == 0) ≡ none → ((not over && nothing) && none) ≡ true → (nothing ≡ true) × (c.outgoing.answer ≡ 0)
    on false true true is h = (refl, eqb-true c.outgoing.answer 0 is)
    on false true false is h = absurd (false≢true h)
    on false false none is h = absurd (false≢true h)
    on true nothing none is h = absurd (false≢true h)

reply_bounded : (r : Reply) (a : Asked) (o : Outgoing) → is_nothing a ≡ true → o.answer ≡ 0 → IsBounded a o → IsBounded (asked_after r a) (outgoing_after r o)
reply_bounded reply.Silent a o nothing none h = h
reply_bounded (reply.Answer response) a o nothing none h = behind _ a o nothing none h.few
reply_bounded (reply.Task id call) a o nothing none h = record { none = λ e. none; few = h.few }

answer_bounded : (a : Asked) (outcome : Result Said Failure) (c : Client) → c.asked ≡ a → IsBounded c.asked c.outgoing → IsBounded (answered_at a outcome c).asked (answered_at a outcome c).outgoing
answer_bounded asked.Nothing outcome c e h = h
answer_bounded asked.Silent outcome c e h = record { none = λ f. absurd (false≢true (sym f)); few = h.few }
answer_bounded (asked.Answer id) outcome c e h = behind _ asked.Nothing c.outgoing refl (h.none (ap is_nothing e)) h.few

told_few : (line : List ℕ) (o : Outgoing) (most : ℕ) → most ≤ 16777216 → length line ≤ most - notices_len o → notices_len o ≤ 16777216 → notices_len (told line o) ≤ 16777216
told_few line o most less room few = omega (arith, less, room, few, length-append o.bytes line)

most_few : (all : Bool) → cond all 16777216 1048576 ≤ 16777216
most_few true = omega arith
most_few false = omega arith

told_bounded : (t : Told) (c : Client) → IsBounded c.asked c.outgoing → IsBounded c.asked (told_if t c).outgoing
told_bounded t c h = on (not (is_over c.standing) && is_wanted c.mode c.watched t)
  where
    fits : (b : Bool) → nat_le (length (told_line t)) (room c) ≡ b
        → IsBounded c.asked (cond b (record c { outgoing = told (told_line t) c.outgoing }) (record c { standing = standing.Over reason.Behind })).outgoing
    fits true e = record {
      none = h.none;
      few = told_few (told_line t) c.outgoing (max_notices c.watched) (most_few c.watched.all) (leb-true (length (told_line t)) (room c) e) h.few;
    }
    fits false e = h

    on : (b : Bool) → IsBounded c.asked (cond b (put_told t c) c).outgoing
    on true = fits (nat_le (length (told_line t)) (room c)) refl
    on false = h

took_bounded : (count : ℕ) (a : Asked) (o : Outgoing) → IsBounded a o → IsBounded a (took count o)
took_bounded count a o h = record {
  none = λ e. let z = h.none e in omega (arith, z);
  few = let f = h.few in omega (arith, f, length-drop count o.bytes);
}

step_bounded : (s : Step) (old new : Client) → Does s old new → IsBounded old.asked old.outgoing → IsBounded new.asked new.outgoing
step_bounded (Came bytes is_taken) old new d h = same old.asked new.asked old.outgoing new.outgoing (ap (λ (c : Client). c.asked) d.0 ∙ (kept old.standing).0) (ap (λ (c : Client). c.outgoing) d.0 ∙ (kept old.standing).1) h
  where
    kept : (st : Standing) → ((came_at st bytes old).asked ≡ old.asked) × ((came_at st bytes old).outgoing ≡ old.outgoing)
    kept standing.Serving = (refl, refl)
    kept standing.Ended = (refl, refl)
    kept (standing.Over reason) = (refl, refl)
step_bounded Ended old new d h = same old.asked new.asked old.outgoing new.outgoing (ap (λ (c : Client). c.asked) d) (ap (λ (c : Client). c.outgoing) d) h
step_bounded (Close why) old new d h = same old.asked new.asked old.outgoing new.outgoing (ap (λ (c : Client). c.asked) d) (ap (λ (c : Client). c.outgoing) d) h
step_bounded (Line draining line reply) old new d h =
    let f = free old d.free in
    same (asked_after reply old.asked) new.asked (outgoing_after reply old.outgoing) new.outgoing (ap (λ (c : Client). c.asked) d.next) (ap (λ (c : Client). c.outgoing) d.next)
    (reply_bounded reply old.asked old.outgoing f.0 f.1 h)
step_bounded TooLong old new d h =
    let f = free old d.free in
    same old.asked new.asked (answered (refusal_line error.TooLong) old.outgoing) new.outgoing (ap (λ (c : Client). c.asked) d.next) (ap (λ (c : Client). c.outgoing) d.next)
    (behind (refusal_line error.TooLong) old.asked old.outgoing f.0 f.1 h.few)
step_bounded (Answer outcome response) old new d h = subst (λ (c : Client). IsBounded c.asked c.outgoing) (sym d.0) (on (is_over old.standing))
  where
    on : (over : Bool) → IsBounded (cond over old (answered_at old.asked outcome old)).asked (cond over old (answered_at old.asked outcome old)).outgoing
    on true = h
    on false = answer_bounded old.asked outcome old refl h
step_bounded (Tell t is) old new d h =
    same old.asked new.asked (told_if t old).outgoing new.outgoing (ap (λ (c : Client). c.asked) d.0.told ∙ told_asked) (ap (λ (c : Client). c.outgoing) d.0.told) (told_bounded t old h)
  where
    told_asked : (told_if t old).asked ≡ old.asked
    told_asked = told_leaves (λ (x : Client). x.asked) t old (chosen (λ (x : Client). x.asked) (nat_le (length (told_line t)) (room old)) _ _ old.asked refl refl)
step_bounded (Pass conference place is) old new d h = same old.asked new.asked old.outgoing new.outgoing (ap (λ (c : Client). c.asked) d.0) (ap (λ (c : Client). c.outgoing) d.0) h
step_bounded (Watch conference place) old new d h = same old.asked new.asked old.outgoing new.outgoing (ap (λ (c : Client). c.asked) d.0) (ap (λ (c : Client). c.outgoing) d.0) h
step_bounded (Unwatch conference) old new d h = same old.asked new.asked old.outgoing new.outgoing (ap (λ (c : Client). c.asked) d.0) (ap (λ (c : Client). c.outgoing) d.0) h
step_bounded (WatchAll all) old new d h = same old.asked new.asked old.outgoing new.outgoing (ap (λ (c : Client). c.asked) d) (ap (λ (c : Client). c.outgoing) d) h
step_bounded (Took bytes) old new d h =
    same old.asked new.asked (took (min d.count (length (lent old.outgoing))) old.outgoing) new.outgoing (ap (λ (c : Client). c.asked) d.next) (ap (λ (c : Client). c.outgoing) d.next)
    (took_bounded (min d.count (length (lent old.outgoing))) old.asked old.outgoing h)

run_bounded : (ss : List Step) (first last : Client) → Runs ss first last → IsBounded first.asked first.outgoing → IsBounded last.asked last.outgoing
run_bounded [] first last r h = subst (λ (c : Client). IsBounded c.asked c.outgoing) (sym r) h
run_bounded (s ∷ ss) first last r h = run_bounded ss r.0 last r.2 (step_bounded s first r.0 r.1 h)

pub notices_are_bounded : NoticesAreBounded
notices_are_bounded mode steps last r = (run_bounded steps (new_client mode) last r (record { none = λ e. refl; few = omega arith })).few
