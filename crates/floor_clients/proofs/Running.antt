-- Calls of one client, one after another.
use Rattle.std.proofs.Common.{◌≡◌, ◌≤◌, ℕ, zero, suc, Bool, true, false, cond, List, [], ◌∷◌, ◌++◌, length, take, drop, min, refl, sym, subst, ◌∙◌, ap, arith, append_assoc, append-nil}
use Rattle.std.specs.Prelude.{Option, Some, None, Result, nat_le, not, ◌&&◌, ◌==◌}
use Rattle.std.proofs.Math.Nat.{min-le_right}
use Rattle.std.proofs.lemmas.Bool.{false≢true}
use Rattle.floor_rpc.specs.declared.answer.Answer.{Answer as Said}
use Rattle.floor_rpc.specs.declared.failure.Failure.{Failure}
use Rattle.floor_rpc.specs.declared.response.Response.{Response}
use Rattle.floor_clients.specs.declared.reply.Reply.{Reply}
use Rattle.floor_clients.specs.declared.reply.Reply.TheVariants as reply
use Rattle.floor_clients.specs.declared.standing.Asked.{Asked}
use Rattle.floor_clients.specs.declared.standing.Asked.TheVariants as asked
use Rattle.floor_clients.specs.declared.standing.Standing.{Standing}
use Rattle.floor_clients.specs.declared.standing.Standing.TheVariants as standing
use Rattle.floor_clients.specs.Clients.{Client, answered_at, answered_by, came_at, is_nothing, is_over, new_client, put_told, room, told_if}
use Rattle.floor_clients.specs.Laws.{AreWhole, EachLineItsAnswer, IsServedInOrder, Matches, awaited}
use Rattle.floor_clients.specs.Lines.{lined}
use Rattle.floor_clients.specs.Outgoing.{Outgoing, lent}
use Rattle.floor_clients.specs.Runs.{Came, Ended, Close, Line, TooLong, Answer, Tell, Pass, Watch, Unwatch, WatchAll, Took, Does, Owed, Runs, Step, answer_line, answer_lines, answers_by, answers_of, answers_of_reply, came_by, came_of, is_serving, is_told, lines_by, lines_of, one_response, owed_by, owed_by_reply, owed_of, response_at, taken_by, taken_of, told_line, written_by, written_of}
use Rattle.floor_clients.specs.Served.{asked_after, outgoing_after}
use Rattle.floor_clients.specs.Wanted.{Told, is_wanted}

-- ---- a part of a client that a choice leaves as it is

module _ {A : Type 0} (part : Client → A) where
  pub chosen : (b : Bool) (x y : Client) (a : A) → part x ≡ a → part y ≡ a → part (cond b x y) ≡ a
  chosen true x y a e f = e
  chosen false x y a e f = f

  -- what it is told leaves the part as it is
  pub told_leaves : (t : Told) (c : Client) → part (put_told t c) ≡ part c → part (told_if t c) ≡ part c
  told_leaves t c e = chosen (not (is_over c.standing) && is_wanted c.mode c.watched t) (put_told t c) c (part c) e refl

-- ---- what came

taken_in : (st : Standing) (bytes : List ℕ) (c : Client) → true ≡ is_serving st → (came_at st bytes c).held ≡ c.held ++ bytes
taken_in standing.Serving bytes c e = refl
taken_in standing.Ended bytes c e = absurd (false≢true (sym e))
taken_in (standing.Over reason) bytes c e = absurd (false≢true (sym e))

dropped : (st : Standing) (bytes : List ℕ) (c : Client) → false ≡ is_serving st → (came_at st bytes c).held ≡ c.held
dropped standing.Serving bytes c e = absurd (false≢true e)
dropped standing.Ended bytes c e = refl
dropped (standing.Over reason) bytes c e = refl

told_held : (t : Told) (c : Client) → (told_if t c).held ≡ c.held
told_held t c = told_leaves (λ (x : Client). x.held) t c (chosen (λ (x : Client). x.held) (nat_le (length (told_line t)) (room c)) _ _ c.held refl refl)

answered_held : (a : Asked) (outcome : Result Said Failure) (c : Client) → (answered_at a outcome c).held ≡ c.held
answered_held asked.Nothing outcome c = refl
answered_held asked.Silent outcome c = refl
answered_held (asked.Answer id) outcome c = refl

-- a line that was served stood in front
passed : (old new line : List ℕ) → old ≡ line ++ 10 ∷ new → old ++ [] ≡ ((line ++ 10 ∷ []) ++ []) ++ new
passed old new line e =
    append-nil old ∙ e ∙ sym (append_assoc line (10 ∷ []) new) ∙ ap (λ (l : List ℕ). l ++ new) (sym (append-nil (line ++ 10 ∷ [])))

same_held : (old new : List ℕ) → new ≡ old → old ++ [] ≡ new
same_held old new e = append-nil old ∙ sym e

held_step : (s : Step) (old new : Client) → Does s old new → old.held ++ came_of s ≡ lined (lines_of s) ++ new.held
held_step (Came bytes true) old new d = sym (ap (λ (c : Client). c.held) d.0 ∙ taken_in old.standing bytes old d.1)
held_step (Came bytes false) old new d = same_held old.held new.held (ap (λ (c : Client). c.held) d.0 ∙ dropped old.standing bytes old d.1)
held_step Ended old new d = same_held old.held new.held (ap (λ (c : Client). c.held) d)
held_step (Close why) old new d = same_held old.held new.held (ap (λ (c : Client). c.held) d)
held_step (Line draining line reply) old new d = passed old.held new.held line d.front
held_step TooLong old new d = same_held old.held new.held (ap (λ (c : Client). c.held) d.next)
held_step (Answer outcome response) old new d =
    same_held old.held new.held (ap (λ (c : Client). c.held) d.0
    ∙ chosen (λ (c : Client). c.held) (is_over old.standing) old (answered_at old.asked outcome old) old.held refl (answered_held old.asked outcome old))
held_step (Tell t is) old new d = same_held old.held new.held (ap (λ (c : Client). c.held) d.0.told ∙ told_held t old)
held_step (Pass conference place is) old new d = same_held old.held new.held (ap (λ (c : Client). c.held) d.0)
held_step (Watch conference place) old new d = same_held old.held new.held (ap (λ (c : Client). c.held) d.0)
held_step (Unwatch conference) old new d = same_held old.held new.held (ap (λ (c : Client). c.held) d.0)
held_step (WatchAll all) old new d = same_held old.held new.held (ap (λ (c : Client). c.held) d)
held_step (Took bytes) old new d = same_held old.held new.held (ap (λ (c : Client). c.held) d.next)

lined_both : (xs ys : List (List ℕ)) → lined (xs ++ ys) ≡ lined xs ++ lined ys
lined_both [] ys = refl
lined_both (x ∷ xs) ys = ap (λ (l : List ℕ). (x ++ 10 ∷ []) ++ l) (lined_both xs ys) ∙ sym (append_assoc (x ++ 10 ∷ []) (lined xs) (lined ys))

-- one part behind another: what a step makes of its first, and the other steps of what is left
joined : (first a b next last x y : List ℕ) → first ++ a ≡ x ++ next → next ++ b ≡ y ++ last → first ++ (a ++ b) ≡ (x ++ y) ++ last
joined first a b next last x y e f =
    sym (append_assoc first a b) ∙ ap (λ (l : List ℕ). l ++ b) e ∙ append_assoc x next b ∙ ap (λ (l : List ℕ). x ++ l) f ∙ sym (append_assoc x y last)

pub held_run : (ss : List Step) (first last : Client) → Runs ss first last → first.held ++ came_by ss ≡ lined (lines_by ss) ++ last.held
held_run [] first last r = same_held first.held last.held (ap (λ (c : Client). c.held) r)
held_run (s ∷ ss) first last r =
    joined first.held (came_of s) (came_by ss) r.0.held last.held (lined (lines_of s)) (lined (lines_by ss)) (held_step s first r.0 r.1) (held_run ss r.0 last r.2)
    ∙ ap (λ (l : List ℕ). l ++ last.held) (sym (lined_both (lines_of s) (lines_by ss)))

-- ---- no line has a line feed

whole_step : (s : Step) (old new : Client) → Does s old new → AreWhole (lines_of s)
whole_step (Came bytes is_taken) old new d = tt
whole_step Ended old new d = tt
whole_step (Close why) old new d = tt
whole_step (Line draining line reply) old new d = (d.whole, tt)
whole_step TooLong old new d = tt
whole_step (Answer outcome response) old new d = tt
whole_step (Tell t is) old new d = tt
whole_step (Pass conference place is) old new d = tt
whole_step (Watch conference place) old new d = tt
whole_step (Unwatch conference) old new d = tt
whole_step (WatchAll all) old new d = tt
whole_step (Took bytes) old new d = tt

whole_both : (xs ys : List (List ℕ)) → AreWhole xs → AreWhole ys → AreWhole (xs ++ ys)
whole_both [] ys w v = v
whole_both (x ∷ xs) ys w v = (w.0, whole_both xs ys w.1 v)

pub whole_run : (ss : List Step) (first last : Client) → Runs ss first last → AreWhole (lines_by ss)
whole_run [] first last r = tt
whole_run (s ∷ ss) first last r = whole_both (lines_of s) (lines_by ss) (whole_step s first r.0 r.1) (whole_run ss r.0 last r.2)

-- ---- what was taken

-- what is lent and taken is the front of what waits
lent_front : (count most : ℕ) (bytes : List ℕ) → count ≤ length (take most bytes) → take count (take most bytes) ++ drop count bytes ≡ bytes
lent_front zero most bytes few = refl
lent_front (suc count) zero bytes few = absurd (omega (arith, few))
lent_front (suc count) (suc most) [] few = absurd (omega (arith, few))
lent_front (suc count) (suc most) (b ∷ bytes) few = ap (λ (l : List ℕ). b ∷ l) (lent_front count most bytes (omega (arith, few)))

same_out : (old new : List ℕ) → new ≡ old → new ≡ old ++ []
same_out old new e = e ∙ sym (append-nil old)

reply_out : (r : Reply) (o : Outgoing) → (outgoing_after r o).bytes ≡ o.bytes ++ answer_lines (answers_of_reply r)
reply_out reply.Silent o = sym (append-nil o.bytes)
reply_out (reply.Answer response) o = ap (λ (l : List ℕ). o.bytes ++ l) (sym (append-nil (answer_line response)))
reply_out (reply.Task id call) o = sym (append-nil o.bytes)

answered_out : (over : Bool) (a : Asked) (outcome : Result Said Failure) (c : Client)
    → (cond over c (answered_at a outcome c)).outgoing.bytes ≡ c.outgoing.bytes ++ answer_lines (one_response (cond over None (response_at a outcome c)))
answered_out true a outcome c = sym (append-nil c.outgoing.bytes)
answered_out false asked.Nothing outcome c = sym (append-nil c.outgoing.bytes)
answered_out false asked.Silent outcome c = sym (append-nil c.outgoing.bytes)
answered_out false (asked.Answer id) outcome c = ap (λ (l : List ℕ). c.outgoing.bytes ++ l) (sym (append-nil _))

told_out_on : (t : Told) (c : Client) (wanted fits : Bool) (x y : Client) → x.outgoing.bytes ≡ c.outgoing.bytes ++ told_line t → y.outgoing.bytes ≡ c.outgoing.bytes
    → (true ≡ (wanted && fits) → (cond wanted (cond fits x y) c).outgoing.bytes ≡ c.outgoing.bytes ++ told_line t)
    × (false ≡ (wanted && fits) → (cond wanted (cond fits x y) c).outgoing.bytes ≡ c.outgoing.bytes)
told_out_on t c true true x y e f = (λ _. e, λ h. absurd (false≢true h))
told_out_on t c true false x y e f = (λ h. absurd (false≢true (sym h)), λ _. f)
told_out_on t c false true x y e f = (λ h. absurd (false≢true (sym h)), λ _. refl)
told_out_on t c false false x y e f = (λ h. absurd (false≢true (sym h)), λ _. refl)

told_out : (t : Told) (c : Client) → (true ≡ is_told t c → (told_if t c).outgoing.bytes ≡ c.outgoing.bytes ++ told_line t)
    × (false ≡ is_told t c → (told_if t c).outgoing.bytes ≡ c.outgoing.bytes)
told_out t c = told_out_on t c (not (is_over c.standing) && is_wanted c.mode c.watched t) (nat_le (length (told_line t)) (room c)) _ _ refl refl

out_step : (s : Step) (old new : Client) → Does s old new → taken_of s ++ new.outgoing.bytes ≡ old.outgoing.bytes ++ written_of s
out_step (Came bytes is_taken) old new d = same_out old.outgoing.bytes new.outgoing.bytes (ap (λ (c : Client). c.outgoing.bytes) d.0 ∙ kept old.standing)
  where
    kept : (st : Standing) → (came_at st bytes old).outgoing.bytes ≡ old.outgoing.bytes
    kept standing.Serving = refl
    kept standing.Ended = refl
    kept (standing.Over reason) = refl
out_step Ended old new d = same_out old.outgoing.bytes new.outgoing.bytes (ap (λ (c : Client). c.outgoing.bytes) d)
out_step (Close why) old new d = same_out old.outgoing.bytes new.outgoing.bytes (ap (λ (c : Client). c.outgoing.bytes) d)
out_step (Line draining line reply) old new d = ap (λ (c : Client). c.outgoing.bytes) d.next ∙ reply_out reply old.outgoing
out_step TooLong old new d = ap (λ (c : Client). c.outgoing.bytes) d.next
out_step (Answer outcome response) old new d =
    ap (λ (c : Client). c.outgoing.bytes) d.0 ∙ answered_out (is_over old.standing) old.asked outcome old
    ∙ ap (λ r. old.outgoing.bytes ++ answer_lines (one_response r)) (sym d.1)
out_step (Tell t true) old new d = ap (λ (c : Client). c.outgoing.bytes) d.0.told ∙ (told_out t old).0 d.1
out_step (Tell t false) old new d = same_out old.outgoing.bytes new.outgoing.bytes (ap (λ (c : Client). c.outgoing.bytes) d.0.told ∙ (told_out t old).1 d.1)
out_step (Pass conference place is) old new d = same_out old.outgoing.bytes new.outgoing.bytes (ap (λ (c : Client). c.outgoing.bytes) d.0)
out_step (Watch conference place) old new d = same_out old.outgoing.bytes new.outgoing.bytes (ap (λ (c : Client). c.outgoing.bytes) d.0)
out_step (Unwatch conference) old new d = same_out old.outgoing.bytes new.outgoing.bytes (ap (λ (c : Client). c.outgoing.bytes) d.0)
out_step (WatchAll all) old new d = same_out old.outgoing.bytes new.outgoing.bytes (ap (λ (c : Client). c.outgoing.bytes) d)
out_step (Took bytes) old new d =
    ap (λ (c : Client). bytes ++ c.outgoing.bytes) d.next
    ∙ ap (λ (l : List ℕ). l ++ drop (min d.count (length (lent old.outgoing))) old.outgoing.bytes) d.bytes_are
    ∙ lent_front (min d.count (length (lent old.outgoing))) 65536 old.outgoing.bytes (min-le_right d.count (length (lent old.outgoing)))
    ∙ sym (append-nil old.outgoing.bytes)

pub out_run : (ss : List Step) (first last : Client) → Runs ss first last → taken_by ss ++ last.outgoing.bytes ≡ first.outgoing.bytes ++ written_by ss
out_run [] first last r = same_out first.outgoing.bytes last.outgoing.bytes (ap (λ (c : Client). c.outgoing.bytes) r)
out_run (s ∷ ss) first last r =
    append_assoc (taken_of s) (taken_by ss) last.outgoing.bytes
    ∙ ap (λ (l : List ℕ). taken_of s ++ l) (out_run ss r.0 last r.2)
    ∙ sym (append_assoc (taken_of s) r.0.outgoing.bytes (written_by ss))
    ∙ ap (λ (l : List ℕ). l ++ written_by ss) (out_step s first r.0 r.1)
    ∙ append_assoc first.outgoing.bytes (written_of s) (written_by ss)

-- ---- answers

module _ (O : List Owed) (A : List Response) (left : List Owed) where
  abbrev Then : Asked → Type 0
  Then a = Matches (awaited a ++ O) A left

  reply_on : (r : Reply) (a b : Asked) → is_nothing a ≡ true → b ≡ asked_after r a → Then b → Matches (awaited a ++ (owed_by_reply r ++ O)) (answers_of_reply r ++ A) left
  reply_on reply.Silent a b free e m = subst Then e m
  reply_on (reply.Answer response) asked.Nothing b free e m = (refl, subst Then e m)
  reply_on (reply.Answer response) asked.Silent b free e m = absurd (false≢true free)
  reply_on (reply.Answer response) (asked.Answer id) b free e m = absurd (false≢true free)
  reply_on (reply.Task (Some id) call) asked.Nothing b free e m = subst Then e m
  reply_on (reply.Task None call) asked.Nothing b free e m = subst Then e m
  reply_on (reply.Task id call) asked.Silent b free e m = absurd (false≢true free)
  reply_on (reply.Task id call) (asked.Answer other) b free e m = absurd (false≢true free)

  -- what is awaited behind an answer
  abbrev behind_answer : Bool → Asked → Asked
  behind_answer true a = a
  behind_answer false a = asked.Nothing

  answer_on : (over : Bool) (a b : Asked) (outcome : Result Said Failure) (c : Client) → b ≡ behind_answer over a → Then b
      → Matches (awaited a ++ O) (one_response (cond over None (response_at a outcome c)) ++ A) left
  answer_on true a b outcome c e m = subst Then e m
  answer_on false asked.Nothing b outcome c e m = subst Then e m
  answer_on false asked.Silent b outcome c e m = subst Then e m
  answer_on false (asked.Answer id) b outcome c e m = (refl, subst Then e m)

  answers_step : (s : Step) (old new : Client) → Does s old new → Then new.asked → Matches (awaited old.asked ++ (owed_of s ++ O)) (answers_of s ++ A) left
  answers_step (Came bytes is_taken) old new d m = subst Then (ap (λ (c : Client). c.asked) d.0 ∙ kept old.standing) m
    where
      kept : (st : Standing) → (came_at st bytes old).asked ≡ old.asked
      kept standing.Serving = refl
      kept standing.Ended = refl
      kept (standing.Over reason) = refl
  answers_step Ended old new d m = subst Then (ap (λ (c : Client). c.asked) d) m
  answers_step (Close why) old new d m = subst Then (ap (λ (c : Client). c.asked) d) m
  answers_step (Line draining line reply) old new d m = reply_on reply old.asked new.asked (free (is_over old.standing) (is_nothing old.asked) (old.outgoing.answer == 0) d.free) (ap (λ (c : Client). c.asked) d.next) m
    where
      free : (over nothing none : Bool) → ((not over && nothing) && none) ≡ true → nothing ≡ true
      free over true none e = refl
      free true false none e = e
      free false false none e = e
  answers_step TooLong old new d m = subst Then (ap (λ (c : Client). c.asked) d.next) m
  answers_step (Answer outcome response) old new d m =
      subst (λ r. Matches (awaited old.asked ++ O) (one_response r ++ A) left) (sym d.1)
      (answer_on (is_over old.standing) old.asked new.asked outcome old (ap (λ (c : Client). c.asked) d.0 ∙ is_behind (is_over old.standing) old.asked refl) m)
    where
      is_behind : (over : Bool) (a : Asked) → old.asked ≡ a → (cond over old (answered_at a outcome old)).asked ≡ behind_answer over a
      is_behind true a e = e
      is_behind false asked.Nothing e = e
      is_behind false asked.Silent e = refl
      is_behind false (asked.Answer id) e = refl
  answers_step (Tell t is) old new d m = subst Then (ap (λ (c : Client). c.asked) d.0.told ∙ told_asked) m
    where
      told_asked : (told_if t old).asked ≡ old.asked
      told_asked = told_leaves (λ (x : Client). x.asked) t old (chosen (λ (x : Client). x.asked) (nat_le (length (told_line t)) (room old)) _ _ old.asked refl refl)
  answers_step (Pass conference place is) old new d m = subst Then (ap (λ (c : Client). c.asked) d.0) m
  answers_step (Watch conference place) old new d m = subst Then (ap (λ (c : Client). c.asked) d.0) m
  answers_step (Unwatch conference) old new d m = subst Then (ap (λ (c : Client). c.asked) d.0) m
  answers_step (WatchAll all) old new d m = subst Then (ap (λ (c : Client). c.asked) d) m
  answers_step (Took bytes) old new d m = subst Then (ap (λ (c : Client). c.asked) d.next) m

-- nothing is answered but what is awaited
left_over : (a : List Owed) → Matches (a ++ []) [] a
left_over [] = refl
left_over (o ∷ os) = ap (λ (l : List Owed). o ∷ l) (sym (append-nil os))

pub answers_run : (ss : List Step) (first last : Client) → Runs ss first last → Matches (awaited first.asked ++ owed_by ss) (answers_by ss) (awaited last.asked)
answers_run [] first last r = subst (λ (a : Asked). Matches (awaited a ++ []) [] (awaited last.asked)) (ap (λ (c : Client). c.asked) r) (left_over (awaited last.asked))
answers_run (s ∷ ss) first last r = answers_step (owed_by ss) (answers_by ss) (awaited last.asked) s first r.0 r.1 (answers_run ss r.0 last r.2)

pub each_line_its_answer : EachLineItsAnswer
each_line_its_answer mode steps last r =
    record {
      came = held_run steps (new_client mode) last r;
      whole = whole_run steps (new_client mode) last r;
      answers = answers_run steps (new_client mode) last r;
      taken = out_run steps (new_client mode) last r;
    }
