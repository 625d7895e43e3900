-- What serving a line comes to.
use Rattle.std.proofs.Common.{◌≡◌, ◌≤◌, ◌<◌, ◌+◌, ℕ, zero, suc, Bool, true, false, cond, List, [], ◌∷◌, ◌++◌, length, drop, take, refl, sym, subst, ◌∙◌, ap, arith, length-append, lt-ltb}
use Rattle.std.specs.Prelude.{Option, Some, None, Result, Ok, Err, IfOk, OnOk, nat_lt, unwrap_or, ◌&&◌}
use Rattle.std.proofs.lemmas.Bool.{false≢true, ltb-false, ltb-true}
use Rattle.std.proofs.lemmas.List.{length-take}
use Rattle.floor_rpc.specs.declared.error.ErrorName.TheVariants as error
use Rattle.floor_clients.specs.declared.reply.Reply.{Reply}
use Rattle.floor_clients.specs.declared.reply.Reply.TheVariants as reply
use Rattle.floor_clients.specs.declared.standing.Asked.{Asked}
use Rattle.floor_clients.specs.declared.standing.CloseReason.TheVariants as reason
use Rattle.floor_clients.specs.declared.standing.Next.{Next}
use Rattle.floor_clients.specs.declared.standing.Next.TheVariants as next
use Rattle.floor_clients.specs.Clients.{Client, closed_by, comes, comes_at, is_free, is_ready}
use Rattle.floor_clients.specs.Lines.{first_len, has_line_feed, is_too_long, line_len}
use Rattle.floor_clients.specs.Outgoing.{Outgoing}
use Rattle.floor_clients.specs.Replies.{IsReplyTo}
use Rattle.floor_clients.specs.Served.{Goes, IsServed, Overlong, Serves, asked_after, behind, given, outgoing_after}
use Rattle.floor_clients.proofs.Searching.{clear_before, cut_at, there}

-- a line that was served gives nothing to do or a task
no_nothing : (r : Reply) → ◌≡◌ {A = Next} next.Nothing (given r) → ⊥
no_nothing reply.Silent e = cc
no_nothing (reply.Answer response) e = cc
no_nothing (reply.Task id call) e = cc

no_closed : (r : Reply) → ◌≡◌ {A = Next} next.Closed (given r) → ⊥
no_closed reply.Silent e = cc
no_closed (reply.Answer response) e = cc
no_closed (reply.Task id call) e = cc

serves_goes : (d : Bool) (n : Next) (old new : Client) → Serves d n old new → Goes d n old new
serves_goes d next.Nothing old new s = absurd (no_nothing s.1 s.3)
serves_goes d next.Served old new s = s
serves_goes d (next.Task call) old new s = s
serves_goes d next.Closed old new s = absurd (no_closed s.1 s.3)

pub served : {E : Type 0} (r : Result Next E) (d : Bool) (old new : Client) → IfOk r (λ n. Serves d n old new) → IfOk r (λ n. Goes d n old new)
served (Ok n) d old new s = serves_goes d n old new s
served (Err e) d old new s = tt

-- a line that is too long closes
pub overlong : {E : Type 0} (r : Result Next E) (d : Bool) (old new : Client) → is_free old ≡ true → is_too_long old.held ≡ true → IfOk r (λ n. n ≡ next.Closed)
    → OnOk r (new ≡ closed_by error.TooLong reason.TooLong old) → IfOk r (λ n. Goes d n old new)
overlong (Ok n) d old new free long is changed = subst (λ (x : Next). Goes d x old new) (sym is) (record { free = free; long = long; next = changed })
overlong (Err e) d old new free long is changed = tt

pub long_at : (held : List ℕ) (len : ℕ) → line_len held ≡ Some len → 1048576 < len → is_too_long held ≡ true
long_at held len e more = ap (λ (o : Option ℕ). nat_lt 1048576 (unwrap_or o (length held))) e ∙ lt-ltb 1048576 len more

pub long_held : (held : List ℕ) → line_len held ≡ None → 1048576 < length held → is_too_long held ≡ true
long_held held e more = ap (λ (o : Option ℕ). nat_lt 1048576 (unwrap_or o (length held))) e ∙ lt-ltb 1048576 (length held) more

-- nothing is ready where no line may be served, or none came
pub not_free : (c : Client) → is_free c ≡ false → is_ready c ≡ false
not_free c e = ap (λ (b : Bool). b && comes c.held) e

none_comes : (held : List ℕ) → line_len held ≡ None → length held ≤ 1048576 → comes held ≡ false
none_comes held e few = ap (λ (o : Option ℕ). comes_at o (length held)) e ∙ no (nat_lt 1048576 (length held)) refl
  where
    no : (b : Bool) → nat_lt 1048576 (length held) ≡ b → nat_lt 1048576 (length held) ≡ false
    no true t = absurd (omega (arith, few, less t))
      where
        less : nat_lt 1048576 (length held) ≡ true → 1048576 < length held
        less h = ltb-true 1048576 (length held) h
    no false t = t

and_false : (a b : Bool) → b ≡ false → (a && b) ≡ false
and_false true b e = e
and_false false b e = refl

pub none_ready : (c : Client) → line_len c.held ≡ None → length c.held ≤ 1048576 → is_ready c ≡ false
none_ready c e few = and_false (is_free c) (comes c.held) (none_comes c.held e few)

-- whoever reads only while no line may be served holds a line at most
few_held : (held : List ℕ) → comes held ≡ false → length held ≤ 1048576
few_held held e = on (line_len held) e
  where
    on : (o : Option ℕ) → comes_at o (length held) ≡ false → length held ≤ 1048576
    on (Some len) h = absurd (false≢true (sym h))
    on None h = ltb-false 1048576 (length held) h

pub bounded : (c : Client) (bytes new : List ℕ) → is_free c ≡ true → is_ready c ≡ false → length new ≤ length c.held + length bytes → length new ≤ 1048576 + length bytes
bounded c bytes new free ready grows =
    let few = few_held c.held (on (is_free c) (comes c.held) free ready) in omega (arith, few, grows)
  where
    on : (a b : Bool) → a ≡ true → (a && b) ≡ false → b ≡ false
    on true b e h = h
    on false b e h = absurd (false≢true e)

-- a line is served
pub line_served : (d : Bool) (n : Next) (r : Reply) (len : ℕ) (old new : Client) → is_free old ≡ true → line_len old.held ≡ Some len → len ≤ 1048576
    → IsReplyTo old.mode d (take len old.held) r → new ≡ behind r (drop (len + 1) old.held) old → n ≡ given r → Serves d n old new
line_served d n r len old new free is few follows changed gives =
    let held : new.held ≡ drop (len + 1) old.held = ap (λ (c : Client). c.held) changed in
    let at = there old.held len is in (
      take len old.held,
      r,
      record {
        free = free;
        front = cut_at old.held len is ∙ ap (λ (l : List ℕ). take len old.held ++ 10 ∷ l) (sym held);
        whole = clear_before old.held len is;
        few = omega (arith, few, length-take len old.held);
        follows = follows;
        next = changed ∙ ap (λ (l : List ℕ). behind r l old) (sym held);
      },
      gives,
    )

abbrev pub with : Client → List ℕ → Asked → Outgoing → Client
with c held a o = record { mode = c.mode; standing = c.standing; held = held; asked = a; outgoing = o; watched = c.watched }

-- what the calls made of a client's parts is what follows from the line
pub serves : (d : Bool) (n : Next) (r : Reply) (len : ℕ) (inside old : Client) (line held : List ℕ) (a : Asked) (o : Outgoing) → inside ≡ old → is_free old ≡ true → line_len old.held ≡ Some len → len ≤ 1048576
    → line ≡ take len inside.held → IsReplyTo inside.mode d line r → held ≡ drop (len + 1) inside.held → a ≡ asked_after r inside.asked → o ≡ outgoing_after r inside.outgoing → n ≡ given r
    → Serves d n old (with inside held a o)
serves d n r len inside old line held a o same free is few front follows passes asks goes gives =
    subst (λ (x : Client). Serves d n x (with inside held a o)) same
    (line_served d n r len inside (with inside held a o) (ap is_free same ∙ free) (ap (λ (c : Client). line_len c.held) same ∙ is) few
    (subst (λ (l : List ℕ). IsReplyTo inside.mode d l r) front follows)
    (ap (λ (l : List ℕ). with inside l a o) passes ∙ ap (λ (x : Asked). with inside (drop (len + 1) inside.held) x o) asks
    ∙ ap (λ (x : Outgoing). with inside (drop (len + 1) inside.held) (asked_after r inside.asked) x) goes)
    gives)

pub served_from : {E : Type 0} (r : Result Next E) (d : Bool) (old x new : Client) → x ≡ old → IfOk r (λ n. Serves d n x new) → IfOk r (λ n. Goes d n old new)
served_from r d old x new e s = served r d old new (subst (λ (y : Client). IfOk r (λ n. Serves d n y new)) e s)

-- what is lent is there
short : (k : ℕ) (bytes : List ℕ) → length (take k bytes) ≤ length bytes
short zero bytes = omega arith
short (suc k) [] = omega arith
short (suc k) (b ∷ bytes) = let t = short k bytes in omega (arith, t)

pub lent_within : (k count : ℕ) (bytes : List ℕ) → count ≤ length (take k bytes) → count ≤ length bytes
lent_within k count bytes few = let t = short k bytes in omega (arith, t, few)
