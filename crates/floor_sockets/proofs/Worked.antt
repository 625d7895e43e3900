-- The runs of a table with one socket, computed.
use Rattle.std.proofs.Common.{◌≡◌, ℕ, zero, suc, ◌<◌, false, List, [], ◌∷◌, refl, sym, ap, ◌∙◌, arith, inl, inr, nat_eq}
use Rattle.std.specs.Prelude.{Option, Some, None}
use Rattle.std.proofs.lemmas.List.Elements.{All-cons, All-nil}
use Rattle.floor_sockets.specs.declared.deadlines.Deadline.{Deadline}
use Rattle.floor_sockets.specs.declared.life.Asked.TheVariants as asked
use Rattle.floor_sockets.specs.declared.life.Life.{Life}
use Rattle.floor_sockets.specs.Life.{at_deadline, came, is_awaiting, over, worded}
use Rattle.floor_sockets.specs.Rounds.{Rounds, queue}
use Rattle.floor_sockets.specs.Sockets.{life_at}
use Rattle.floor_sockets.specs.Examples.{OneIsRead, OneIsShut, member, nobody, the_one, with_one}
use Rattle.floor_sockets.proofs.Listing.{lined, lined_idle}
use Rattle.floor_sockets.proofs.Turning.{not_both}

-- no other slot has a socket
others : (l m : Life) (line after : Rounds) (ds es : List Deadline) (t u k : ℕ) → nat_eq 0 k ≡ false → life_at (with_one m after es u) k ≡ life_at (with_one l line ds t) k
others l m line after ds es t u zero e = not_both e
others l m line after ds es t u (suc k) e = refl

-- nobody waits in another group
other_queues : (g : ℕ) → nat_eq 0 g ≡ false → queue the_one g ≡ queue nobody g
other_queues zero e = not_both e
other_queues (suc zero) e = refl
other_queues (suc (suc g)) e = refl

some_is : (x y : Life) → Some x ≡ Some y → x ≡ y
some_is x y e = cc

none_some : {A : Type 0} (k : ℕ) (l : Life) → ◌≡◌ {A = Option Life} None (Some l) → A
none_some k l e = absurd cc

-- of nobody is anything to be asked, where nothing is of the one
all_idle : (l : Life) (line : Rounds) (ds : List Deadline) (t : ℕ) → is_awaiting l ≡ false → (slot : ℕ) (m : Life) → life_at (with_one l line ds t) slot ≡ Some m → is_awaiting m ≡ false
all_idle l line ds t idle zero m e = ap is_awaiting (sym (some_is l m e)) ∙ idle
all_idle l line ds t idle (suc zero) m e = none_some 0 m e
all_idle l line ds t idle (suc (suc k)) m e = none_some k m e

pub one_is_shut : OneIsShut
one_is_shut = record {
  ended = record {
    here = refl;
    others = others member (over member) nobody nobody [] (record { slot = 0; until = 11000000 } ∷ []) 1000000 1000000;
    line = lined_idle (over member) 0 nobody false refl;
    due = refl;
    time = refl;
  };
  run = (
    with_one (over member) nobody (record { slot = 0; until = 11000000 } ∷ []) 11000000,
    (with_one (over member) nobody (record { slot = 0; until = 11000000 } ∷ []) 1000000, refl, refl),
    inl (record {
      deadline = record { slot = 0; until = 11000000 };
      life = over member;
      stood = (0, omega arith, refl);
      come = omega arith;
      was = refl;
      asked = refl;
      changed = record {
        here = refl;
        others = others (over member) (at_deadline (over member)) nobody nobody (record { slot = 0; until = 11000000 } ∷ []) [] 11000000 11000000;
        line = lined_idle (at_deadline (over member)) 0 nobody false refl;
        due = refl;
        time = refl;
      };
    }),
  );
  early = All-nil (λ (d : Deadline). 11000000 < d.until);
  shut = refl;
  waits = record {
    early = All-cons (λ (d : Deadline). 10999999 < d.until) (record { slot = 0; until = 11000000 }) [] (omega arith) (All-nil (λ (d : Deadline). 10999999 < d.until));
    nobody = all_idle (over member) nobody (record { slot = 0; until = 11000000 } ∷ []) 10999999 refl;
  };
}

pub one_is_read : OneIsRead
one_is_read = record {
  told = record {
    here = refl;
    others = others member (worded false member) nobody the_one [] [] 0 0;
    line =
        lined (worded false member) 0 nobody the_one false false
        (inl (record { put = λ e none. record { here = refl; others = other_queues; behind = refl }; waits = λ e. absurd (omega (arith, e)); idle = λ e. not_both e }, refl));
    due = refl;
    time = refl;
  };
  run = (
    with_one (record (worded false member) { asked = asked.Read }) nobody [] 0,
    (
      with_one (worded false member) the_one [] 0,
      refl,
      inr (record {
        early = All-nil (λ (d : Deadline). 0 < d.until);
        passed = [];
        line = the_one;
        passes = refl;
        slot = 0;
        turn = inl (record { group = 0; behind = []; first = refl; served = refl; others = λ g e. sym (other_queues g e); again = refl }, refl);
        life = worded false member;
        was = refl;
        asked = refl;
        here = refl;
        others = others (worded false member) (record (worded false member) { asked = asked.Read }) the_one nobody [] [] 0 0;
        due = refl;
        time = refl;
      }),
    ),
    record {
      here = refl;
      others = others (record (worded false member) { asked = asked.Read }) (came 100 false (record (worded false member) { asked = asked.Read })) nobody nobody [] [] 0 0;
      line =
          lined_idle (came 100 false (record (worded false member) { asked = asked.Read })) 0 nobody false refl;
      due = refl;
      time = refl;
    },
  );
  done = record {
    early = All-nil (λ (d : Deadline). 0 < d.until);
    nobody = all_idle (came 100 false (record (worded false member) { asked = asked.Read })) nobody [] 0 refl;
  };
  last = refl;
  of_the_end = refl;
  of_a_full_read = refl;
}
