-- What is read of a body, line by line.
use Rattle.std.proofs.Common.{◌≡◌, ◌<◌, ◌≤◌, ◌+◌, ◌-◌, ℕ, Bool, true, false, List, [], ◌∷◌, ◌++◌, length, sym, ◌∙◌, ap, arith, append_assoc, length-append, inl, inr, subst}
use Rattle.std.specs.Prelude.{codes}
use Rattle.std.specs.List.{after_first, before_first, position_or_len}
use Rattle.floor_kept.specs.Body.{AreEntries, IsBody, IsFirstBad, ends_last, entry_lines, is_end, is_ended, next_place}
use Rattle.floor_kept.specs.Entries.{IsLineOf, entry_line, is_within, place_behind}
use Rattle.floor_kept.specs.declared.body.BadLine.{BadLine}
use Rattle.floor_kept.specs.declared.entry.Entry.{Entry}
use Rattle.floor_kept.proofs.Cuts.{is_feed, line_is_one, parts, rest_is_one}
use Rattle.floor_kept.proofs.Growing.{ended_more, fit_more, last_more, lines_more, place_more}

-- the entries before what is left of a text
pub record Read (text : List ℕ) (entries : List Entry) (rest : List ℕ) (place : ℕ) (ended : Bool) : Type 0 where
  pub fit : AreEntries 1 entries
  pub last : ends_last entries ≡ true
  pub parts_are : text ≡ entry_lines 1 entries ++ rest
  pub place_is : place ≡ next_place 1 entries
  pub ended_is : ended ≡ is_ended entries

pub read_none : (text rest : List ℕ) (entries : List Entry) → entries ≡ [] → rest ≡ text → Read text entries rest 1 false
read_none text rest entries none same = record {
  fit = rw none tt;
  last = ap ends_last none;
  parts_are = sym same ∙ ap (λ (es : List Entry). entry_lines 1 es ++ rest) (sym none);
  place_is = ap (next_place 1) (sym none);
  ended_is = ap is_ended (sym none);
}

-- what is left is no longer than the text
pub rest_within : (text : List ℕ) (entries : List Entry) (rest : List ℕ) (place : ℕ) (ended : Bool) → Read text entries rest place ended → length rest ≤ length text
rest_within text entries rest place ended h = omega (arith, ap length h.parts_are, length-append (entry_lines 1 entries) rest)

-- one entry more
pub read_more : (text : List ℕ) (entries more : List Entry) (rest line behind : List ℕ) (place next : ℕ) (ended end : Bool) (entry : Entry)
    → Read text entries rest place ended → ended ≡ false → line ≡ before_first is_feed rest → behind ≡ after_first is_feed rest → position_or_len is_feed rest < length rest
    → IsLineOf place line entry → more ≡ entries ++ entry ∷ [] → next ≡ place_behind place entry → end ≡ is_end entry → Read text more behind next end
read_more text entries more rest line behind place next ended end entry h going l b within is grown n e =
    let running : is_ended entries ≡ false = sym h.ended_is ∙ going in
    let at : is_within (next_place 1 entries) entry ≡ true = ap (λ (p : ℕ). is_within p entry) (sym h.place_is) ∙ is.within in
    let printed : entry_line (next_place 1 entries) entry ≡ line ++ codes "\n" = ap (λ (p : ℕ). entry_line p entry) (sym h.place_is) ∙ is.printed in
    record {
      fit = rw grown (fit_more 1 entries entry h.fit is.fits at);
      last = ap ends_last grown ∙ last_more entries entry running;
      parts_are = h.parts_are
          ∙ ap (λ (r : List ℕ). entry_lines 1 entries ++ r) (parts rest line behind l b within ∙ sym (append_assoc line (codes "\n") behind) ∙ ap (λ (x : List ℕ). x ++ behind) (sym printed))
          ∙ sym (append_assoc (entry_lines 1 entries) (entry_line (next_place 1 entries) entry) behind)
          ∙ ap (λ (x : List ℕ). x ++ behind) (sym (lines_more 1 entries entry))
          ∙ ap (λ (es : List Entry). entry_lines 1 es ++ behind) (sym grown);
      place_is = n ∙ ap (λ (p : ℕ). place_behind p entry) h.place_is ∙ sym (place_more 1 entries entry) ∙ ap (next_place 1) (sym grown);
      ended_is = e ∙ sym (ended_more entries entry running) ∙ ap is_ended (sym grown);
    }

-- what is left is shorter
pub shorter : (rest line behind : List ℕ) → line ≡ before_first is_feed rest → behind ≡ after_first is_feed rest → position_or_len is_feed rest < length rest
    → length behind < length rest
shorter rest line behind l b within = omega (arith, ap length (parts rest line behind l b within), length-append line (10 ∷ behind))

-- the end of the text
pub whole_body : (text : List ℕ) (entries : List Entry) (rest : List ℕ) (place stands : ℕ) (ended : Bool) → Read text entries rest place ended
    → position_or_len is_feed rest ≡ length rest → stands ≡ length text - length rest → IsBody text entries stands
whole_body text entries rest place stands ended h none s = record {
  fit = h.fit;
  last = h.last;
  torn = rest;
  parts = h.parts_are;
  one_line = rest_is_one rest none;
  stand = omega (arith, s, ap length h.parts_are, length-append (entry_lines 1 entries) rest);
}

-- a line behind the end
pub bad_behind : (text : List ℕ) (entries : List Entry) (rest line behind : List ℕ) (place : ℕ) (ended : Bool) (bad : BadLine) → Read text entries rest place ended
    → line ≡ before_first is_feed rest → behind ≡ after_first is_feed rest → position_or_len is_feed rest < length rest
    → ended ≡ true → bad.place ≡ place → bad.number ≡ length entries + 1 → IsFirstBad text bad
bad_behind text entries rest line behind place ended bad h l b within over p n = record {
  before = entries;
  fit = h.fit;
  last = h.last;
  line = line;
  behind = behind;
  parts = h.parts_are ∙ ap (λ (r : List ℕ). entry_lines 1 entries ++ r) (parts rest line behind l b within);
  one_line = line_is_one rest line l;
  none = inl (sym h.ended_is ∙ over);
  place = p ∙ h.place_is;
  number = n;
}

-- a line that is no entry's
pub bad_line : (text : List ℕ) (entries : List Entry) (rest line behind : List ℕ) (place : ℕ) (ended : Bool) (bad : BadLine) → Read text entries rest place ended
    → line ≡ before_first is_feed rest → behind ≡ after_first is_feed rest → position_or_len is_feed rest < length rest
    → ((entry : Entry) → IsLineOf place line entry → ⊥) → bad.place ≡ place → bad.number ≡ length entries + 1 → IsFirstBad text bad
bad_line text entries rest line behind place ended bad h l b within none p n = record {
  before = entries;
  fit = h.fit;
  last = h.last;
  line = line;
  behind = behind;
  parts = h.parts_are ∙ ap (λ (r : List ℕ). entry_lines 1 entries ++ r) (parts rest line behind l b within);
  one_line = line_is_one rest line l;
  none = inr (λ entry is. none entry (subst (λ (q : ℕ). IsLineOf q line entry) (sym h.place_is) is));
  place = p ∙ h.place_is;
  number = n;
}
