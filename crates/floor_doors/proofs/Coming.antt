-- What follows from bytes that came.
use Rattle.std.proofs.Common.{◌≡◌, ◌≢◌, ℕ, zero, suc, ◌+◌, ◌-◌, ◌<◌, ◌≤◌, List, [], ◌∷◌, ◌++◌, length, take, drop, Ok, Err, refl, sym, ap, ◌∙◌, arith, append_assoc, subst}
use Rattle.std.proofs.lemmas.List.{length-append}
use Rattle.floor_proxy.specs.declared.header.NamedBy.{NamedBy}
use Rattle.floor_proxy.specs.declared.header.ProxyRead.TheVariants.{More, Local, Named}
use Rattle.floor_proxy.specs.Header.{proxy}
use Rattle.floor_proxy.proofs.Cuts.{answers_stay, within}
use Rattle.floor_doors.specs.declared.newcomer.Verdict.{Verdict}
use Rattle.floor_doors.specs.declared.newcomer.Verdict.TheVariants.{Wait, Enter, LetGo}
use Rattle.floor_doors.specs.Newcomer.{IsAwaited}
use Rattle.floor_doors.specs.Follows.{follows}
use Rattle.floor_doors.specs.steps.{kept}
use Rattle.floor_doors.proofs.Behind.{Answer, Fits, ends_behind}

take_front : (xs ys : List ℕ) → take (length xs) (xs ++ ys) ≡ xs
take_front [] ys = refl
take_front (x ∷ xs) ys = ap (λ (l : List ℕ). x ∷ l) (take_front xs ys)

parted : (n : ℕ) (xs : List ℕ) → xs ≡ take n xs ++ drop n xs
parted zero xs = refl
parted (suc n) [] = refl
parted (suc n) (x ∷ xs) = ap (λ (l : List ℕ). x ∷ l) (parted n xs)

all_taken : (n : ℕ) (xs : List ℕ) → length (take n xs) < n → take n xs ≡ xs
all_taken zero xs h = absurd (omega (arith, h))
all_taken (suc n) [] h = refl
all_taken (suc n) (x ∷ xs) h = ap (λ (l : List ℕ). x ∷ l) (all_taken n xs (omega (arith, h)))

nothing : (by : NamedBy) → proxy by [] ≡ Ok More
unfolding proxy
nothing by = refl

-- of no bytes more are wanted
pub nothing_waits : (by : NamedBy) (held : List ℕ) → held ≡ [] → IsAwaited by held
nothing_waits by held e = subst (λ (l : List ℕ). IsAwaited by l) (sym e) (nothing by, omega arith)

pub record Came (by : NamedBy) (held bytes after : List ℕ) (v : Verdict) : Type 0 where
  pub value : v ≡ follows (length held) (proxy by (held ++ bytes))
  pub header : (conference user at : ℕ) → v ≡ Enter conference user at → (at ≤ length bytes) × (proxy by (held ++ bytes) ≡ Ok (Named conference user (length held + at)))
  pub next : v ≡ Wait → after ≡ held ++ bytes
  pub left : v ≢ Wait → after ≡ held
  pub awaited : IsAwaited by after

pub came_is : (by : NamedBy) (held bytes part : List ℕ) (room : ℕ) (v : Verdict) (after : List ℕ) → IsAwaited by held → room ≡ 1024 - length held → part ≡ take room bytes
    → v ≡ follows (length held) (proxy by (held ++ part)) → after ≡ kept v (length held) (held ++ part) → Came by held bytes after v
came_is by held bytes part room v after waits is_room is_part is_v is_after = by_answer (proxy by (held ++ part)) refl is_v
  where
    stays : (a : Answer) → a ≡ proxy by (held ++ part) → a ≢ Ok More → proxy by (held ++ bytes) ≡ a
    stays a is other =
        ap (λ (l : List ℕ). proxy by (held ++ l)) (parted room bytes ∙ ap (λ (l : List ℕ). l ++ drop room bytes) (sym is_part))
        ∙ ap (λ (l : List ℕ). proxy by l) (sym (append_assoc held part (drop room bytes)))
        ∙ answers_stay by (held ++ part) (drop room bytes) (λ more. other (is ∙ more))
        ∙ sym is

    back : (w : Verdict) → v ≡ w → kept w (length held) (held ++ part) ≡ take (length held) (held ++ part) → after ≡ held
    back w e cut = is_after ∙ ap (λ (x : Verdict). kept x (length held) (held ++ part)) e ∙ cut ∙ take_front held part

    by_answer : (a : Answer) → a ≡ proxy by (held ++ part) → v ≡ follows (length held) a → Came by held bytes after v
    by_answer (Ok More) is w =
        let few : length (held ++ part) < 1024 = subst (λ (a : Answer). Fits (length (held ++ part)) a) (sym is) (within by (held ++ part)) in
        let count = length-append held part in
        let less : length (take room bytes) < room = subst (λ (l : List ℕ). length l < room) is_part (omega (arith, few, count, is_room, waits.1)) in
        let same : part ≡ bytes = is_part ∙ all_taken room bytes less in
        let more : proxy by (held ++ bytes) ≡ Ok More = ap (λ (l : List ℕ). proxy by (held ++ l)) (sym same) ∙ sym is in
        let now : after ≡ held ++ bytes = is_after ∙ ap (λ (x : Verdict). kept x (length held) (held ++ part)) w ∙ ap (λ (l : List ℕ). held ++ l) same in
        let short : length (held ++ bytes) < 1024 = subst (λ (l : List ℕ). length (held ++ l) < 1024) same few in
        record {
          value = w ∙ ap (λ (a : Answer). follows (length held) a) (sym more);
          header = λ conference user at f. absurd (let g = sym w ∙ f in cc);
          next = λ f. now;
          left = λ other. absurd (other w);
          awaited = subst (λ (l : List ℕ). IsAwaited by l) (sym now) (more, short);
        }
    by_answer (Ok Local) is w =
        let all = stays (Ok Local) is (λ e. cc) in
        let now = back LetGo w refl in
        record {
          value = w ∙ ap (λ (a : Answer). follows (length held) a) (sym all);
          header = λ conference user at f. absurd (let g = sym w ∙ f in cc);
          next = λ f. absurd (let g = sym w ∙ f in cc);
          left = λ other. now;
          awaited = subst (λ (l : List ℕ). IsAwaited by l) (sym now) waits;
        }
    by_answer (Ok (Named conference user len)) is w =
        let all = stays (Ok (Named conference user len)) is (λ e. cc) in
        let now = back (Enter conference user (len - length held)) w refl in
        let fits : Fits (length (held ++ bytes)) (Ok (Named conference user len)) = subst (λ (a : Answer). Fits (length (held ++ bytes)) a) all (within by (held ++ bytes)) in
        let some : 16 ≤ len = fits.0 in
        let there : len ≤ length (held ++ bytes) = fits.2 in
        let fewer = ends_behind by held bytes conference user len some waits.0 all in
        let count = length-append held bytes in
        record {
          value = w ∙ ap (λ (a : Answer). follows (length held) a) (sym all);
          header = λ c u at f.
              let g : Enter conference user (len - length held) ≡ Enter c u at = sym w ∙ f in
              let same_c : conference ≡ c = cc in
              let same_u : user ≡ u = cc in
              let same_at : len - length held ≡ at = cc in
              let is_len : len ≡ length held + at = omega (arith, same_at, fewer) in (
                omega (arith, there, count, is_len),
                all ∙ ap (λ (x : ℕ). Ok (Named x user len)) same_c ∙ ap (λ (x : ℕ). Ok (Named c x len)) same_u ∙ ap (λ (x : ℕ). Ok (Named c u x)) is_len,
              );
          next = λ f. absurd (let g = sym w ∙ f in cc);
          left = λ other. now;
          awaited = subst (λ (l : List ℕ). IsAwaited by l) (sym now) waits;
        }
    by_answer (Err refusal) is w =
        let all = stays (Err refusal) is (λ e. cc) in
        let now = back (follows (length held) (Err refusal)) w refl in
        record {
          value = w ∙ ap (λ (a : Answer). follows (length held) a) (sym all);
          header = λ conference user at f. absurd (let g = sym w ∙ f in cc);
          next = λ f. absurd (let g = sym w ∙ f in cc);
          left = λ other. now;
          awaited = subst (λ (l : List ℕ). IsAwaited by l) (sym now) waits;
        }
