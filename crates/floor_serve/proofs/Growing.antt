-- Known bytes that grow, one write at a time.
use Rattle.std.proofs.Common.{◌≡◌, ℕ, zero, suc, ◌+◌, ◌-◌, ◌^◌, ◌≤◌, min, List, [], ◌∷◌, ◌++◌, length, take, drop, Option, Some, None, refl, sym, ap, ◌∙◌, arith, append_assoc, append-nil, length-append, length-drop, subst, take-append-drop}
use Rattle.std.proofs.Math.Seq.{take-append-add, take-add, take-length}
use Rattle.std.specs.Prelude.{Result, Ok, Err, OnOk, IfErr}
use Rattle.std.specs.Io.KnownBytes.{Appends, Keeps}
use Rattle.floor_serve.specs.declared.fault.WriteFault.{WriteFault}
use Rattle.floor_machine.specs.Parcel.{Parcel}
use Rattle.floor_serve.specs.Written.{all_bytes, capped, Moved, Failed, Gathered, Wrote, Stopped}

pub appends-nothing : (a : Option (List ℕ)) → Appends a a []
appends-nothing None = tt
appends-nothing (Some xs) = sym (append-nil xs)

pub appends-both : (a b c : Option (List ℕ)) (xs ys zs : List ℕ) → Appends a b xs → Appends b c ys → zs ≡ xs ++ ys → Appends a c zs
appends-both None b c xs ys zs h k e = tt
appends-both (Some us) None c xs ys zs h k e = absurd h
appends-both (Some us) (Some vs) None xs ys zs h k e = absurd k
appends-both (Some us) (Some vs) (Some ws) xs ys zs h k e = k ∙ ap (λ l. l ++ ys) h ∙ append_assoc us xs ys ∙ ap (λ l. us ++ l) (sym e)

pub appends-kept : (a b c : Option (List ℕ)) (xs : List ℕ) → Appends a b xs → Keeps b c → Appends a c xs
appends-kept None b c xs h k = tt
appends-kept (Some us) None c xs h k = absurd h
appends-kept (Some us) (Some vs) None xs h k = absurd k
appends-kept (Some us) (Some vs) (Some ws) xs h k = k ∙ h

-- one more write of some bytes
pub part-written : (xs : List ℕ) (at k : ℕ) (a b c : Option (List ℕ)) → at ≤ length xs → k ≤ length (take (length xs - at) (drop at xs)) → Appends a b (take at xs) → Appends b c (take k (take (length xs - at) (drop at xs))) →
    (at + k ≤ length xs) × Appends a c (take (at + k) xs)
part-written xs at k a b c within few h more =
    let rest : take (length xs - at) (drop at xs) ≡ drop at xs = ap (λ n. take n (drop at xs)) (sym (length-drop at xs)) ∙ take-length (drop at xs) in (
      omega (arith, ap length rest, length-drop at xs),
      appends-both a b c (take at xs) (take k (drop at xs)) (take (at + k) xs) h (let P : List ℕ → Type 0 = λ l. Appends b c (take k l) in subst P rest more) (take-add at k xs),
    )

-- all was written
pub all-written : (xs : List ℕ) (at : ℕ) (a b : Option (List ℕ)) → at ≤ length xs → length xs ≤ at → Appends a b (take at xs) → Appends a b xs
all-written xs at a b h k g =
    let same : at ≡ length xs = omega arith in
    let P : List ℕ → Type 0 = λ l. Appends a b l in subst P (ap (λ n. take n xs) same ∙ take-length xs) g

pub failed-at : (xs : List ℕ) (at total bytes : ℕ) (a b c : Option (List ℕ)) → at ≤ length xs → Appends a b (take at xs) → Keeps b c → bytes ≡ capped (total + at) → Failed a c xs total bytes
failed-at xs at total bytes a b c within h k e = record { count = at; within = within; grew = appends-kept a b c (take at xs) h k; bytes_is = e }

take-front : (xs ys : List ℕ) (k : ℕ) → k ≤ length xs → take k (xs ++ ys) ≡ take k xs
take-front xs ys zero h = refl
take-front [] ys (suc k) h = absurd (omega arith)
take-front (x ∷ xs) ys (suc k) h = ap (λ l. x ∷ l) (take-front xs ys k (omega arith))

pub failed-first : (a b : Option (List ℕ)) (xs ys : List ℕ) (total k : ℕ) → Failed a b xs total k → Failed a b (xs ++ ys) total k
failed-first a b xs ys total k f =
    record {
      count = f.count;
      within = omega (arith, f.within, length-append xs ys);
      grew = let P : List ℕ → Type 0 = λ l. Appends a b l in subst P (sym (take-front xs ys f.count f.within)) f.grew;
      bytes_is = f.bytes_is;
    }

pub failed-behind : (a b c : Option (List ℕ)) (all xs ys : List ℕ) (total mid k : ℕ) → all ≡ xs ++ ys → Appends a b xs → mid ≡ capped (total + length xs) → Failed b c ys mid k → Failed a c all total k
failed-behind a b c all xs ys total mid k parts h e f =
    record {
      count = length xs + f.count;
      within = omega (arith, f.within, ap length parts, length-append xs ys);
      grew = appends-both a b c xs (take f.count ys) (take (length xs + f.count) all) h f.grew (ap (take (length xs + f.count)) parts ∙ take-append-add xs ys f.count);
      bytes_is = let g = f.bytes_is in omega (arith, e, g);
    }

pub moved-none : (a : Option (List ℕ)) (all new : List ℕ) (total : ℕ) → total ≤ 2 ^ 64 - 1 → new ≡ all → Moved a a all new total total
moved-none a all new total h e = record { wrote = []; parts = sym e; grew = appends-nothing a; count = omega arith }

pub moved-flushed : (a b : Option (List ℕ)) (old mid bytes new : List ℕ) (total after : ℕ) → Appends a b old → after ≡ capped (total + length old) → mid ≡ [] → new ≡ mid ++ bytes → Moved a b (old ++ bytes) new total after
moved-flushed a b old mid bytes new total after h e none is =
    record { wrote = old; parts = ap (λ l. old ++ l) (sym (is ∙ ap (λ l. l ++ bytes) none)); grew = h; count = e }

pub moved-written : (a b c : Option (List ℕ)) (old mid bytes new : List ℕ) (total after last : ℕ) → Appends a b old → after ≡ capped (total + length old) → mid ≡ [] → new ≡ mid → Appends b c bytes → last ≡ capped (after + length bytes) →
    Moved a c (old ++ bytes) new total last
moved-written a b c old mid bytes new total after last h e none is k f =
    record {
      wrote = old ++ bytes;
      parts = sym (append-nil (old ++ bytes)) ∙ ap (λ l. (old ++ bytes) ++ l) (sym (is ∙ none));
      grew = appends-both a b c old bytes (old ++ bytes) h k refl;
      count = omega (arith, e, f, length-append old bytes);
    }

pub moved-last : (a b c : Option (List ℕ)) (old before mid bytes new : List ℕ) (total after last : ℕ) (result : Result (Unit {0}) WriteFault) → before ≡ old → Appends a b before → after ≡ capped (total + length before) → mid ≡ [] → new ≡ mid →
    OnOk result (Appends b c bytes) → OnOk result (last ≡ capped (after + length bytes)) → OnOk result (Moved a c (old ++ bytes) new total last)
moved-last a b c old before mid bytes new total after last (Ok x) same h e none is k f =
    subst (λ (xs : List ℕ). Moved a c (xs ++ bytes) new total last) same (moved-written a b c before mid bytes new total after last h e none is k f)
moved-last a b c old before mid bytes new total after last (Err x) same h e none is k f = tt

pub failed-last : (a b c : Option (List ℕ)) (old before bytes : List ℕ) (total after : ℕ) (result : Result (Unit {0}) WriteFault) → before ≡ old → Appends a b before → after ≡ capped (total + length before) →
    IfErr result (λ f. Failed b c bytes after f.bytes) → IfErr result (λ f. Failed a c (old ++ bytes) total f.bytes)
failed-last a b c old before bytes total after (Ok x) same h e f = tt
failed-last a b c old before bytes total after (Err x) same h e f = failed-behind a b c (old ++ bytes) before bytes total after x.bytes (ap (λ (xs : List ℕ). xs ++ bytes) (sym same)) h e f

-- what is gathered with one more parcel is written at once
pub moved-then-flushed : (a b c : Option (List ℕ)) (all mid new : List ℕ) (total between after : ℕ) (result : Result (Unit {0}) WriteFault) → Moved a b all mid total between →
    OnOk result (Appends b c mid) → OnOk result (new ≡ []) → OnOk result (after ≡ capped (between + length mid)) → OnOk result (Moved a c all new total after)
moved-then-flushed a b c all mid new total between after (Ok x) m h none e =
    record {
      wrote = m.wrote ++ mid;
      parts = m.parts ∙ sym (append-nil (m.wrote ++ mid)) ∙ ap (λ l. (m.wrote ++ mid) ++ l) (sym none);
      grew = appends-both a b c m.wrote mid (m.wrote ++ mid) m.grew h refl;
      count = omega (arith, m.count, e, length-append m.wrote mid);
    }
moved-then-flushed a b c all mid new total between after (Err x) m h none e = tt

pub failed-then-flushing : (a b c : Option (List ℕ)) (all mid : List ℕ) (total between : ℕ) (result : Result (Unit {0}) WriteFault) → Moved a b all mid total between →
    IfErr result (λ f. Failed b c mid between f.bytes) → IfErr result (λ f. Failed a c all total f.bytes)
failed-then-flushing a b c all mid total between (Ok x) m f = tt
failed-then-flushing a b c all mid total between (Err x) m f = failed-behind a b c all m.wrote mid total between x.bytes m.parts m.grew m.count f

all_bytes-more : (ps : List Parcel) (p : Parcel) → all_bytes (ps ++ p ∷ []) ≡ all_bytes ps ++ p.bytes
all_bytes-more [] p = append-nil p.bytes
all_bytes-more (q ∷ ps) p = ap (λ l. q.bytes ++ l) (all_bytes-more ps p) ∙ sym (append_assoc q.bytes (all_bytes ps) p.bytes)

pub gathered-start : (old : List Parcel) (a : Option (List ℕ)) (buffer : List ℕ) → buffer ≡ [] → Gathered old old a a buffer 0 0
gathered-start old a buffer e =
    record { took = []; taken = sym (append-nil old); parcels_is = refl; moved = record { wrote = []; parts = sym e; grew = appends-nothing a; count = refl } }

-- what was taken with one more parcel
parts-more : (took : List Parcel) (p : Parcel) (wrote rest : List ℕ) → all_bytes took ≡ wrote ++ rest → all_bytes (took ++ p ∷ []) ≡ wrote ++ (rest ++ p.bytes)
parts-more took p wrote rest e = all_bytes-more took p ∙ ap (λ l. l ++ p.bytes) e ∙ append_assoc wrote rest p.bytes

pub gathered-more : (old mid new : List Parcel) (a b c : Option (List ℕ)) (rest rest' : List ℕ) (parcels bytes parcels' bytes' : ℕ) (p : Parcel) → Gathered old mid a b rest parcels bytes → new ≡ mid ++ p ∷ [] →
    Moved b c (rest ++ p.bytes) rest' bytes bytes' → parcels' ≡ min (parcels + 1) (2 ^ 64 - 1) → Gathered old new a c rest' parcels' bytes'
gathered-more old mid new a b c rest rest' parcels bytes parcels' bytes' p w more m e =
    record {
      took = w.took ++ p ∷ [];
      taken = more ∙ ap (λ l. l ++ p ∷ []) w.taken ∙ append_assoc old w.took (p ∷ []);
      parcels_is = let h = w.parcels_is in omega (arith, e, length-append w.took (p ∷ []));
      moved = record {
        wrote = w.moved.wrote ++ m.wrote;
        parts = parts-more w.took p w.moved.wrote rest w.moved.parts ∙ ap (λ l. w.moved.wrote ++ l) m.parts ∙ sym (append_assoc w.moved.wrote m.wrote rest');
        grew = appends-both a b c w.moved.wrote m.wrote (w.moved.wrote ++ m.wrote) w.moved.grew m.grew refl;
        count = omega (arith, w.moved.count, m.count, length-append w.moved.wrote m.wrote);
      };
    }

pub gathered-flushed : (old new : List Parcel) (a b c : Option (List ℕ)) (rest rest' : List ℕ) (parcels bytes bytes' : ℕ) → Gathered old new a b rest parcels bytes → Appends b c rest → rest' ≡ [] →
    bytes' ≡ capped (bytes + length rest) → Gathered old new a c rest' parcels bytes'
gathered-flushed old new a b c rest rest' parcels bytes bytes' w h none e =
    record {
      took = w.took;
      taken = w.taken;
      parcels_is = w.parcels_is;
      moved = record {
        wrote = w.moved.wrote ++ rest;
        parts = w.moved.parts ∙ sym (append-nil (w.moved.wrote ++ rest)) ∙ ap (λ l. (w.moved.wrote ++ rest) ++ l) (sym none);
        grew = appends-both a b c w.moved.wrote rest (w.moved.wrote ++ rest) w.moved.grew h refl;
        count = omega (arith, w.moved.count, e, length-append w.moved.wrote rest);
      };
    }

pub wrote-all : (old new : List Parcel) (a b : Option (List ℕ)) (rest : List ℕ) (parcels bytes : ℕ) → rest ≡ [] → Gathered old new a b rest parcels bytes → Wrote old new a b parcels bytes
wrote-all old new a b rest parcels bytes none w =
    let all : w.moved.wrote ≡ all_bytes w.took = sym (append-nil w.moved.wrote) ∙ ap (λ l. w.moved.wrote ++ l) (sym none) ∙ sym w.moved.parts in
    record {
      took = w.took;
      taken = w.taken;
      grew = let P : List ℕ → Type 0 = λ l. Appends a b l in subst P all w.moved.grew;
      parcels_is = w.parcels_is;
      bytes_is = omega (arith, w.moved.count, ap length all);
    }

pub stopped-gathering : (old mid new : List Parcel) (a b c : Option (List ℕ)) (rest : List ℕ) (parcels bytes k : ℕ) (p : Parcel) → Gathered old mid a b rest parcels bytes → new ≡ mid ++ p ∷ [] →
    Failed b c (rest ++ p.bytes) bytes k → Stopped old new a c k
stopped-gathering old mid new a b c rest parcels bytes k p w more f =
    record {
      took = w.took ++ p ∷ [];
      taken = more ∙ ap (λ l. l ++ p ∷ []) w.taken ∙ append_assoc old w.took (p ∷ []);
      failed = failed-behind a b c (all_bytes (w.took ++ p ∷ [])) w.moved.wrote (rest ++ p.bytes) 0 bytes k (parts-more w.took p w.moved.wrote rest w.moved.parts) w.moved.grew w.moved.count f;
    }

pub stopped-flushing : (old new : List Parcel) (a b c : Option (List ℕ)) (rest : List ℕ) (parcels bytes k : ℕ) → Gathered old new a b rest parcels bytes → Failed b c rest bytes k → Stopped old new a c k
stopped-flushing old new a b c rest parcels bytes k w f =
    record { took = w.took; taken = w.taken; failed = failed-behind a b c (all_bytes w.took) w.moved.wrote rest 0 bytes k w.moved.parts w.moved.grew w.moved.count f }

-- a parcel is its header and then its payload
parcel-parts : (old bytes : List ℕ) → old ++ bytes ≡ (old ++ take 12 bytes) ++ drop 12 bytes
parcel-parts old bytes = ap (λ (l : List ℕ). old ++ l) (sym (take-append-drop 12 bytes)) ∙ sym (append_assoc old (take 12 bytes) (drop 12 bytes))

pub failed-header : (a b : Option (List ℕ)) (old header bytes : List ℕ) (total k : ℕ) → header ≡ take 12 bytes → Failed a b (old ++ header) total k → Failed a b (old ++ bytes) total k
failed-header a b old header bytes total k e f =
    subst (λ (l : List ℕ). Failed a b l total k) (sym (parcel-parts old bytes))
    (failed-first a b (old ++ take 12 bytes) (drop 12 bytes) total k (subst (λ (l : List ℕ). Failed a b (old ++ l) total k) e f))

-- written alone, the header and then the payload
pub wrote-both : (a b c : Option (List ℕ)) (header payload bytes : List ℕ) → header ≡ take 12 bytes → payload ≡ drop 12 bytes → Appends a b header → Appends b c payload → Appends a c bytes
wrote-both a b c header payload bytes e f h k =
    appends-both a b c header payload bytes h k (sym (take-append-drop 12 bytes) ∙ ap (λ (l : List ℕ). l ++ drop 12 bytes) (sym e) ∙ ap (λ (l : List ℕ). header ++ l) (sym f))

pub failed-second : (a b c : Option (List ℕ)) (header payload bytes : List ℕ) (between k : ℕ) → header ≡ take 12 bytes → payload ≡ drop 12 bytes → Appends a b header → between ≡ capped (0 + length header) →
    Failed b c payload between k → Failed a c bytes 0 k
failed-second a b c header payload bytes between k e f h n g =
    failed-behind a b c bytes header payload 0 between k
    (sym (take-append-drop 12 bytes) ∙ ap (λ (l : List ℕ). l ++ drop 12 bytes) (sym e) ∙ ap (λ (l : List ℕ). header ++ l) (sym f)) h n g

pub failed-second-any : (a b c : Option (List ℕ)) (header payload bytes : List ℕ) (between : ℕ) (result : Result (Unit {0}) WriteFault) → header ≡ take 12 bytes → payload ≡ drop 12 bytes → Appends a b header → between ≡ capped (0 + length header) →
    IfErr result (λ f. Failed b c payload between f.bytes) → IfErr result (λ f. Failed a c bytes 0 f.bytes)
failed-second-any a b c header payload bytes between (Ok x) e f h n g = tt
failed-second-any a b c header payload bytes between (Err x) e f h n g = failed-second a b c header payload bytes between x.bytes e f h n g

-- a parcel that was begun behind those before
pub failed-on : (a b : Option (List ℕ)) (xs : List ℕ) (total k bytes : ℕ) → Failed a b xs 0 k → bytes ≡ capped (total + k) → Failed a b xs total bytes
failed-on a b xs total k bytes f e = record { count = f.count; within = f.within; grew = f.grew; bytes_is = let g = f.bytes_is in omega (arith, e, g) }
