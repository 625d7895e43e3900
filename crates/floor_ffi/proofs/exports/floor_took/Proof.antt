-- `floor_took` meets its contract: the hub is lent for the call of `took`, and lies there again. Written by .ci/walks.
use Rattle.floor_ffi.proofs.Steps.{ℕ, [], ◌∷◌, ◌++◌, refl, w32, w64, MutBor, proved, full_share, id⊢, ftrue, fex, fsep, flft, flent, named, vptr, fact, tables, WpFn, ‵, raw, ◌⊛◌, some, later, prop, ◌$◌, ◌∵◌, !, qed, done, move, keep, use1, use2, use3, split, join, fsplit, fjoin, fpack, pick, await, regoal, suffices, group, enter, of_opd, addr, stop, no_more, and_then, returns, alloc_all, pass_all, free_all, look_at, get, through, sets, lands_as, Body, lft_new, lft_end, u32, u64, yes, mem, lends_ref, ref_back, Ptr, RawPtr, block_ptr, lies_at, in_a_block, rawptr_vals, rawptr_Tells, MutRef, uint_vals, uint_Tells, uint_Lawful, plain, nothing, heard, peeks, shows, Is, calls_at, lasts, triple_of, Stays, walk_of, stay_dropped, Goes-dropped, ends_at, framed}
use Rattle.floor_hub.specs.contracts.hub.Hub.{the_row as R}
use Rattle.floor_ffi.specs.Gives.{TookGives}
use Rattle.floor_ffi.specs.contracts.exports.floor_took as f
use Rattle.floor_ffi.proofs.exports.floor_took.Statement.{statement}
use Rattle.floor_ffi.proofs.exports.floor_took.Code as code
use Rattle.floor_ffi.specs.contracts.serving.took as g
use Rattle.floor_ffi.proofs.serving.took.Met.{met}

abbrev stayed : Stays f.ended.signature.params f.ended.kept
stayed = (stay_dropped _ yes, (stay_dropped _ yes, (stay_dropped _ yes, tt)))

pub floor_took_spec : {M : Type 1} → statement M
floor_took_spec 𝓤 𝓛 𝓜 𝓡 wired =
    let c = f.clauses 𝓛 𝓜.mem 𝓡.returns in let W = walk_of 𝓛 f.ended stayed c in let 𝓣 = tables 𝓤 𝓛.H 𝓜 𝓡 𝓡.env in
    proved 𝓛 f.ended stayed c 𝓜 𝓡 (Goes-dropped 𝓛 0 (plain (λ _. RawPtr)) yes (λ κs x w. refl), (Goes-dropped 𝓛 0 (plain (λ _. u64)) yes (λ κs x w. refl), (Goes-dropped 𝓛 0 (plain (λ _. u32)) yes (λ κs x w. refl), tt)))
    f.Key.name code.function (code.unfolded 𝓤 𝓛.H 𝓜 𝓡 wired)
    (λ κs. (rawptr_vals, (uint_vals w64, (uint_vals w32, tt)))) (λ κs. (rawptr_Tells, (uint_Tells w64, (uint_Tells w32, tt)))) (λ κs qs bounds a h are.
    let y : Ptr → W.Ghost = λ p. ((κs, qs, bounds, (p, (a.1.0, (a.1.1.0, tt))), (rawptr_vals p, ((uint_vals w64 a.1.0), ((uint_vals w32 a.1.1.0), tt)))), h) in
    qed 𝓛 ((‵ ftrue ⊛ (‵ (RawPtr.own_val a.0 (rawptr_vals a.0)) ⊛ (‵ (u64.own_val a.1.0 (uint_vals w64 a.1.0)) ⊛ (‵ (u32.own_val a.1.1.0 (uint_vals w32 a.1.1.0)) ⊛ ‵ ftrue)))) ∷ ‵ (lies_at R full_share a.0 h) ∷ []) ∵
    split ! $ move ! (1 ∷ []) $ split ! $ move ! (1 ∷ []) $ split ! $ move ! (1 ∷ []) $ split ! $ keep ! (5 ∷ 2 ∷ 0 ∷ []) $
    in_a_block ! a.0 (λ p. lies_at R full_share p h) (id⊢ 𝓤 _) (λ b o e.
    regoal ! (λ p. prop (WpFn 𝓤 𝓛.H 𝓣.C 𝓣.Λ code.function (rawptr_vals p ++ (uint_vals w64 a.1.0) ++ (uint_vals w32 a.1.1.0)) (W.post (y p)))) e refl $
    enter ! _ _ _ _ _ $ alloc_all ! (λ l. pass_all ! refl ((tt, tt), ((tt, record { fits = are.1.0.1 }), ((tt, record { fits = are.1.1.0.1 }), tt))) $
    sets ! (of_opd ! (get ! refl)) refl (tt, tt) $ sets ! (addr ! (through ! refl (stop !))) refl (tt, tt) $
    lft_new ! tt (λ α. move ! (1 ∷ []) $
    use1 𝓛 (later (some (λ (δ : ℕ). ‵ ((MutRef (named 0) (α ∷ []) R).own_val (record { ref_ptr = (b, o); ghost_name = δ; now = h }) (vptr b o ∷ [])) ⊛ ‵ (flent (α ∷ []) (Body (mem R) b o δ)))))
    (lends_ref 𝓛 R (named 0) (α ∷ []) h b o) $ await ! tt $ pick ! (λ δ. split ! $
    let G = triple_of 𝓛 g.signature (g.spec 𝓛 𝓜.mem 𝓡.returns) in
    let r : MutBor R.Denot = record { ref_ptr = (b, o); ghost_name = δ; now = h } in
    let z : G.Ghost = (((α ∷ [], κs), (full_share, qs), tt, (r, (a.1.0, (a.1.1.0, tt))), (vptr b o ∷ [], ((uint_vals w64 a.1.0), ((uint_vals w32 a.1.1.0), tt)))), tt) in
    nothing ! $ move ! (5 ∷ 0 ∷ []) $ join ! $ move ! (4 ∷ 0 ∷ []) $ join ! $ move ! (1 ∷ 0 ∷ []) $ join ! $ nothing ! $ move ! (3 ∷ 0 ∷ []) $ join ! $ join ! $ nothing ! $ move ! (1 ∷ 0 ∷ []) $ use2 𝓛 (raw (G.pre z)) (id⊢ 𝓤 _) $
    calls_at ! (framed 𝓤 𝓛.H 𝓜 𝓣) G (met 𝓤 𝓛 𝓜 𝓡 (code.calls-floor_ffi::serving::took 𝓡.env wired)) z
    (and_then ! (get ! refl) (and_then ! (get ! refl) (and_then ! (get ! refl) (no_more !)))) (λ v.
    use1 𝓛 (later (some (λ (n : u32.Denot). ((‵ (flft (α ∷ []) full_share) ⊛ ‵ ftrue) ⊛ ‵ (u32.own_val n (v ∷ []))) ⊛
    some (λ (ws : (R.Denot × (Unit {0} × (Unit {0} × Unit {0})))). ‵ (lasts g.ended z.0.0 z.0.3 ws) ⊛ raw (fact 𝓤 (TookGives h a.1.0 a.1.1.0 ws.0 n)))))) (id⊢ 𝓤 _) $
    await ! tt $ pick ! (λ n. split ! $ split ! $ split ! $ lft_end ! tt $ move ! (2 ∷ []) $
    peeks ! u32 (Is u32) (shows 𝓛 u32) n (v ∷ []) (λ is. lands_as ! refl refl ((uint_Lawful 𝓛 w32).typed n _ is).0 $
    move ! (3 ∷ []) $ pick ! (λ ws. split ! $ move ! (1 ∷ []) $ heard ! _ (λ found.
    fsplit ! $ fsplit ! $ move ! (2 ∷ []) $ fsplit ! $ move ! (1 ∷ []) $ fsplit ! $ move ! (6 ∷ 8 ∷ 3 ∷ []) $
    use3 𝓛 (later (‵ (lies_at R full_share (block_ptr b o) ws.0))) (ref_back 𝓛 R (α ∷ []) δ ws.0 b o) $ await ! tt $
    nothing ! $ fpack ! (TookGives h a.1.0 a.1.1.0 ws.0 n) (λ _. ftrue) found $ move ! (1 ∷ 0 ∷ []) $ fjoin ! $
    fpack ! R.Denot (λ x. fsep (lies_at R full_share (block_ptr b o) x) (fex (TookGives h a.1.0 a.1.1.0 x n) (λ _. ftrue))) ws.0 $
    returns ! (look_at ! 0 refl) $ free_all ! refl $ keep ! (0 ∷ 5 ∷ 6 ∷ []) $
    suffices ! _ (ends_at 𝓛 f.ended stayed c (y (block_ptr b o)) v n (tt, (tt, (tt, tt))) (tt, (tt, (tt, tt)))) $
    nothing ! $ nothing ! $ nothing ! $ nothing ! $ move ! (2 ∷ 0 ∷ []) $ join ! $ move ! (2 ∷ 0 ∷ []) $ join ! $ move ! (1 ∷ 0 ∷ []) $ join ! $ move ! (3 ∷ 0 ∷ 2 ∷ 1 ∷ []) $ group ! 3 $ done !))))))))))
