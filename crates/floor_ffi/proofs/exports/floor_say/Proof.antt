-- `floor_say` meets its contract: the hub is lent for the call of `say`, and lies there again. Written by .ci/walks.
use Rattle.floor_ffi.proofs.Steps.{ℕ, List, [], ◌∷◌, ◌++◌, refl, w16, w32, MutBor, proved, full_share, id⊢, ftrue, fex, fsep, flft, flent, named, vptr, fact, tables, WpFn, ‵, raw, ◌⊛◌, some, later, prop, ◌$◌, ◌∵◌, !, qed, done, move, keep, use1, use2, use3, split, join, fsplit, fjoin, fpack, feq_l, pick, await, regoal, suffices, group, enter, of_opd, addr, from, fld, hop, get_in, look_in_at, whole, sub, agg, stop, no_more, and_then, returns, alloc_all, pass_all, free_all, look_at, get, through, sets, lands_as, Body, lft_new, lft_end, u8, u16, u32, yes, mem, lends_ref, ref_back, Ptr, RawPtr, block_ptr, lies_at, in_a_block, rawptr_vals, rawptr_Tells, MutRef, ShrSlice, MutSlice, shr_slice_vals, shr_slice_Tells, mut_slice_vals, mut_slice_Tells, uint_vals, uint_Tells, plain, nothing, heard, peeks, shows, Is, calls_at, lasts, triple_of, Stays, walk_of, stay_dropped, gave_slice, Goes-dropped, Goes-gave_slice, ends_at, framed, SliceRefOf}
use Rattle.floor_hub.specs.contracts.hub.Hub.{the_row as R}
use Rattle.floor_ffi.specs.Gives.{SayGives}
use Rattle.floor_ffi.specs.contracts.answers.FloorSaid.{the_row as Out}
use Rattle.floor_ffi.proofs.answers.FloorSaid.TheLaws as out_laws
use Rattle.std.specs.contracts.alloc.Global.{the_row as Z}
use Rattle.std.proofs.alloc.Global.TheLaws as heap
use Rattle.floor_ffi.specs.contracts.exports.floor_say as f
use Rattle.floor_ffi.proofs.exports.floor_say.Statement.{statement}
use Rattle.floor_ffi.proofs.exports.floor_say.Code as code
use Rattle.floor_ffi.specs.contracts.acting.say as g
use Rattle.floor_ffi.proofs.acting.say.Met.{met}

abbrev stayed : Stays f.ended.signature.params f.ended.kept
stayed = (stay_dropped _ yes, (stay_dropped _ yes, (stay_dropped _ yes, (stay_dropped _ yes, (stay_dropped _ yes, (gave_slice (1 ∷ []) tt (plain (λ _. u8)), tt))))))

pub floor_say_spec : {M : Type 1} → statement M
floor_say_spec 𝓤 𝓛 𝓜 𝓡 wired =
    let c = f.clauses 𝓛 𝓜.mem 𝓡.returns in let W = walk_of 𝓛 f.ended stayed c in let 𝓣 = tables 𝓤 𝓛.H 𝓜 𝓡 𝓡.env in
    proved 𝓛 f.ended stayed c 𝓜 𝓡 (Goes-dropped 𝓛 2 (plain (λ _. RawPtr)) yes (λ κs x w. refl), (Goes-dropped 𝓛 2 (plain (λ _. Z)) yes (λ κs x w. refl), (Goes-dropped 𝓛 2 (plain (λ _. u32)) yes (λ κs x w. refl), (Goes-dropped 𝓛 2 (plain (λ _. u16)) yes (λ κs x w. refl), (Goes-dropped 𝓛 2 (SliceRefOf (0 ∷ []) tt (plain (λ _. u8)) (λ _. tt)) yes (λ κs x w. refl), (Goes-gave_slice 𝓛 2 1 tt (plain (λ _. u8)), tt))))))
    f.Key.name code.function (code.unfolded 𝓤 𝓛.H 𝓜 𝓡 wired)
    (λ κs. (rawptr_vals, ((λ d. heap.lowers.lowered d ∷ []), (uint_vals w32, (uint_vals w16, (shr_slice_vals, (mut_slice_vals, tt))))))) (λ κs. (rawptr_Tells, (heap.lowers.val_is, (uint_Tells w32, (uint_Tells w16, (shr_slice_Tells (named 0) κs.0 u8, (mut_slice_Tells (named 1) κs.1.0 u8, tt))))))) (λ κs qs bounds a h are.
    let y : Ptr → W.Ghost = λ p. ((κs, qs, bounds, (p, (a.1.0, (a.1.1.0, (a.1.1.1.0, (a.1.1.1.1.0, (a.1.1.1.1.1.0, tt)))))), (rawptr_vals p, (((heap.lowers.lowered a.1.0 ∷ [])), ((uint_vals w32 a.1.1.0), ((uint_vals w16 a.1.1.1.0), ((shr_slice_vals a.1.1.1.1.0), ((mut_slice_vals a.1.1.1.1.1.0), tt))))))), h) in
    qed 𝓛 (((‵ (flft κs.0 qs.0) ⊛ (‵ (flft κs.1.0 qs.1.0) ⊛ ‵ ftrue)) ⊛ (‵ (RawPtr.own_val a.0 (rawptr_vals a.0)) ⊛ (‵ (Z.own_val a.1.0 ((heap.lowers.lowered a.1.0 ∷ []))) ⊛ (‵ (u32.own_val a.1.1.0 (uint_vals w32 a.1.1.0)) ⊛ (‵ (u16.own_val a.1.1.1.0 (uint_vals w16 a.1.1.1.0)) ⊛ (‵ ((ShrSlice (named 0) κs.0 u8).own_val a.1.1.1.1.0 (shr_slice_vals a.1.1.1.1.0)) ⊛ (‵ ((MutSlice (named 1) κs.1.0 u8).own_val a.1.1.1.1.1.0 (mut_slice_vals a.1.1.1.1.1.0)) ⊛ ‵ ftrue))))))) ∷ ‵ (lies_at R full_share a.0 h) ∷ []) ∵
    split ! $ split ! $ move ! (1 ∷ []) $ split ! $ move ! (3 ∷ []) $ split ! $ move ! (1 ∷ []) $ split ! $ move ! (1 ∷ []) $ split ! $ move ! (1 ∷ []) $ split ! $ move ! (1 ∷ []) $ split ! $ move ! (1 ∷ []) $ split ! $ keep ! (10 ∷ 5 ∷ 4 ∷ 3 ∷ 2 ∷ 0 ∷ 9 ∷ 7 ∷ []) $
    in_a_block ! a.0 (λ p. lies_at R full_share p h) (id⊢ 𝓤 _) (λ b o e.
    regoal ! (λ p. prop (WpFn 𝓤 𝓛.H 𝓣.C 𝓣.Λ code.function (rawptr_vals p ++ ((heap.lowers.lowered a.1.0 ∷ [])) ++ (uint_vals w32 a.1.1.0) ++ (uint_vals w16 a.1.1.1.0) ++ (shr_slice_vals a.1.1.1.1.0) ++ (mut_slice_vals a.1.1.1.1.1.0)) (W.post (y p)))) e refl $
    enter ! _ _ _ _ _ $ alloc_all ! (λ l. pass_all ! refl ((tt, tt), (((heap.the_row_laws.lawful 𝓛).typed a.1.0 _ are.1.0).0, ((tt, record { fits = are.1.1.0.1 }), ((tt, record { fits = are.1.1.1.0.1 }), ((tt, (tt, (record { fits = are.1.1.1.1.0.0.1.0 }, tt))), ((tt, (tt, (record { fits = are.1.1.1.1.1.0.0.1.0 }, tt))), tt)))))) $
    sets ! (of_opd ! (get ! refl)) refl (tt, tt) $ sets ! (addr ! (through ! refl (stop !))) refl (tt, tt) $ sets ! (addr ! (from ! (fld ! refl (hop ! (look_in_at ! 6 (sub ! 0 refl (whole !))) (stop !))))) refl (tt, tt) $ sets ! (agg ! (and_then ! (get ! refl) (and_then ! (get_in ! (fld ! refl (stop !)) (sub ! 1 refl (whole !))) (no_more !)))) refl (tt, (tt, (record { fits = are.1.1.1.1.1.0.0.1.0 }, tt))) $
    lft_new ! tt (λ α. move ! (1 ∷ []) $
    use1 𝓛 (later (some (λ (δ : ℕ). ‵ ((MutRef (named 0) (α ∷ []) R).own_val (record { ref_ptr = (b, o); ghost_name = δ; now = h }) (vptr b o ∷ [])) ⊛ ‵ (flent (α ∷ []) (Body (mem R) b o δ)))))
    (lends_ref 𝓛 R (named 0) (α ∷ []) h b o) $ await ! tt $ pick ! (λ δ. split ! $
    let G = triple_of 𝓛 g.signature (g.spec 𝓛 𝓜.mem 𝓡.returns) in
    let r : MutBor R.Denot = record { ref_ptr = (b, o); ghost_name = δ; now = h } in
    let z : G.Ghost = (((α ∷ [], κs), (full_share, qs), tt, (r, (a.1.0, (a.1.1.0, (a.1.1.1.0, (a.1.1.1.1.0, (a.1.1.1.1.1.0, tt)))))), (vptr b o ∷ [], (((heap.lowers.lowered a.1.0 ∷ [])), ((uint_vals w32 a.1.1.0), ((uint_vals w16 a.1.1.1.0), ((shr_slice_vals a.1.1.1.1.0), ((mut_slice_vals a.1.1.1.1.1.0), tt))))))), tt) in
    nothing ! $ move ! (8 ∷ 0 ∷ []) $ join ! $ move ! (7 ∷ 0 ∷ []) $ join ! $ move ! (6 ∷ 0 ∷ []) $ join ! $ move ! (5 ∷ 0 ∷ []) $ join ! $ move ! (4 ∷ 0 ∷ []) $ join ! $ move ! (1 ∷ 0 ∷ []) $ join ! $ nothing ! $ move ! (5 ∷ 0 ∷ []) $ join ! $ move ! (4 ∷ 0 ∷ []) $ join ! $ move ! (3 ∷ 0 ∷ []) $ join ! $ join ! $ nothing ! $ move ! (1 ∷ 0 ∷ []) $ use2 𝓛 (raw (G.pre z)) (id⊢ 𝓤 _) $
    calls_at ! (framed 𝓤 𝓛.H 𝓜 𝓣) G (met 𝓤 𝓛 𝓜 𝓡 (code.calls-floor_ffi::acting::say 𝓡.env wired)) z
    (and_then ! (get ! refl) (and_then ! (get ! refl) (and_then ! (get ! refl) (and_then ! (get ! refl) (and_then ! (get ! refl) (and_then ! (get ! refl) (no_more !))))))) (λ v.
    use1 𝓛 (later (some (λ (n : Out.Denot). ((‵ (flft (α ∷ []) full_share) ⊛ (‵ (flft κs.0 qs.0) ⊛ (‵ (flft κs.1.0 qs.1.0) ⊛ ‵ ftrue))) ⊛ ‵ (Out.own_val n (v ∷ []))) ⊛
    some (λ (ws : (R.Denot × (Unit {0} × (Unit {0} × (Unit {0} × (Unit {0} × (List ℕ × Unit {0}))))))). ‵ (lasts g.ended z.0.0 z.0.3 ws) ⊛ raw (fact 𝓤 (SayGives h a.1.1.0 a.1.1.1.0 a.1.1.1.1.0.now ws.0 n.result n.place n.len a.1.1.1.1.1.0.now ws.1.1.1.1.1.0)))))) (id⊢ 𝓤 _) $
    await ! tt $ pick ! (λ n. split ! $ split ! $ split ! $ lft_end ! tt $ move ! (2 ∷ []) $
    peeks ! Out (Is Out) (shows 𝓛 Out) n (v ∷ []) (λ is. lands_as ! refl refl ((out_laws.the_row_laws.lawful 𝓛).typed n _ is).0 $
    move ! (3 ∷ []) $ pick ! (λ ws. split ! $ move ! (1 ∷ []) $ heard ! _ (λ found.
    fsplit ! $ fsplit ! $ move ! (2 ∷ []) $ fsplit ! $ move ! (1 ∷ []) $ fsplit ! $ move ! (1 ∷ []) $ fsplit ! $ move ! (1 ∷ []) $ fsplit ! $ move ! (1 ∷ []) $ fsplit ! $ fsplit ! $ fsplit ! $ move ! (1 ∷ []) $ feq_l ! (λ len4. fjoin ! $ move ! (9 ∷ 11 ∷ 6 ∷ []) $
    use3 𝓛 (later (‵ (lies_at R full_share (block_ptr b o) ws.0))) (ref_back 𝓛 R (α ∷ []) δ ws.0 b o) $ await ! tt $
    nothing ! $ fpack ! (SayGives h a.1.1.0 a.1.1.1.0 a.1.1.1.1.0.now ws.0 n.result n.place n.len a.1.1.1.1.1.0.now ws.1.1.1.1.1.0) (λ _. ftrue) found $ move ! (1 ∷ 0 ∷ []) $ fjoin ! $
    fpack ! R.Denot (λ x. fsep (lies_at R full_share (block_ptr b o) x) (fex (SayGives h a.1.1.0 a.1.1.1.0 a.1.1.1.1.0.now x n.result n.place n.len a.1.1.1.1.1.0.now ws.1.1.1.1.1.0) (λ _. ftrue))) ws.0 $
    returns ! (look_at ! 0 refl) $ free_all ! refl $ keep ! (0 ∷ 8 ∷ 9 ∷ 1 ∷ []) $
    suffices ! _ (ends_at 𝓛 f.ended stayed c (y (block_ptr b o)) v n (tt, (tt, (tt, (tt, (tt, (ws.1.1.1.1.1.0, tt)))))) (tt, (tt, (tt, (tt, (tt, (len4, tt))))))) $
    nothing ! $ nothing ! $ nothing ! $ nothing ! $ nothing ! $ nothing ! $ move ! (9 ∷ 0 ∷ []) $ join ! $ move ! (2 ∷ 0 ∷ []) $ join ! $ move ! (2 ∷ 0 ∷ []) $ join ! $ move ! (2 ∷ 0 ∷ []) $ join ! $ move ! (2 ∷ 0 ∷ []) $ join ! $ move ! (1 ∷ 0 ∷ []) $ join ! $ move ! (3 ∷ 0 ∷ 2 ∷ 1 ∷ []) $ group ! 3 $ done !)))))))))))
