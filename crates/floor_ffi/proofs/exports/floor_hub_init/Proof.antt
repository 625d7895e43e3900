-- `floor_hub_init` meets its contract: what `fresh` gives is put into the room.
use Rattle.floor_ffi.proofs.Steps.{[], ◌∷◌, refl, proved, full_share, id⊢, ftrue, fex, fsep, vunit, fact, tables, WpFn, ‵, raw, ◌⊛◌, some, later, prop, ◌$◌, ◌∵◌, !, qed, done, move, keep, drop, use1, use2, split, join, fjoin, fpack, feq_i, pick, await, regoal, suffices, group, enter, of_opd, unit_lit, assigns, init, stop, no_more, and_then, returns, alloc_all, pass_all, free_all, look_at, get, through, sets, lands_as, yes, part_at, Ptr, RawPtr, block_ptr, lies_at, room_at, in_a_block, rawptr_vals, rawptr_Tells, plain, nothing, heard, peeks, shows, Is, calls_at, lasts, triple_of, Stays, walk_of, stay_dropped, Goes-dropped, ends_at, framed}
use borrow.Table.OneValue.{part_in}
use Rattle.std.specs.contracts.alloc.Global.{the_row as Z}
use Rattle.std.proofs.alloc.Global.TheLaws as heap
use Rattle.floor_hub.specs.contracts.hub.Hub.{the_row as R}
use Rattle.floor_hub.proofs.hub.Hub.TheLaws as hub
use Rattle.floor_hub.specs.StandsFor.{StandsFor}
use Rattle.floor_hub.specs.World.{nothing as no_world}
use Rattle.floor_ffi.specs.contracts.exports.floor_hub_init as f
use Rattle.floor_ffi.proofs.exports.floor_hub_init.Statement.{statement}
use Rattle.floor_ffi.proofs.exports.floor_hub_init.Code as code
use Rattle.floor_ffi.specs.contracts.opening.fresh as g
use Rattle.floor_ffi.proofs.opening.fresh.Met.{met}

abbrev stayed : Stays f.ended.signature.params f.ended.kept
stayed = (stay_dropped _ yes, (stay_dropped _ yes, tt))

pub floor_hub_init_spec : {M : Type 1} → statement M
floor_hub_init_spec 𝓤 𝓛 𝓜 𝓡 wired =
    let c = f.clauses 𝓛 𝓜.mem 𝓡.returns in let W = walk_of 𝓛 f.ended stayed c in let 𝓣 = tables 𝓤 𝓛.H 𝓜 𝓡 𝓡.env in
    proved 𝓛 f.ended stayed c 𝓜 𝓡
    (Goes-dropped 𝓛 0 (plain (λ _. Z)) yes (λ κs x w. refl), (Goes-dropped 𝓛 0 (plain (λ _. RawPtr)) yes (λ κs x w. refl), tt))
    f.Key.name code.function (code.unfolded 𝓤 𝓛.H 𝓜 𝓡 wired)
    (λ κs. ((λ d. heap.lowers.lowered d ∷ []), (rawptr_vals, tt))) (λ κs. (heap.lowers.val_is, (rawptr_Tells, tt))) (λ κs qs bounds a u are.
    let h = heap.lowers.lowered a.0 in
    let y : Ptr → W.Ghost = λ p. ((κs, qs, bounds, (a.0, (p, tt)), (h ∷ [], (rawptr_vals p, tt))), u) in
    qed 𝓛 ((‵ ftrue ⊛ (‵ (Z.own_val a.0 (h ∷ [])) ⊛ (‵ (RawPtr.own_val a.1.0 (rawptr_vals a.1.0)) ⊛ ‵ ftrue))) ∷ ‵ (room_at R a.1.0) ∷ []) ∵
    split ! $ drop ! $ split ! $ keep ! (2 ∷ 0 ∷ []) $
    -- [the room; the allocator]
    in_a_block ! a.1.0 (λ p. room_at R p) (id⊢ 𝓤 _) (λ b o e.
    regoal ! (λ p. prop (WpFn 𝓤 𝓛.H 𝓣.C 𝓣.Λ code.function (h ∷ rawptr_vals p) (W.post (y p)))) e refl $
    enter ! _ _ _ _ _ $ alloc_all ! (λ l. pass_all ! refl (((heap.the_row_laws.lawful 𝓛).typed a.0 _ are.0).0, ((tt, tt), tt)) $
    let G = triple_of 𝓛 g.signature (g.spec 𝓛 𝓜.mem 𝓡.returns) in
    let z : G.Ghost = ((tt, tt, tt, (a.0, tt), (h ∷ [], tt)), tt) in
    move ! (1 ∷ []) $ nothing ! $ move ! (1 ∷ 0 ∷ []) $ join ! $ nothing ! $ join ! $ nothing ! $ move ! (1 ∷ 0 ∷ []) $ use2 𝓛 (raw (G.pre z)) (id⊢ 𝓤 _) $
    calls_at ! (framed 𝓤 𝓛.H 𝓜 𝓣) G (met 𝓤 𝓛 𝓜 𝓡 (code.calls-floor_ffi::opening::fresh 𝓡.env wired)) z
    (and_then ! (get ! refl) (no_more !)) (λ v.
    use1 𝓛 (later (some (λ (x : R.Denot). (‵ ftrue ⊛ ‵ (R.own_val x (v ∷ []))) ⊛
    some (λ (ws : Unit {0} × Unit {0}). ‵ (lasts g.ended z.0.0 z.0.3 ws) ⊛ raw (fact 𝓤 (StandsFor x no_world)))))) (id⊢ 𝓤 _) $
    await ! tt $ pick ! (λ x. split ! $ split ! $ drop ! $ move ! (1 ∷ []) $ pick ! (λ ws. split ! $ drop ! $ heard ! _ (λ is.
    -- [what the hub owns; the room]
    peeks ! R (Is R) (shows 𝓛 R) x (v ∷ []) (λ had.
    let good = ((hub.the_row_laws.lawful 𝓛).typed x (v ∷ []) had).0 in
    lands_as ! refl refl good $
    sets ! (of_opd ! (get ! refl)) refl (tt, tt) $
    sets ! (of_opd ! (get ! refl)) refl good $
    assigns ! (of_opd ! (get ! refl)) (through ! refl (stop !)) (init ! 1 refl good) $
    sets ! (of_opd ! (unit_lit !)) refl (tt, tt) $
    returns ! (look_at ! 0 refl) $ free_all ! refl $
    move ! (1 ∷ 0 ∷ []) $ use2 𝓛 (‵ (part_at R full_share x b o)) (part_in 𝓛 R refl full_share x b o v) $
    nothing ! $ fpack ! (StandsFor x no_world) (λ _. ftrue) is $ move ! (1 ∷ 0 ∷ []) $ fjoin ! $
    fpack ! R.Denot (λ x. fsep (lies_at R full_share (block_ptr b o) x) (fex (StandsFor x no_world) (λ _. ftrue))) x $
    suffices ! _ (ends_at 𝓛 f.ended stayed c (y (block_ptr b o)) vunit tt (tt, (tt, tt)) (tt, (tt, tt))) $
    feq_i ! _ (vunit ∷ []) _ refl $ nothing ! $ nothing ! $ join ! $ nothing ! $ join ! $ nothing ! $ group ! 3 $ done !))))))))
