-- What the walks cite.
pub use Rattle.std.proofs.Common.{◌≡◌, ℕ, List, [], ◌∷◌, ◌++◌, refl, sym, ap, ◌∙◌, w8, w16, w32, w64, MutBor, Bor}
pub use Rattle.std.proofs.raw_atomic.Walks.{proved}
pub use base.Fraction.{full_share}
pub use base.Logic.{id⊢}
pub use base.Fml.{Fml, ftrue, fat, froom, fex, fsep, flft, fres, flent}
pub use mir.Syntax.{named}
pub use mir.Val.{Val, vint, vptr, vunit}
pub use contract.Monad.{fact}
pub use contract.Running.{tables}
pub use prog.Wp.{WpFn}
pub use types.Kit.{‵, raw, ◌⊛◌, some, later, prop, ◌$◌, ◌∵◌, !, qed, done, move, keep, drop, use1, use2, use3, split, join, fsplit, fjoin, fpack, feq_l, feq_i, pick, await, rewrite, regoal, suffices, frame, group}
pub use types.Run.{enter, of_opd, unit_lit, assigns, init, load, look, addr, from, fld, hop, stop, no_more, and_then, returns}
pub use types.ByLocal.{alloc_all, pass_all, free_all, look_at, look_in_at, get, get_in, through, sets, lands_as}
pub use types.Part.{whole, sub, agg}
pub use types.SemTy.{Body}
pub use types.Tokens.{lft_new, lft_end}
pub use denote.Builtin.{u8, u16, u32, u64, usize, bool, unit, SliceRefOf}
pub use denote.Exit.{yes}
pub use denote.Laws.{shows, Is}
pub use denote.Plain.{uint_vals, uint_Tells, uint_Lawful, bool_vals, bool_Tells, bool_Lawful}
pub use denote.Memory.{mem, part_at, lone}
pub use denote.Lend.{lends_ref, ref_back}
pub use denote.RawPtr.{Ptr, RawPtr, block_ptr, lies_at, room_at, in_a_block, rawptr_vals, rawptr_Tells}
pub use denote.Ref.{MutRef, mut_vals}
pub use denote.Slice.{ShrSlice, MutSlice, slice_val, shr_slice_vals, shr_slice_Tells, mut_slice_vals, mut_slice_Tells}
pub use denote.Signature.{plain}
pub use denote.Steps.{nothing, only, heard, peeks}
pub use denote.Triple.Call.{calls_at}
pub use denote.Triple.Clauses.{lasts}
pub use denote.Triple.Entry.{on_entry}
pub use denote.Triple.Spec.{triple_of}
pub use denote.Triple.Walked.{Stays, walk_of, stay_dropped, gave_slice, Goes-dropped, Goes-gave_slice, ends_at}
pub use denote.Triple.Table.{framed}
