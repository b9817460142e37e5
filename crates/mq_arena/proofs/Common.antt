-- Names that the proofs of this crate import from libraries and from its definitions.
pub use base.Fml.{fat, fauth, fbor, fex, flft, Fml, froom, fsep, ftok, ftrue, Incl-refl, Lft, Share}
pub use base.Fraction.{full_share}
pub use base.Logic.{apply∗, emp, ent, ex, fst∗, guard, id⊢, sep, snd∗, SProp, via, wand}
pub use base.Mask.{every, less}
pub use borrow.Fn.Kept.{kept_by}
pub use contract.BorrowLft.{⊑_refl, ⊑_static, ◌⊑◌}
pub use contract.Lifetimes.{Lfts}
pub use contract.Monad.{fact, fact_i, fact_use, Fun}
pub use contract.Running.{bare_tables, Running, tables}
pub use denote.Array.{Array}
pub use denote.Builtin.{RefOf, SliceRefMutOf, u128, unit, usize}
pub use denote.Exit.{Last, left, no, rest as left_of, rest, yes}
pub use denote.Index.{opens_slice, row, whole_in}
pub use denote.Laws.{Are, Ises, Lawful, owns_show, showss, Typed}
pub use denote.Memory.{cell_at, hidden_shr, lone, mem, part_at, shares}
pub use denote.Param.{layout, layouts, param, Laws.field_told, Laws.Laws, Laws.param_laws, NoDrop.glues}
pub use denote.RattleType.{owns, RattleType}
pub use denote.RawPtr.{block_ptr, in_a_block, lies_at, Ptr, ptr_val, RawPtr}
pub use denote.Shadow.{pure_l, shadow}
pub use denote.Signature.{plain, Signature, Slot, types_at}
pub use denote.Slice.{mut_slice_at, MutSlice, slice_val}
pub use denote.Steps.{heard, nothing, only, owned}
pub use denote.Triple.{Call.calls_at_last, Call.calls_from, Clauses.Clauses, Clauses.closing, Clauses.Ended, Clauses.Lasts, Clauses.lasts}
pub use denote.Triple.{Entry.alive, Entry.on_entry, Walked.AllGo, Walked.Goes-dropped, Walked.stay_dropped, Walked.Stays, Walked.walk_Meets, Walked.walk_of}
pub use denote.Triple.Spec.{Meets, triple_of}
pub use mir.MapTy.{inst_fn}
pub use mir.Syntax.{a_type, Body, Callee, Dict, dnil, Fn, impl, static, tcons, tnil, Ty, ty_array}
pub use mir.Val.{bytes, has_ty, of_list, Val, vcons, vint, vnil, vptr, vstruct, WT}
pub use prog.Capped.{capped_fits, capped_is, capped_small}
pub use prog.Memory.{align, capped, end_of, Memory, pad, size, up}
pub use prog.Model.{Model, rooms_at}
pub use prog.Routine.{over, Routine, ◌≼⁺◌}
pub use prog.Wp.{after_seq, Calls, Env, Loops, Tables, Wp, WpFn}
pub use seplogic.Ra.Ura.{Ura}
pub use types.ByLocal.{alloc_all, env, free_all, get, get_in, get_tag, lands_as, lands_last, look_at, look_in_at, pass_all, sets, sets_last, through}
pub use types.Kit.{ !, any_q, at_ret, await, by, check, done, drop, feq_i, feq_l, fjoin, flt_i, fpack, fpick, fsplit, fsplit3, Goal, Item, join, keep, later}
pub use types.Kit.{move, now, pick, Post, post, prop, qed, raw, regoal, rewrite, Seq, show, Soaks, some, split, Step, step, updating, use0, use1, use2, use3, ‵}
pub use types.Kit.{◌$◌, ◌∵◌, ◌⊛◌}
pub use types.Logic.{lfts, Logic, sem}
pub use types.Match.{in_variant, live, vrt}
pub use types.Na.{bor_na, na_acc_in, na_bor}
pub use types.Part.{agg, look_in, store_in, sub, whole}
pub use types.Run.{addr, and_then, assigns, blocks, enter, exec, first, fld, from, hop, lit, load, no_more, of_opd, returns, size_word, stop, switches_on}
pub use Rattle.core.proofs.alloc.Calls.{Al, Answer, Answer-err, Answer-Ok, answer_val, Goes-blank, handle_tells}
pub use Rattle.core.proofs.alloc.Shapes.{after, arm_body, head}
pub use Rattle.core.proofs.{atomic.Steps.fm, cell.Inside.Good, cell.Inside.one, cell.Inside.round, cell.Inside.unwraps, cell.Inside.wraps}
pub use Rattle.std.proofs.Common.{[], ap, arith, Bool, Err, false, IfOk, is_ok, length, List, lit<, max, Ok, refl, Result, subst, suc, sym, T, true, Vec, w64}
pub use Rattle.std.proofs.Common.{zero, ℕ, ◌%◌, ◌*◌, ◌++◌, ◌+◌, ◌-◌, ◌<◌, ◌^◌, ◌∙◌, ◌∷◌, ◌≡◌, ◌≤◌}
pub use Rattle.std.proofs.raw_atomic.Walks.{leaves, proved_at}
pub use Rattle.std_alloc.specs.{Vec.Ownership.lodged, declared.vec.lodged.Lodged.Lodged}
pub use Rattle.mq_arena.specs.{Blocks.size_of_block, Vectors.Takes}
unfoldable pub use contract.Running.{tables_of}
unfoldable pub use denote.Memory.{part_of}
unfoldable pub use Rattle.mq_arena.specs.Vectors.{bytes_for}
