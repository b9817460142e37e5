-- `into_units` lends the units for good. Assumes `Logic`.
use Rattle.mq_arena.proofs.Common.{◌≡◌, ℕ, ◌^◌, ◌<◌, List, [], ◌∷◌, ◌++◌, length, refl, ap, ◌∙◌, arith, w64, full_share, fsep, fauth, ftrue, SProp, emp, id⊢}
use Rattle.mq_arena.proofs.Common.{fact, fact_i, tables, Array, u128, usize, yes, whole_in, mem, shares, owns, Ptr, RawPtr, block_ptr, ptr_val, lies_at}
use Rattle.mq_arena.proofs.Common.{in_a_block, shadow, Slot, plain, types_at, slice_val, nothing, alive, Stays, stay_dropped, walk_of, Fn, static, Val, vint}
use Rattle.mq_arena.proofs.Common.{vstruct, vcons, vnil, of_list, Env, WpFn, alloc_all, pass_all, free_all, look_at, get, get_in, sets, sets_last, env, ‵, raw}
use Rattle.mq_arena.proofs.Common.{◌⊛◌, prop, at_ret, ◌$◌, ◌∵◌, !, qed, by, move, keep, drop, use0, use1, use2, split, rewrite, regoal, fsplit, fjoin, fpick}
use Rattle.mq_arena.proofs.Common.{fpack, feq_l, feq_i, whole, sub, agg, stop, fld, of_opd, no_more, and_then, first, blocks, exec, returns, enter, Goes-blank}
use Rattle.mq_arena.proofs.Common.{after, proved_at, leaves}
use base.Stored.{coded_list}
use denote.ArrayMemory.{Array-apart}
use denote.FollowSlice.{slice_of}
use denote.Struct.Struct.{Struct}
use types.SemTy.{Arr, cells}
use types.Share.{arr_parts}
use types.Tokens.{name_new, bor_new}
use Rattle.mq_arena.proofs.Taken.{Block}
use Rattle.mq_arena.specs.contracts.lent_memory.LentMemory.into_units.{ended, clauses, Key.name as #self}
use Rattle.mq_arena.specs.contracts.lent_memory.LentMemory as memory
use Rattle.mq_arena.proofs.lent_memory.LentMemory.into_units.Code as compiled
use Rattle.mq_arena.proofs.lent_memory.LentMemory.into_units.Statement.{statement}

abbrev self : Slot 0
self = plain (λ _. memory.the_row)

abbrev stayed : Stays ended.signature.params ended.kept
stayed = (stay_dropped self yes, tt)

-- the machine value of a pointer and a count
abbrev pair : Ptr → ℕ → Val
pair p n = vstruct (vcons (ptr_val p) (vcons (vint w64 n) vnil))

told_of : (p : Ptr) (n : ℕ) (vs : List Val) →
    shadow ((Struct (record { name = []; args = []; types = []; fields = RawPtr ∷ usize ∷ [] })).own_val (p, (n, tt)) vs) → (vs ≡ pair p n ∷ []) × (n < 2 ^ 64)
told_of p n vs s = (s.1.0 ∙ (λ i. vstruct (of_list (s.1.1.0 i ++ (s.1.1.1.0.0 i ++ []))) ∷ []), s.1.1.1.0.1)

pub into_units_spec : {M : Type 1} → statement M
into_units_spec 𝓤 𝓛 𝓜 𝓡 wired =
    let H = 𝓛.H in
    let c = clauses 𝓛 𝓜.mem 𝓡.returns in
    let fn : Fn = compiled.function in
    let C = (tables 𝓤 H 𝓜 𝓡 𝓡.env).C in
    let Λ = (tables 𝓤 H 𝓜 𝓡 𝓡.env).Λ in
    proved_at 𝓛 ended stayed c 𝓜 𝓡 (Goes-blank 𝓛 0 self yes (λ κs x f. tt), tt) #self fn (compiled.unfolded 𝓤 H 𝓜 𝓡 wired) (λ z are.
    let Post : Val → SProp 𝓤 = (walk_of 𝓛 ended stayed c).post z in
    let a = z.0.3 in
    let vss = z.0.4 in
    let x = a.0 in
    let n = x.units in
    let told = told_of x.first n vss.0 are.0.0 in
    let fits = told.1 in
    let small = x.small in
    qed 𝓛 ((raw (alive 𝓛 ended.signature z.0.0 z.0.1) ⊛ ‵ (owns (types_at ended.signature.params z.0.0) a vss)) ∷ ‵ ftrue ∷ []) ∵ move !
    (1 ∷ []) $ drop ! $ split ! $ move ! (1 ∷ []) $
    fsplit ! $ fsplit ! $ drop ! $ move ! (1 ∷ []) $ drop ! $ fpick !
    (λ xs. in_a_block ! x.first (λ p. lies_at (Array u128 n) full_share p xs) (id⊢ 𝓤 _) (λ b o at.
    use1 𝓛 (‵ ((arr_parts (shares u128) n).part full_share xs b o)) (Array-apart 𝓛 u128 full_share tt n xs b o) $ fsplit ! $ feq_l ! (λ e.
    use1 𝓛 (‵ (cells (mem u128) xs b o)) (whole_in 𝓛 u128 xs b o) $
    regoal ! (λ (us : List Val). prop (WpFn 𝓤 H C Λ fn us Post)) (λ i. (told.0 ∙ ap (λ (p : Ptr). pair p n ∷ []) at) i ++ []) refl $
    enter ! C Λ fn (pair (block_ptr b o) n ∷ []) Post $
    alloc_all ! (λ l. pass_all ! refl ((tt, (tt, (record { fits = fits }, tt))), tt) $ let En : Env 𝓤 𝓛.H = env fn.locals l in
    sets ! (of_opd ! (get_in ! (fld ! refl (stop !)) (sub ! 0 refl (whole !)))) refl (tt, tt) $
    sets ! (of_opd ! (get_in ! (fld ! refl (stop !)) (sub ! 1 refl (whole !)))) refl (tt, record { fits = fits }) $
    first ! $ blocks ! $
    sets ! (of_opd ! (get ! refl)) refl (tt, tt) $
    sets_last ! (agg ! (and_then ! (get ! refl) (and_then ! (get ! refl) (no_more !)))) refl (tt, (tt, (record { fits = fits }, tt))) $
    exec ! C Λ En (after 3 fn.body) (at_ret En Post) $
    feq_i ! ℕ (length xs) (length xs) refl $ fjoin ! $
    let All = Arr (mem u128) (length xs) in
    name_new ! tt ((coded_list u128.coded).code xs) (λ γ. move ! (2 ∷ 1 ∷ []) $ fjoin ! $
    fpack ! (List ℕ) (λ ys. fsep (All.own_at ys b o) (fauth γ (All.coded.code ys))) xs $ bor_new ! tt [] $
    sets ! (of_opd ! (get ! refl)) refl (tt, (tt, (record { fits = fits }, tt))) $
    let r : Block.Denot = record { ref_ptr = (b, o); ghost_name = γ; now = xs } in
    move ! (2 ∷ 0 ∷ []) $ use2 𝓛 (‵ (Block.own_val r (slice_val (b, o) (length xs) ∷ []))) (slice_of 𝓛 u128 static [] b o γ xs (omega arith, omega arith)) $
    rewrite ! 0 (λ (j : ℕ). ‵ (Block.own_val r (slice_val (b, o) j ∷ []))) e refl $
    returns ! (look_at ! 0 refl) $ free_all ! refl $
    use0 𝓛 (raw (fact 𝓤 (length xs ≡ n))) (fact_i 𝓤 (length xs ≡ n) (emp 𝓤) e) $ nothing ! $ nothing ! $ fjoin ! $ keep ! (4 ∷ 0 ∷ 2 ∷ 1 ∷ []) $
    by ! (leaves 𝓛 ended stayed c z (slice_val (b, o) n) r (tt, tt) (tt, tt))))))))
