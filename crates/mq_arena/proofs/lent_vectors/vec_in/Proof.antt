-- `vec_in` hands its block to `lodge`. Assumes `Logic`.
use Rattle.mq_arena.proofs.Common.{◌≡◌, ◌*◌, ◌^◌, ◌<◌, ◌≤◌, List, [], ◌∷◌, ◌++◌, length, refl, sym, ap, subst, arith, w64, Vec, ftrue, flft, SProp, emp, ◌⊑◌}
use Rattle.mq_arena.proofs.Common.{fact, fact_i, tables, u128, usize, SliceRefMutOf, no, yes, layout, layouts, param, owns, block_ptr, Slot, plain, types_at}
use Rattle.mq_arena.proofs.Common.{slice_val, nothing, heard, only, calls_at_last, Stays, stay_dropped, walk_of, Goes-dropped, inst_fn, Fn, a_type, Val, vint}
use Rattle.mq_arena.proofs.Common.{has_ty, WT, size, Env, WpFn, alloc_all, pass_all, free_all, look_at, look_in_at, get, sets, lands_last, env, regoal, fsplit}
use Rattle.mq_arena.proofs.Common.{fjoin, await, whole, sub, stop, fld, hop, from, addr, lit, of_opd, no_more, and_then, first, blocks, exec, returns, enter}
use Rattle.mq_arena.proofs.Common.{handle_tells, after, fm, proved_at, leaves, lodged, Lodged, ‵, raw, ◌⊛◌, some, later, prop, at_ret, ◌$◌, ◌∵◌, !, qed, by}
use Rattle.mq_arena.proofs.Common.{move, drop, use0, use1, use2, split, pick, rewrite}
use lib.Dec.{T as IsTrue}
use types.Kit.{given, split3, learn}
use Rattle.std_alloc.proofs.vec.lodge.Met.{met}
use Rattle.mq_arena.{proofs.Taken.lent, specs.contracts.lent_vectors.vec_in.Key.name as #self}
use Rattle.mq_arena.proofs.EmptyVectors.{LentVec, lent_vec, vector_of_units, Lodges, at_lodge, IsEmptyAt, lodge_goes, lodge_gives}
use Rattle.mq_arena.specs.contracts.lent_vectors.vec_in as contract_of
use Rattle.mq_arena.proofs.lent_vectors.vec_in.Code as compiled
use Rattle.mq_arena.proofs.lent_vectors.vec_in.Statement.{statement}

abbrev block : Slot 1
block = SliceRefMutOf [] tt (plain (λ κs. u128)) (λ κs. tt)

abbrev number : Slot 1
number = plain (λ κs. usize)

pub vec_in_spec : {M : Type 1} → statement M
vec_in_spec 𝓤 𝓛 𝓜 𝓡 wired T L =
    let H = 𝓛.H in
    let ended = contract_of.ended T in
    let c = contract_of.clauses T 𝓛 𝓜.mem 𝓡.returns in
    let at = layouts (a_type ∷ []) (T, tt) in
    let fn : Fn = inst_fn at compiled.function in
    let C = (tables 𝓤 H 𝓜 𝓡 𝓡.env).C in
    let Λ = (tables 𝓤 H 𝓜 𝓡 𝓡.env).Λ in
    let stayed : Stays ended.signature.params ended.kept = (stay_dropped block no, (stay_dropped number yes, tt)) in
    proved_at 𝓛 ended stayed c 𝓜 𝓡 (Goes-dropped 𝓛 1 block no (λ κs x f. refl), (Goes-dropped 𝓛 1 number yes (λ κs x f. refl), tt))
    (#self at) fn (compiled.unfolded 𝓤 H 𝓜 𝓡 wired (T, tt)) (λ z are.
    let Post : Val → SProp 𝓤 = (walk_of 𝓛 ended stayed c).post z in
    let a = z.0.3 in
    let vss = z.0.4 in
    let κ = z.0.0.0 in
    let q = z.0.1.0 in
    let r = a.0 in
    let n = length r.now in
    let k = a.1.0 in
    let s = size (layout T) in
    let b = r.ref_ptr.0 in
    let o = r.ref_ptr.1 in
    let told = are.0.0 in
    let y = at_lodge T 𝓛 𝓜.mem 𝓡.returns κ q b o k in
    qed 𝓛 (((‵ (flft κ q) ⊛ ‵ ftrue) ⊛ ‵ (owns (types_at ended.signature.params z.0.0) a vss)) ∷
    (raw (fact 𝓤 (κ ⊑ T.lives)) ⊛ raw (fact 𝓤 (k * s ≤ 16 * n)) ⊛ raw (fact 𝓤 (k < 2 ^ 63))) ∷ []) ∵
    move ! (1 ∷ []) $ split3 ! $ heard ! (κ ⊑ T.lives)
    (λ lives. heard ! (k * s ≤ 16 * n) (λ fits. heard ! (k < 2 ^ 63) (λ few. split ! $ move ! (1 ∷ []) $ fsplit ! $ move ! (1 ∷ []) $ drop ! $
    regoal ! (λ (us : List Val). prop (WpFn 𝓤 H C Λ fn us Post)) (λ i. told.0 i ++ (are.1.0.0 i ++ [])) refl $
    enter ! C Λ fn (slice_val (b, o) n ∷ vint w64 k ∷ []) Post $
    alloc_all ! (λ l. pass_all ! refl ((tt, (tt, (record { fits = told.1.0 }, tt))), ((tt, record { fits = are.1.0.1 }), tt)) $ let En : Env 𝓤 H =
    env fn.locals l in
    lent ! tt r vss.0 (λ _ _ _. use1 𝓛 (‵ (lodged (param 0 T) (block_ptr b o) 0 k [])) (vector_of_units T L 𝓛 b o n k (omega arith) (omega (arith, told.1.1))) $
    use2 𝓛 (raw ((Lodges T 𝓛 𝓜.mem 𝓡.returns).pre y)) (lodge_goes T 𝓛 𝓜.mem 𝓡.returns κ q b o k lives few) $
    first ! $ blocks ! $ sets ! (addr ! (from ! (fld ! refl (hop ! (look_in_at ! 1 (sub ! 0 refl (whole !))) (stop !))))) refl (tt, tt) $
    calls_at_last ! (fm 𝓛 𝓜 𝓡) (Lodges T 𝓛 𝓜.mem 𝓡.returns) (met 𝓤 𝓛 𝓜 𝓡 (compiled.calls-std_alloc::vec::lodge 𝓡.env wired) T L) y
    (and_then ! (get ! refl) (and_then ! (lit ! tt) (and_then ! (get ! refl) (no_more !)))) (λ v.
    use1 𝓛 (later (some (λ (x : Vec T.Denot Lodged). given (IsEmptyAt T 𝓛 𝓜.mem 𝓡.returns κ q b o k x)
    (‵ ((LentVec T).own_val x (v ∷ [])) ⊛ (‵ (flft κ q) ⊛ ‵ ftrue))))) (lodge_gives T 𝓛 𝓜.mem 𝓡.returns κ q b o k v) $
    await ! tt $ pick ! (λ x. learn ! (λ is. split ! $ handle_tells (lent_vec T L) ! x (v ∷ []) (λ u same good.
    let fine : IsTrue (has_ty (layout (LentVec T)) v) × WT v = subst (λ (w : Val). IsTrue (has_ty (layout (LentVec T)) w) × WT w) (sym (ap only same)) good in
    rewrite ! 0 (λ (w : Val). ‵ ((LentVec T).own_val x (w ∷ []))) (sym (ap only same)) refl $ lands_last ! refl fine $
    exec ! C Λ En (after 1 fn.body) (at_ret En Post) $
    sets ! (of_opd ! (get ! refl)) refl fine $
    returns ! (look_at ! 0 refl) $ free_all ! refl $
    nothing ! $ nothing ! $ fjoin ! $ nothing ! $ fjoin ! $
    use0 𝓛 (raw (fact 𝓤 ((x.items ≡ []) × (x.cap ≡ k)))) (fact_i 𝓤 ((x.items ≡ []) × (x.cap ≡ k)) (emp 𝓤) (is.0, is.2)) $ move ! (3 ∷ 1 ∷ 2 ∷ 0 ∷ []) $
    by ! (leaves 𝓛 ended stayed c z v x (tt, (tt, tt)) (tt, (tt, tt)))))))))))))
