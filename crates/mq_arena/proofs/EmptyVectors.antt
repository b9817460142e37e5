-- Units of memory as the room of an empty vector, and `lodge` at a call. Assumes `Logic`.
use Rattle.mq_arena.proofs.Common.{◌≡◌, ℕ, zero, suc, ◌+◌, ◌-◌, ◌*◌, ◌^◌, ◌<◌, ◌≤◌, List, [], ◌∷◌, length, refl, lit<, arith, Vec, Ura, full_share, Lft, Share}
use Rattle.mq_arena.proofs.Common.{ftrue, fsep, flft, froom, SProp, ent, ex, guard, sep, emp, id⊢, ◌⊑◌, Fun, fact, fact_i, Array, part_at, layout, layouts}
use Rattle.mq_arena.proofs.Common.{param, Laws, param_laws, RattleType, block_ptr, nothing, heard, triple_of, Val, vint, vptr, Memory, Routine, ‵, raw, ◌⊛◌}
use Rattle.mq_arena.proofs.Common.{some, later, ◌$◌, ◌∵◌, !, qed, move, use0, use1, drop, split, join, pick, rewrite, fjoin, feq_i, flt_i, check, show, await}
use Rattle.mq_arena.proofs.Common.{updating, now, done, Logic, sem, Al, lodged, Lodged, Callee, Ty, a_type, w64, ty_array}
use denote.Triple.Statement.{Contract}
use mir.Syntax.{given}
use Rattle.std_alloc.proofs.VecSteps.{El.El, El.no_al, El.R, El.sz, Opens.blk_in, Rows.empty}
use Rattle.std_alloc.specs.contracts.vec.{lodge.Key.name as lodge_name, lodged.LodgedAllocator.TheImpl.ghosts}
use Rattle.mq_arena.proofs.Rooms.{units, room_of_units}
use Rattle.std_alloc.proofs.vec.Vec.TheLaws as vec_laws
use Rattle.std_alloc.proofs.vec.lodged.Lodged.TheLaws as lodged_laws
use Rattle.std_alloc.specs.contracts.vec.Vec as vec
use Rattle.std_alloc.specs.contracts.vec.lodge as lodge
use Rattle.std_alloc.specs.contracts.vec.lodged.Lodged as lodged_type

-- a vector that neither grows nor frees its memory
abbrev pub LentVec : RattleType → RattleType
LentVec T = vec.the_row (param 0 T) lodged_type.the_row ghosts

-- its machine value, in the words of `handle_tells`
abbrev pub lent_vec : (T : RattleType) → Laws T → Al
lent_vec T L = record {
  row = LentVec T;
  laws = vec_laws.the_row_laws (param 0 T) lodged_type.the_row ghosts
      (param_laws 0 T L) lodged_laws.the_row_laws;
  g = record { dealloc_token = λ a τ p. ftrue };
  d = given 0;
  drops = given 0;
}

abbrev pub lodge_key : RattleType → Callee
lodge_key T = lodge_name (layouts (a_type ∷ []) (T, tt))

module _ (T : RattleType) (L : Laws T) where
  abbrev E : El
  E = record { row = T; laws = L; al = no_al }

  abbrev s : ℕ
  s = sz E

  module _ {M : Type 1} {𝓤 : Ura M} (𝓛 : Logic 𝓤) where
    open 𝓛 use {H}

    pub vector_of_units : (b o n c : ℕ) → c * s ≤ n * 16 → c * s < 2 ^ 63 → ent 𝓤 (H.room (units n) b o) (sem 𝓛 (lodged (R E) (block_ptr b o) 0 c []))
    vector_of_units b o n zero fits small = qed 𝓛 (‵ (froom (units n) b o) ∷ []) ∵ drop ! $ nothing ! $ flt_i ! (0 * s) (2 ^ 63) small $ fjoin ! $ done !
    vector_of_units b o n (suc k) fits small =
        let c : ℕ = suc k in
        let row : Ty = ty_array (layout T) c in
        let same : c ≡ c - 0 = omega arith in
        let start : o ≡ o + 0 * s = omega arith in
        qed 𝓛 (‵ (froom (units n) b o) ∷ []) ∵ use1 𝓛 (‵ (froom row b o)) (room_of_units 𝓛 row b o n fits) $
        rewrite ! 0 (λ (z : ℕ × ℕ). ‵ (froom (ty_array (layout T) z.0) b z.1)) {x = (c - 0, o + 0 * s)}
        (λ i. (same i, start i)) refl $ nothing ! $ move ! (1 ∷ 0 ∷ []) $
        use0 𝓛 (‵ (part_at (Array (R E) 0) full_share [] b o)) (empty E 𝓛 [] b o refl) $ blk_in E ! tt b o 0 c [] (omega arith) $ flt_i ! (c * s)
        (2 ^ 63) small $ fjoin ! $ done !

module _ (T : RattleType) {M : Type 1} {𝓤 : Ura M} (𝓛 : Logic 𝓤) (at_mem : Memory → SProp 𝓤) (run : Routine → Fun 𝓤) where
  open 𝓛 use {H}

  abbrev pub Lodges : Contract 𝓤
  Lodges = triple_of 𝓛 (lodge.signature T) (lodge.spec T 𝓛 at_mem run)

  module _ (κ : Lft) (q : Share) (b o c : ℕ) where
    abbrev pub at_lodge : Lodges.Ghost
    at_lodge = (((κ, tt), (q, tt), tt, (block_ptr b o, (0, (c, tt))), (vptr b o ∷ [], (vint w64 0 ∷ [], (vint w64 c ∷ [], tt)))), [])

    abbrev pub IsEmptyAt : Vec T.Denot Lodged → Type 0
    IsEmptyAt r = (r.items ≡ []) × (r.len ≡ 0) × (r.cap ≡ c) × (r.ptr ≡ block_ptr b o)

    pub lodge_goes : κ ⊑ T.lives → c < 2 ^ 63 →
        ent 𝓤 (sep 𝓤 (sem 𝓛 (lodged (param 0 T) (block_ptr b o) 0 c [])) (sep 𝓤 (sem 𝓛 (flft κ q)) (sem 𝓛 ftrue))) (Lodges.pre at_lodge)
    lodge_goes lives small =
        let Asked : Type 0 = (0 ≡ length {A = T.Denot} []) × (0 ≤ c) × (c < 2 ^ 63) in
        qed 𝓛 (‵ (lodged (param 0 T) (block_ptr b o) 0 c []) ∷ (‵ (flft κ q) ⊛ ‵ ftrue) ∷ []) ∵
        use0 𝓛 (raw (fact 𝓤 Asked)) (fact_i 𝓤 Asked (emp 𝓤) (refl, omega arith, small)) $ join ! $
        use0 𝓛 (raw (fact 𝓤 (κ ⊑ T.lives))) (fact_i 𝓤 (κ ⊑ T.lives) (emp 𝓤) lives) $ join ! $
        nothing ! $ flt_i ! c (2 ^ 64) (omega arith) $ feq_i ! (List Val) (vint w64 c ∷ []) (vint w64 c ∷ []) refl $ fjoin ! $ fjoin ! $
        flt_i ! 0 (2 ^ 64) (lit< tt) $ feq_i ! (List Val) (vint w64 0 ∷ []) (vint w64 0 ∷ []) refl $ fjoin ! $ fjoin ! $
        feq_i ! (List Val) (vptr b o ∷ []) (vptr b o ∷ []) refl $ fjoin ! $ move ! (2 ∷ 0 ∷ 1 ∷ []) $ join ! $ join ! $ done !

    pub lodge_gives : (v : Val) →
        ent 𝓤 (Lodges.post at_lodge v)
        (H.⇛ (ex 𝓤 (λ (r : Vec T.Denot Lodged). guard 𝓤 (IsEmptyAt r)
        (sep 𝓤 (sem 𝓛 ((LentVec T).own_val r (v ∷ []))) (sep 𝓤 (sem 𝓛 (flft κ q)) (sem 𝓛 ftrue))))))
    lodge_gives v =
        qed 𝓛 (raw (Lodges.post at_lodge v) ∷ []) ∵ updating ! $
        use1 𝓛 (later (some (λ (r : Vec T.Denot Lodged). ((‵ (flft κ q) ⊛ ‵ ftrue) ⊛ ‵ ((LentVec T).own_val r (v ∷ [])))
        ⊛ some (λ (ws : Unit {0} × (Unit {0} × (Unit {0} × Unit {0}))). ‵ (fsep ftrue (fsep ftrue (fsep ftrue ftrue))) ⊛ raw
        (fact 𝓤 (IsEmptyAt r)))))) (id⊢ 𝓤 _) $ await ! tt $ pick ! (λ r.
        split ! $ move ! (1 ∷ []) $ pick ! (λ ws. split ! $ drop ! $ heard ! (IsEmptyAt r) (λ is. split ! $ move ! (1 ∷ 0 ∷ []) $ now ! $
        show ! (λ (z : Vec T.Denot Lodged). guard 𝓤 (IsEmptyAt z)
        (sep 𝓤 (sem 𝓛 ((LentVec T).own_val z (v ∷ []))) (sep 𝓤 (sem 𝓛 (flft κ q)) (sem 𝓛 ftrue)))) r $ check ! is $ done !)))
