-- Units of provided memory, and the two results of `Arena::take`: such units, or nothing. Assumes `Logic`.
use Rattle.mq_arena.proofs.Common.{◌≡◌, ℕ, ◌*◌, ◌^◌, ◌<◌, List, [], ◌∷◌, ◌++◌, length, IfOk, Ok, Err, ap, ◌∙◌, Ura, full_share, froom, flft, static, Val}
use Rattle.mq_arena.proofs.Common.{vstruct, vnil, of_list, Logic, Item, Goal, Soaks, Seq, ‵, ◌$◌, move, drop, use0, use1, fsplit, fsplit3, fpick, feq_l, live}
use Rattle.mq_arena.proofs.Common.{RattleType, u128, opens_slice, pure_l, MutSlice, slice_val, mut_slice_at, only, size_of_block}
use Rattle.mq_arena.proofs.Rooms.{units, places}
use Rattle.core.specs.contracts.result.Result as result
use Rattle.core.specs.contracts.alloc.AllocError as error

abbrev pub Block : RattleType
Block = MutSlice static [] u128

abbrev pub Taken : RattleType
Taken = result.the_row Block error.the_row

abbrev pub Told : ℕ → Taken.Denot → Type 0
Told n x = IfOk x (λ block. 16 * length block.now ≡ size_of_block n)

module _ {M : Type 1} {𝓤 : Ura M} {𝓛 : Logic 𝓤} {K : Type 0} {Γ : List (Item 𝓤)} {G : Goal 𝓤 𝓛.H} where
  -- units that are given for good are room
  pub lent : K → Soaks G → (r : Block.Denot) (vs : List Val)
      → (vs ≡ slice_val r.ref_ptr (length r.now) ∷ [] → length r.now < 2 ^ 64 → length r.now * 16 < 2 ^ 63 →
      Seq K 𝓛 (‵ (froom (units (length r.now)) r.ref_ptr.0 r.ref_ptr.1) ∷ Γ) G) → Seq K 𝓛 (‵ (Block.own_val r vs) ∷ Γ) G
  lent t z r vs then =
      fsplit3 t $ pure_l t (mut_slice_at u128 r vs) (λ p.
      let b = r.ref_ptr.0 in let o = r.ref_ptr.1 in
      use0 𝓛 (‵ (flft [] full_share)) (𝓛.lfts.lft-nil full_share) $ move t (1 ∷ 2 ∷ 0 ∷ []) $
      opens_slice t z u128 r.now b o $ move t (1 ∷ []) $ drop t $ move t (1 ∷ []) $ drop t $ move t (1 ∷ []) $ drop t $
      use1 𝓛 (‵ (froom (units (length r.now)) b o)) (places 𝓛 r.now b o) $ then p.0 p.1.0 p.1.1)

  pub taken : K → Soaks G → (n : ℕ) (x : Taken.Denot) (v : Val) → Told n x
      → ((b o m : ℕ) → m < 2 ^ 64 → m * 16 < 2 ^ 63 → 16 * m ≡ size_of_block n → v ≡ live 0 (of_list (slice_val (b, o) m ∷ [])) →
      Seq K 𝓛 (‵ (froom (units m) b o) ∷ Γ) G)
      → (v ≡ live 1 (of_list (vstruct vnil ∷ [])) → Seq K 𝓛 Γ G) → Seq K 𝓛 (‵ (Taken.own_val x (v ∷ [])) ∷ Γ) G
  taken t z n (Ok r) v told granted refused =
      fpick t (λ us. fsplit t $ feq_l t (λ e. fpick t (λ vss. fsplit t $ feq_l t (λ e'. fsplit t $ move t (1 ∷ []) $ drop t $
      lent t z r vss.0 (λ here fits small. granted r.ref_ptr.0 r.ref_ptr.1 (length r.now) fits small told
      (ap only e ∙ ap (λ (ws : List Val). live 0 (of_list ws)) (e' ∙ ap (λ (ws : List Val). ws ++ []) here)))))))
  taken t z n (Err r) v told granted refused =
      fpick t (λ us. fsplit t $ feq_l t (λ e. fpick t (λ vss. fsplit t $ feq_l t (λ e'. fsplit t $ fpick t (λ none. fsplit t $ feq_l t (λ e''. drop t $ drop t $
      refused (ap only e ∙ ap (λ (ws : List Val). live 1 (of_list ws)) (e' ∙ ap (λ (ws : List Val). ws ++ []) e''))))))))
