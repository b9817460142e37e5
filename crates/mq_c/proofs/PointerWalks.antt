-- The two functions of a struct of one pointer that owns a value, for whatever family. One borrows the value behind the pointer, the
-- other stores the pointer of a value. Each meets the clauses that follow from its work. Assumes `Logic`.
use Rattle.mq_c.proofs.Common.{◌≡◌, ℕ, List, [], ◌∷◌, refl, sym, ◌∙◌, emp, Fml, bare, Val, vptr, Logic, sem, ‵, ◌$◌, ◌∵◌, !, qed, fsplit, fjoin, fpack, done}
use Rattle.mq_c.proofs.Common.{rewrite, follows, lone, RattleType, Ptr, block_ptr, nothing, box_owns, no_freeing}
use Rattle.std.proofs.{Common.MutBor, raw_atomic.Walks.proved}
use base.Fraction.{full_share}
use base.Logic.{SProp, ent, sep, id⊢}
use base.Fml.{GName, ftrue, flft, fsep}
use contract.Running.{Running, tables}
use contract.Lifetimes.{Lfts}
use mir.Syntax.{named, erased, static, mut, Ty, Fn, Callee, ty_ptr, ty_ref, local, value_local, place, field, deref, copy, assign, rv_opd, addr_of, aggregate}
use mir.Syntax.{seq, block, return}
use prog.Model.{Model}
use prog.Wp.{Closed}
use types.Kit.{raw, ◌⊛◌, some, later, at_ret, by, move, keep, use0, use1, drop, split, join, pick, fsplit3, suffices, frame, await, group}
use types.Part.{agg, whole, sub, look_in}
use types.Run.{stop, fld, load, of_opd, no_more, and_then, first, blocks, exec, returns, enter, addr}
use types.ByLocal.{alloc_all, pass_all, free_all, look_at, get, through, sets, env, sets_last}
use denote.Builtin.{One, RefMutOf}
use denote.Exit.{no}
use denote.Follow.{Part, lends_Part}
use denote.Memory.{part_at, mem, cell_at, part_of}
use denote.Ref.{MutRef, mut_vals, mut_Tells}
use denote.Signature.{plain, mut_ref_to}
use denote.Steps.{opens}
use denote.Triple.Clauses.{Ended, Clauses, AtExit, closing, at_exit}
use denote.Triple.{Entry.Args, Entry.Res, Spec.Meets, Walked.Stays, Walked.stay_dropped, Walked.walk_of, Walked.ends_at, Walked.Goes-spent_ref}
use Rattle.std_alloc.proofs.VecSteps.Shapes.{after}
use Rattle.mq_c.proofs.Pointing.{Pointing, row_of, boxed, alone, pointer_in, pointer_out}
use seplogic.Ra.Ura.{Ura}

abbrev pub ty_of : RattleType → Ty
ty_of R = lone R.mir

module _ (R : RattleType) (P : Pointing) where
  -- ---- the value behind the pointer is borrowed
  module _ (kept : P.D → R.Denot) where
    abbrev O : RattleType
    O = row_of P (boxed R P kept)

    abbrev pub lend_code : Fn
    lend_code = record {
      lifetimes = 1;
      outlives = [];
      ty_params = [];
      givens = 0;
      params = 1;
      locals = local (ty_ref (named 0) mut R.written.ty) value_local ∷ local (ty_ref (named 0) mut O.written.ty) value_local ∷ local
          (ty_ref erased mut R.written.ty) value_local ∷ local ty_ptr value_local ∷ local ty_ptr value_local ∷ [];
      body =
          seq (block
          (seq (assign (place 3 []) (rv_opd (copy (place 1 (deref (ty_of O) ∷ field 0 ∷ [])))))
          (seq (assign (place 4 []) (rv_opd (copy (place 3 []))))
          (assign (place 2 []) (addr_of (place 4 (deref (ty_of R) ∷ [])))))))
          (seq (assign (place 0 []) (rv_opd (copy (place 2 [])))) return);
    }

    module _ (one : One R.mir) where
      abbrev pub lend_ended : Ended
      lend_ended = record {
        signature = record {
          lifetimes = 1;
          outlives = [];
          params = RefMutOf (0 ∷ []) tt (plain (λ κs. O)) (λ κs. tt) ∷ [];
          result =
              RefMutOf (0 ∷ []) tt (plain (λ κs. R)) (λ κs. one);
        };
        kept = (no, tt);
      }

      -- with another value behind the same pointer
      module _ (with_kept : P.D → R.Denot → P.D) (same_at : (d : P.D) (w : R.Denot) → (P.as_values (with_kept d w)).0 ≡ (P.as_values d).0)
          (is_kept : (d : P.D) (w : R.Denot) → kept (with_kept d w) ≡ w)
          {M : Type 1} (𝓤 : Ura M) (𝓛 : Logic 𝓤) where
        module _ (rb ro : ℕ) (h : P.D) (b o : ℕ) where
          -- all of the object but what is behind its pointer
          abbrev Rest : Fml
          Rest = fsep (no_freeing (bare (ty_of R)) (block_ptr b o)) (cell_at full_share O.mir (alone (vptr b o) ∷ []) rb ro)

          back : (P.as_values h).0 ≡ block_ptr b o → (w : R.Denot) → ent 𝓤 (sep 𝓤 (sem 𝓛 ((mem R).own_at w b o)) (sem 𝓛 Rest))
              (sem 𝓛 ((mem O).own_at (with_kept h w) rb ro))
          unfolding part_of
          back at_b w =
              let here = same_at h w ∙ at_b in
              qed 𝓛 (‵ (part_at R full_share w b o) ∷ ‵ Rest ∷ []) ∵ move ! (1 ∷ []) $ fsplit ! $ move ! (2 ∷ 0 ∷ []) $ fjoin ! $
              rewrite ! 0 (λ (p : Ptr). ‵ (box_owns no_freeing R p w)) (sym here) refl $
              rewrite ! 0 (λ (x : R.Denot). ‵ (box_owns no_freeing R (P.as_values (with_kept h w)).0 x)) (sym (is_kept h w)) refl $
              pointer_in P (boxed R P kept) ! b o (with_kept h w) here $ move ! (1 ∷ 0 ∷ []) $ fjoin ! $
              fpack ! (List Val) (λ us. fsep (cell_at full_share O.mir us rb ro) (O.own_val (with_kept h w) us)) (alone (vptr b o) ∷ []) $ done !

        module _ (𝓜 : Model 𝓤 𝓛.H) (𝓡 : Running 𝓤 𝓛.H 𝓜) (k : Callee) (c : Clauses 𝓤 lend_ended) where
          pub lend_meets : ((κs : Lfts 1) (a : Args lend_ended.signature κs) (g : (c κs a).ghost) (r : Res lend_ended.signature κs)
              (e : AtExit lend_ended κs) → r.now ≡ kept a.0.now
              → ent 𝓤 (sem 𝓛 (follows O R a.0.ghost_name r.ghost_name (with_kept a.0.now))) ((c κs a).ensures g r e))
              → Closed 𝓤 𝓛.H (tables 𝓤 𝓛.H 𝓜 𝓡 𝓡.env).C (tables 𝓤 𝓛.H 𝓜 𝓡 𝓡.env).Λ k lend_code
              → Meets 𝓛 lend_ended.signature ((tables 𝓤 𝓛.H 𝓜 𝓡 𝓡.env).C k) (closing 𝓛 lend_ended c)
          lend_meets holds closed =
              let 𝓣 = tables 𝓤 𝓛.H 𝓜 𝓡 𝓡.env in let T = lend_ended in
              let hs : Stays T.signature.params T.kept = (stay_dropped (mut_ref_to (0 ∷ []) tt (plain (λ κs. O))) no, tt) in let W = walk_of 𝓛 T hs c in
              proved 𝓛 T hs c 𝓜 𝓡 (Goes-spent_ref 𝓛 1 (0 ∷ []) tt (plain (λ κs. O)), tt) k lend_code closed
              (λ κs. (mut_vals, tt)) (λ κs. (mut_Tells (named 0) κs.0 O, tt)) (λ κs qs bounds a g are.
              let κ = κs.0 in let q = qs.0 in let rb = a.0.ref_ptr.0 in let ro = a.0.ref_ptr.1 in let γ = a.0.ghost_name in let h = a.0.now in
              let vs = mut_vals a.0 in
              let y : W.Ghost = ((κs, qs, bounds, a, (vs, tt)), g) in let Post : Val → SProp 𝓤 = W.post y in
              qed 𝓛 (((‵ (flft κ q) ⊛ ‵ ftrue) ⊛ ‵ (fsep ((MutRef (named 0) κ O).own_val a.0 vs) ftrue)) ∷ raw ((c κs a).requires g) ∷ []) ∵ split ! $
              enter ! 𝓣.C 𝓣.Λ lend_code _ Post $ alloc_all ! (λ l. pass_all ! refl ((tt, tt), tt) $ let En = env lend_code.locals l in
              move ! (1 ∷ []) $ fsplit ! $ fsplit3 ! $ drop ! $ move ! (3 ∷ []) $ split ! $ move ! (2 ∷ 3 ∷ 0 ∷ []) $
              opens ! tt O {h = h} rb ro (λ us. move ! (1 ∷ []) $ pointer_out P R kept ! h us (λ b o at_b ws. fsplit ! $
              rewrite ! 2 (λ (xs : List Val). ‵ (cell_at full_share O.mir xs rb ro)) ws refl $
              -- [what is behind the pointer; no right to free it; the object's cell; the open borrow, in three entries]
              first ! $ blocks ! $
              sets ! (of_opd ! (load ! (through ! refl (fld ! refl (stop !))) (look_in ! 2 (sub ! 0 refl (whole !))))) refl (tt, tt) $
              sets ! (of_opd ! (get ! refl)) refl (tt, tt) $
              sets_last ! (addr ! (through ! refl (stop !))) refl (tt, tt) $
              exec ! 𝓣.C 𝓣.Λ En (after 1 lend_code.body) (at_ret En Post) $
              sets ! (of_opd ! (get ! refl)) refl (tt, tt) $
              move ! (1 ∷ 2 ∷ []) $ fjoin ! $ move ! (2 ∷ 3 ∷ 4 ∷ 1 ∷ 0 ∷ []) $ group ! 5 $
              use1 𝓛 (later (some (λ (γ' : GName). raw
              (Part 𝓛 O R (with_kept h) (named 0) κ q rb ro b o γ (sem 𝓛 (Rest rb ro h b o)) (back rb ro h b o at_b) (kept h) γ'))))
              (lends_Part 𝓛 O R (with_kept h) (named 0) κ q rb ro b o γ (sem 𝓛 (Rest rb ro h b o)) (back rb ro h b o at_b) (O.coded.code h)
              (O.coded.code h) (kept h)) $ await ! tt $ pick ! (λ γ'.
              let lent : MutBor R.Denot = record { ref_ptr = (b, o); ghost_name = γ'; now = kept h } in
              returns ! (look_at ! 0 refl) $ free_all ! refl $ keep ! (0 ∷ []) $
              use1 𝓛 (‵ ((MutRef (named 0) κ R).own_val lent (vptr b o ∷ [])) ⊛ ‵ (flft κ q) ⊛ ‵ (follows O R γ γ' (with_kept h)))
              (id⊢ 𝓤 _) $ split ! $ move ! (1 ∷ []) $ split ! $ move ! (2 ∷ 0 ∷ 1 ∷ []) $
              suffices ! _ (ends_at 𝓛 T hs c y (vptr b o) lent (tt, tt) (tt, tt)) $
              nothing ! $ nothing ! $ fjoin ! $ join ! $ nothing ! $ move ! (2 ∷ 0 ∷ []) $ join ! $ join ! $ frame ! $ by !
              (holds κs a g lent (at_exit T κs a (tt, tt)) refl))))))

  -- ---- the pointer of a value that is given for good is stored
  module _ (owned : P.D → Fml) (made : Ptr → R.Denot → P.D) (at_is : (p : Ptr) (v : R.Denot) → (P.as_values (made p v)).0 ≡ p)
      (is_owned : (p : Ptr) (v : R.Denot) → owned (made p v) ≡ box_owns no_freeing R p v) where
    abbrev Q : RattleType
    Q = row_of P owned

    abbrev pub stay_code : Fn
    stay_code = record {
      lifetimes = 0;
      outlives = [];
      ty_params = [];
      givens = 0;
      params = 1;
      locals = local (ty_of Q) value_local ∷ local (ty_ref static mut R.written.ty) value_local ∷ local ty_ptr value_local ∷ local ty_ptr value_local ∷ [];
      body =
          seq (assign (place 2 []) (addr_of (place 1 (deref (ty_of R) ∷ []))))
          (seq (assign (place 3 []) (rv_opd (copy (place 2 []))))
          (seq (assign (place 0 []) (aggregate (copy (place 3 []) ∷ []))) return));
    }

    module _ (one : One R.mir) where
      abbrev pub stay_ended : Ended
      stay_ended = record {
        signature = record { lifetimes = 0; outlives = []; params = RefMutOf [] tt (plain (λ κs. R)) (λ κs. one) ∷ []; result = plain (λ κs. Q) };
        kept = (no, tt);
      }

      module _ {M : Type 1} (𝓤 : Ura M) (𝓛 : Logic 𝓤) (𝓜 : Model 𝓤 𝓛.H) (𝓡 : Running 𝓤 𝓛.H 𝓜) (k : Callee) (c : Clauses 𝓤 stay_ended) where
        pub stay_meets : ((κs : Lfts 0) (a : Args stay_ended.signature κs) (g : (c κs a).ghost) (e : AtExit stay_ended κs) →
            ent 𝓤 (emp 𝓤) ((c κs a).ensures g (made (block_ptr a.0.ref_ptr.0 a.0.ref_ptr.1) a.0.now) e))
            → Closed 𝓤 𝓛.H (tables 𝓤 𝓛.H 𝓜 𝓡 𝓡.env).C (tables 𝓤 𝓛.H 𝓜 𝓡 𝓡.env).Λ k stay_code
            → Meets 𝓛 stay_ended.signature ((tables 𝓤 𝓛.H 𝓜 𝓡 𝓡.env).C k) (closing 𝓛 stay_ended c)
        unfolding part_of
        stay_meets holds closed =
            let 𝓣 = tables 𝓤 𝓛.H 𝓜 𝓡 𝓡.env in let T = stay_ended in
            let hs : Stays T.signature.params T.kept = (stay_dropped (mut_ref_to [] tt (plain (λ κs. R))) no, tt) in let W = walk_of 𝓛 T hs c in
            proved 𝓛 T hs c 𝓜 𝓡 (Goes-spent_ref 𝓛 0 [] tt (plain (λ κs. R)), tt) k stay_code closed
            (λ κs. (mut_vals, tt)) (λ κs. (mut_Tells static [] R, tt)) (λ κs qs bounds a g are.
            let b = a.0.ref_ptr.0 in let o = a.0.ref_ptr.1 in let v = a.0.now in let vs = mut_vals a.0 in let p : Ptr = block_ptr b o in let x = made p v in
            let y : W.Ghost = ((κs, qs, bounds, a, (vs, tt)), g) in let Post : Val → SProp 𝓤 = W.post y in
            qed 𝓛 ((‵ ftrue ⊛ ‵ (fsep ((MutRef static [] R).own_val a.0 vs) ftrue)) ∷ raw ((c κs a).requires g) ∷ []) ∵ split ! $
            enter ! 𝓣.C 𝓣.Λ stay_code _ Post $ alloc_all ! (λ l. pass_all ! refl ((tt, tt), tt) $
            move ! (1 ∷ []) $ fsplit ! $ fsplit3 ! $ drop ! $ use0 𝓛 (‵ (flft [] full_share)) (𝓛.lfts.lft-nil full_share) $ move ! (1 ∷ 2 ∷ 0 ∷ []) $
            opens ! tt R {h = v} b o (λ us.
            -- [the cell; what it owns; the open borrow, in three entries]
            fjoin ! $ fpack ! (List Val) (λ ws. fsep (cell_at full_share R.mir ws b o) (R.own_val v ws)) us $ nothing ! $ move ! (1 ∷ 0 ∷ []) $ fjoin ! $
            rewrite ! 0 (λ (F : Fml). ‵ F) (sym (is_owned p v)) refl $ pointer_in P owned ! b o x (at_is p v) $
            sets ! (addr ! (through ! refl (stop !))) refl (tt, tt) $
            sets ! (of_opd ! (get ! refl)) refl (tt, tt) $
            sets ! (agg ! (and_then ! (get ! refl) (no_more !))) refl (tt, (tt, tt)) $
            returns ! (look_at ! 0 refl) $ free_all ! refl $ keep ! (0 ∷ []) $
            suffices ! _ (ends_at 𝓛 T hs c y (alone (vptr b o)) x (tt, tt) (tt, tt)) $
            nothing ! $ nothing ! $ fjoin ! $ join ! $ nothing ! $ join ! $ frame ! $
            use0 𝓛 (raw ((c κs a).ensures g x (at_exit T κs a (tt, tt)))) (holds κs a g (at_exit T κs a (tt, tt))) $ done !)))
