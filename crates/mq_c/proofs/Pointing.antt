-- A struct of one pointer that owns a value, for whatever family: its form in the machine, and how it is borrowed
-- and given up. Assumes `Logic`.
use Rattle.mq_c.proofs.Common.{◌≡◌, ℕ, List, [], ◌∷◌, ◌++◌, refl, sym, subst, Fml, bare, Val, vptr, Logic, sem, ‵, ◌$◌, fsplit, fjoin, fpack, rewrite}
use Rattle.mq_c.proofs.Common.{RattleType, lone, Ptr, block_ptr, nothing, box_owns, no_freeing}
use base.Stored.{Coded}
use base.Logic.{never, fst∗}
use mir.Syntax.{Sym}
use mir.Val.{vstruct, vcons, vnil, of_list}
use types.Kit.{Item, Goal, Seq, Step, step, drop, fpick, feq_i, feq_l}
use denote.RattleType.{Valss}
use denote.Builtin.{RawPtr}
use denote.RawPtr.{null_ptr, ptr_val, in_a_block}
use denote.Struct.{Field.RawPtr-field, Record.Record, Struct.Struct, Struct.within, Owning.Owning, Owning.owning, Owning.row, Owning.shape, Values.Values}
use seplogic.Ra.Ura.{Ura}

abbrev pub alone : Val → Val
alone v = vstruct (vcons v vnil)

-- the data fields of a struct of one pointer
abbrev pub Data : Type 0
Data = Values (RawPtr-field ∷ [])

-- such a struct, as the logic has it, but for what it owns
pub record Pointing : Type 1 where
  pub name : Sym
  pub D : Type 0
  pub as_values : D → Data
  pub Ghost : Data → Type 0
  pub ghosts : (d : D) → Ghost (as_values d)
  pub make : (v : Data) → Ghost v → D
  pub eta : (d : D) → make (as_values d) (ghosts d) ≡ d
  pub beta : (v : Data) (g : Ghost v) → as_values (make v g) ≡ v
  pub codes : (v : Data) → Coded (Ghost v)

abbrev pub struct_of : Pointing → Record
struct_of P = record {
  name = P.name;
  args = [];
  types = [];
  parts = RawPtr-field ∷ [];
  D = P.D;
  as_values = P.as_values;
  Ghost = P.Ghost;
  ghosts = P.ghosts;
  make = P.make;
  eta = P.eta;
  beta = P.beta;
}

-- with what it owns
abbrev pub owning_of : (P : Pointing) → (P.D → Fml) → Owning
owning_of P owned = owning (struct_of P) P.codes owned

abbrev pub row_of : (P : Pointing) → (P.D → Fml) → RattleType
row_of P owned = row (owning_of P owned)

-- a value behind the pointer
abbrev pub boxed : (R : RattleType) (P : Pointing) → (P.D → R.Denot) → P.D → Fml
boxed R P kept d = box_owns no_freeing R (P.as_values d).0 (kept d)

module _ {M : Type 1} {𝓤 : Ura M} {𝓛 : Logic 𝓤} {K : Type 0} {Γ : List (Item 𝓤)} {G : Goal 𝓤 𝓛.H} (P : Pointing) where
  pub pointer_out : (R : RattleType) (kept : P.D → R.Denot) → K → (d : P.D) (vs : List Val)
      → ((b o : ℕ) → (P.as_values d).0 ≡ block_ptr b o → vs ≡ alone (vptr b o) ∷ [] → Seq K 𝓛 (‵ (box_owns no_freeing R (block_ptr b o) (kept d)) ∷ Γ) G)
      → Seq K 𝓛 (‵ ((row_of P (boxed R P kept)).own_val d vs) ∷ Γ) G
  pointer_out R kept t d vs k =
      fsplit t $ fpick t (λ vss. fsplit t $ feq_l t (λ ev. fsplit t $ feq_l t (λ ep. drop t $
      in_a_block t (P.as_values d).0 (λ p. box_owns no_freeing R p (kept d)) (fst∗ 𝓤 (never 𝓤) (sem 𝓛 (no_freeing (bare (lone R.mir)) null_ptr)))
      (λ b o e. k b o e
      (subst (λ (p : Ptr). vs ≡ vstruct (of_list (ptr_val p ∷ [])) ∷ []) e
      (subst (λ (ps : List Val). vs ≡ vstruct (of_list (ps ++ [])) ∷ []) ep ev))))))

  pub pointer_in : (owned : P.D → Fml) → K → (b o : ℕ) (d : P.D) → (P.as_values d).0 ≡ block_ptr b o
      → Step K 𝓛 (‵ ((row_of P owned).own_val d (alone (vptr b o) ∷ [])) ∷ Γ) G (‵ (owned d) ∷ Γ) G
  pointer_in owned t b o d e = step (λ s. let v : Val = alone (vptr b o) in
      nothing t $ feq_i t (List Val) (vptr b o ∷ []) (vptr b o ∷ []) refl $ fjoin t $ feq_i t (List Val) (v ∷ []) (v ∷ []) refl $ fjoin t $
      fpack t (Valss (RawPtr ∷ [])) (within (shape (owning_of P owned)) (block_ptr b o, tt) (v ∷ [])) (vptr b o ∷ [], tt) $
      rewrite t 0 (λ (p : Ptr). ‵ ((Struct (shape (owning_of P owned))).own_val (p, tt) (v ∷ []))) (sym e) refl $ fjoin t $ s)
