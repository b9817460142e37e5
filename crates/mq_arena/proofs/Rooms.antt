-- Units of memory as room for any type that is no larger. Assumes `Logic`.
use Rattle.mq_arena.proofs.Common.{◌≡◌, ℕ, zero, ◌+◌, ◌-◌, ◌*◌, ◌%◌, ◌≤◌, max, List, [], ◌∷◌, length, refl, sym, ap, subst, ◌∙◌, arith, Ura, full_share, fat}
use Rattle.mq_arena.proofs.Common.{froom, SProp, ent, wand, id⊢, Val, bytes, size, align, pad, up, end_of, rooms_at, Logic, sem, ‵, raw, ◌⊛◌, some, ◌$◌, !, ◌∵◌}
use Rattle.mq_arena.proofs.Common.{qed, by, move, keep, drop, use1, split, pick, u128, part_at, row, Ty, w64, ty_array, tcons, tnil}
use native.Mathlib.Nat.{mod_self, sub-zero}
use mir.Syntax.{Tys, Width, w8, w16, w32, w128, ty_int, ty_struct}
use prog.Align.{Dv, dv→, dv_zero, dv_one, dv_mul, align_pos, align_w, align-bytes}
use borrow.Table.OneValue.{part_out}

abbrev pub unit : Ty
unit = ty_int w128

abbrev pub units : ℕ → Ty
units n = ty_array unit n

width_divides : (w : Width) → Dv (bytes w) 16
width_divides w8 = tt
width_divides w16 = tt
width_divides w32 = tt
width_divides w64 = tt
width_divides w128 = tt

-- the alignment of each type divides that of a unit
align_divides : (τ : Ty) → Dv (align τ) 16
align_divides τ = subst (λ (k : ℕ). Dv k 16) (sym (align-bytes τ)) (width_divides (align_w τ))

up_of : (a n : ℕ) → Dv a n → up a n ≡ n
up_of a n d =
    let none : pad a n ≡ 0 = ap (λ (r : ℕ). (a - r) % a) (dv→ a n d) ∙ ap (λ (r : ℕ). r % a) (sub-zero a) ∙ mod_self a in
    ap (λ (r : ℕ). n + r) none ∙ omega arith

module _ {M : Type 1} {𝓤 : Ura M} (𝓛 : Logic 𝓤) where
  open 𝓛 use {H}

  abbrev Room : Ty → ℕ → ℕ → SProp 𝓤
  Room = H.room

  -- the places of numbers, whatever they hold
  pub places : (xs : List ℕ) (b o : ℕ) → ent 𝓤 (sem 𝓛 (row u128 full_share xs b o)) (Room (units (length xs)) b o)
  places [] b o = 𝓛.laws.room_nil unit b o
  places (x ∷ xs) b o =
      qed 𝓛 (‵ (part_at u128 full_share x b o) ∷ ‵ (row u128 full_share xs b (o + 16)) ∷ []) ∵
      use1 𝓛 (some (λ (v : Val). ‵ (fat full_share unit b o v) ⊛ ‵ (u128.own_val x (v ∷ [])))) (part_out 𝓛 u128 refl full_share x b o) $ pick !
      (λ v. split ! $ move ! (1 ∷ []) $ drop ! $
      use1 𝓛 (‵ (froom unit b o)) (𝓛.laws.at_room unit b o v) $ move ! (1 ∷ []) $
      use1 𝓛 (‵ (froom (units (length xs)) b (o + 16))) (places xs b (o + 16)) $ move ! (1 ∷ 0 ∷ []) $ by ! (𝓛.laws.room_cons unit (length xs) b o))

  -- so many units are room for a type that they hold: they are a struct of it and of the bytes after it
  pub room_of_units : (τ : Ty) (b o n : ℕ) → size τ ≤ n * 16 → ent 𝓤 (Room (units n) b o) (Room τ b o)
  room_of_units τ b o n fits =
      let dv = align_divides τ in
      let tail : Tys = tcons (ty_array (ty_int w8) (n * 16 - size τ)) tnil in
      let whole : Ty = ty_struct [] (tcons τ tail) in
      let start : up (align τ) 0 ≡ 0 = up_of (align τ) 0 (dv_zero (align τ)) in
      let ends : end_of zero (tcons τ tail) ≡ n * 16 = ap (λ (k : ℕ). k + (n * 16 - size τ) * 1)
      (up_of 1 (up (align τ) 0 + size τ) (dv_one (up (align τ) 0 + size τ)) ∙ ap (λ (k : ℕ). k + size τ) start) ∙ omega arith in
      let one : max (align τ) 1 ≡ align τ = omega (arith, align_pos τ) in
      let same : size whole ≡ n * 16 = (λ i. up (one i) (ends i)) ∙ up_of (align τ) (n * 16) (dv_mul (align τ) 16 n dv) in
      qed 𝓛 (‵ (froom (units n) b o) ∷ []) ∵
      use1 𝓛 (‵ (froom whole b o) ⊛ raw (wand 𝓤 (Room whole b o) (Room (units n) b o)))
      (𝓛.laws.room_as (units n) whole b o same (subst (λ (k : ℕ). Dv k 16) (sym one) dv)) $ split ! $ move ! (1 ∷ []) $ drop ! $
      use1 𝓛 ((‵ (froom τ b (o + up (align τ) 0)) ⊛ raw (rooms_at 𝓤 H tail (up (align τ) 0 + size τ) b o)) ⊛ raw
      (wand 𝓤 (rooms_at 𝓤 H (tcons τ tail) zero b o) (Room whole b o))) (𝓛.laws.room_fields [] (tcons τ tail) b o) $
      split ! $ split ! $ keep ! (0 ∷ []) $ by ! (subst (λ (k : ℕ). ent 𝓤 (Room τ b k) (Room τ b o)) (sym (ap (λ (k : ℕ). o + k) start ∙ omega arith))
      (id⊢ 𝓤 (Room τ b o)))
