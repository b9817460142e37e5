-- The one capture of a file, and faults of its first bytes that are faults of the whole.
use Rattle.mq_laws.proofs.Common.{◌≡◌, ◌≤◌, ◌<◌, ◌+◌, ℕ, false, List, [], ◌∷◌, ◌++◌, length, take, drop, Option, None, Some, Result, Ok, Err, refl, arith, sym}
use Rattle.mq_laws.proofs.Common.{◌∙◌, ap, inl, inr, length-append, append_assoc, subst, le-ltb, lt-ltb, take_at, take-append-le, drop-append_seam, BlockFault}
use Rattle.mq_laws.proofs.Common.{Captured, block_in, ContextState, at_start, AreBlocks, Captures, EndsBy, endless, IsWhole, head_size, is_start, size_in}
use Rattle.mq_laws.proofs.Common.{size_of, outer_fault}
use Rattle.mq_convert.{specs.declared.context.Kind.Kind, proofs.NextBlocks.some_head}

-- two beginnings of the same bytes that are as long are the same, and so is what follows
pub same_parts : (xs xs' ys ys' : List ℕ) → xs ++ ys ≡ xs' ++ ys' → length xs ≡ length xs' → (xs ≡ xs') × (ys ≡ ys')
same_parts xs xs' ys ys' is size = (
  sym (take_at xs ys (length xs) refl) ∙ ap (take (length xs)) is ∙ take_at xs' ys' (length xs) (sym size),
  sym (drop-append_seam xs ys) ∙ ap (drop (length xs)) is ∙ rw size (drop-append_seam xs' ys'),
)

-- a whole block says its size, whatever follows
pub whole_size : (kind : Kind) (first more : List ℕ) → IsWhole kind first → size_of kind (first ++ more) ≡ Ok (length first)
whole_size kind first more whole = ap (size_in kind) (take-append-le (head_size kind) first more whole.head) ∙ whole.size

ok_same : (m n : ℕ) → (x : Result ℕ BlockFault) → x ≡ Ok m → x ≡ Ok n → m ≡ n
ok_same m n x a b = let c : Ok m ≡ Ok n = sym a ∙ b in cc

-- so the same bytes begin with one block
pub same_first : (kind : Kind) (first first' more more' : List ℕ) → first ++ more ≡ first' ++ more' → IsWhole kind first → IsWhole kind first' →
    (first ≡ first') × (more ≡ more')
same_first kind first first' more more' is whole whole' =
    same_parts first first' more more' is
    (ok_same (length first) (length first') (size_of kind (first' ++ more')) (ap (size_of kind) (sym is) ∙ whole_size kind first more whole)
    (whole_size kind first' more' whole'))

-- where a whole block stands nothing is wrong with its size
pub whole_has_none : (number : ℕ) (kind : Kind) (first more : List ℕ) → number < endless → IsWhole kind first → outer_fault number kind (first ++ more) ≡ None
unfolding outer_fault
whole_has_none number kind first more few whole =
    let head = whole.head in
    let some = some_head kind in
    let long = length-append first more in
    let there = le-ltb (length (first ++ more)) 1 (omega (arith, head, some, long)) in
    let under = lt-ltb number endless few in
    let begun = le-ltb (length (first ++ more)) (head_size kind) (omega (arith, head, long)) in
    let all = le-ltb (length (first ++ more)) (length first) (omega (arith, long)) in
    let says = whole_size kind first more whole in
    rw (there, under, begun, says, all) refl

-- a whole block has bytes
pub whole_is_some : (kind : Kind) (first more : List ℕ) → IsWhole kind first → first ++ more ≡ [] → ⊥
whole_is_some kind first more whole none =
    let head = whole.head in
    let some = some_head kind in
    let long = length-append first more in
    let no_byte = ap length none in
    omega (arith, head, some, long, no_byte)

-- a file does not end where a whole block stands that has no fault
no_end : (number : ℕ) (context : ContextState) (first more : List ℕ) (it : ContextState × Option Captured) (end : Option BlockFault) → number < endless
    → IsWhole context.kind first → block_in context first ≡ Ok it → EndsBy number context (first ++ more) end → ⊥
no_end number context first more it None few whole is ends = whole_is_some context.kind first more whole ends.0
no_end number context first more it (Some f) few whole is (inl outer) = let none = whole_has_none number context.kind first more few whole in cc
no_end number context first more it (Some f) few whole is (inr inner) =
    let same = same_first context.kind first inner.0 more inner.1 inner.2 whole inner.4 in
    let faulty = inner.5 in
    let here = ap (block_in context) same.0 in
    cc

-- nothing is wrong with the size of a block that isn't there, unless it is the first
no_outer : (number : ℕ) (kind : Kind) → is_start kind ≡ false → outer_fault number kind [] ≡ None
unfolding outer_fault
no_outer number kind other = rw other refl

same_fault : (f g : BlockFault) (x : Option BlockFault) → x ≡ Some f → x ≡ Some g → f ≡ g
same_fault f g x a b = let c : Some f ≡ Some g = sym a ∙ b in cc

-- it ends in one way
one_end : (number : ℕ) (context : ContextState) (bytes : List ℕ) (end end' : Option BlockFault) → EndsBy number context bytes end →
    EndsBy number context bytes end' → end ≡ end'
one_end number context bytes None None a b = refl
one_end number context bytes None (Some f) a (inl outer) =
    absurd (let c = ap (outer_fault number context.kind) a.0 in let none = no_outer number context.kind a.1 in cc)
one_end number context bytes None (Some f) a (inr inner) = absurd (whole_is_some context.kind inner.0 inner.1 inner.4 (sym inner.2 ∙ a.0))
one_end number context bytes (Some f) None (inl outer) b =
    absurd (let c = ap (outer_fault number context.kind) b.0 in let none = no_outer number context.kind b.1 in cc)
one_end number context bytes (Some f) None (inr inner) b = absurd (whole_is_some context.kind inner.0 inner.1 inner.4 (sym inner.2 ∙ b.0))
one_end number context bytes (Some f) (Some g) (inl outer) (inl other) = ap Some (same_fault f g _ outer other)
one_end number context bytes (Some f) (Some g) (inl outer) (inr inner) =
    absurd (let none = whole_has_none number context.kind inner.0 inner.1 inner.3 inner.4 in let c = ap (outer_fault number context.kind) inner.2 in cc)
one_end number context bytes (Some f) (Some g) (inr inner) (inl outer) =
    absurd (let none = whole_has_none number context.kind inner.0 inner.1 inner.3 inner.4 in let c = ap (outer_fault number context.kind) inner.2 in cc)
one_end number context bytes (Some f) (Some g) (inr a) (inr b) =
    let same = same_first context.kind a.0 b.0 a.1 b.1 (sym a.2 ∙ b.2) a.4 b.4 in
    let here = ap (block_in context) same.0 in
    let faulty = a.5 in
    let other = b.5 in
    let c : Err f ≡ Err g = sym faulty ∙ here ∙ other in
    cc

ok_one : (a b : ContextState × Option Captured) (x : Result (ContextState × Option Captured) BlockFault) → x ≡ Ok a → x ≡ Ok b → a ≡ b
ok_one a b x is other = let c : Ok a ≡ Ok b = sym is ∙ other in cc

same_ok : (context context' : ContextState) (held held' : Option Captured) (x : Result (ContextState × Option Captured) BlockFault) →
    x ≡ Ok (context, held) → x ≡ Ok (context', held') → (context ≡ context') × (held ≡ held')
same_ok context context' held held' x is other =
    let parts = ok_one (context, held) (context', held') x is other in
    (ap (λ (p : ContextState × Option Captured). p.0) parts, ap (λ (p : ContextState × Option Captured). p.1) parts)

-- the blocks of a file from one of this number on
same_blocks : (number : ℕ) (context after after' : ContextState) (front front' rest rest' : List ℕ) (blocks blocks' : List (Option Captured))
    (end end' : Option BlockFault) → front ++ rest ≡ front' ++ rest' → AreBlocks context front blocks after → AreBlocks context front' blocks' after'
    → number + length blocks ≤ endless → number + length blocks' ≤ endless
    → EndsBy (number + length blocks) after rest end → EndsBy (number + length blocks') after' rest' end' → (blocks ≡ blocks') × (end ≡ end') × (after ≡ after')
same_blocks number context after after' front front' rest rest' [] [] end end' is are are' few few' ends ends' =
    let same : rest ≡ rest' = ap (λ xs. xs ++ rest) (sym are.0) ∙ is ∙ ap (λ xs. xs ++ rest') are'.0 in
    let a : EndsBy (number + 0) context rest' end =
    subst (λ xs. EndsBy (number + 0) context xs end) same (subst (λ s. EndsBy (number + 0) s rest end) are.1 ends) in
    let b : EndsBy (number + 0) context rest' end' = subst (λ s. EndsBy (number + 0) s rest' end') are'.1 ends' in
    (refl, one_end (number + 0) context rest' end end' a b, are.1 ∙ sym are'.1)
same_blocks number context after after' front front' rest rest' [] (held' ∷ blocks') end end' is are are' few few' ends ends' =
    let same : rest ≡ are'.0 ++ (are'.1 ++ rest') = ap (λ xs. xs ++ rest) (sym are.0) ∙ is ∙ ap (λ xs. xs ++ rest') are'.3 ∙ append_assoc are'.0 are'.1 rest' in
    let a = subst (λ xs. EndsBy (number + 0) context xs end) same (subst (λ s. EndsBy (number + 0) s rest end) are.1 ends) in
    absurd (no_end (number + 0) context are'.0 (are'.1 ++ rest') _ end (omega (arith, few')) are'.4 are'.5 a)
same_blocks number context after after' front front' rest rest' (held ∷ blocks) [] end end' is are are' few few' ends ends' =
    let same : rest' ≡ are.0 ++ (are.1 ++ rest) = ap (λ xs. xs ++ rest') (sym are'.0) ∙ sym is ∙ ap (λ xs. xs ++ rest) are.3 ∙ append_assoc are.0 are.1 rest in
    let b = subst (λ xs. EndsBy (number + 0) context xs end') same (subst (λ s. EndsBy (number + 0) s rest' end') are'.1 ends') in
    absurd (no_end (number + 0) context are.0 (are.1 ++ rest) _ end' (omega (arith, few)) are.4 are.5 b)
same_blocks number context after after' front front' rest rest' (held ∷ blocks) (held' ∷ blocks') end end' is are are' few few' ends ends' =
    let whole : are.0 ++ (are.1 ++ rest) ≡ are'.0 ++ (are'.1 ++ rest') =
    sym (ap (λ xs. xs ++ rest) are.3 ∙ append_assoc are.0 are.1 rest) ∙ is ∙ (ap (λ xs. xs ++ rest') are'.3 ∙ append_assoc are'.0 are'.1 rest') in
    let same = same_first context.kind are.0 are'.0 (are.1 ++ rest) (are'.1 ++ rest') whole are.4 are'.4 in
    let read = same_ok are.2 are'.2 held held' _ (ap (block_in context) (sym same.0) ∙ are.5) are'.5 in
    let one : number + length (held ∷ blocks) ≡ number + 1 + length blocks = omega arith in
    let one' : number + length (held' ∷ blocks') ≡ number + 1 + length blocks' = omega arith in
    let others = same_blocks (number + 1) are'.2 after after' are.1 are'.1 rest rest' blocks blocks' end end' same.1
    (subst (λ s. AreBlocks s are.1 blocks after) read.0 are.6) are'.6 (omega (arith, few)) (omega (arith, few'))
    (subst (λ n. EndsBy n after rest end) one ends) (subst (λ n. EndsBy n after' rest' end') one' ends') in
    ((λ i. read.1 i ∷ others.0 i), others.1, others.2)

none_more : (n : ℕ) → n ≡ 0 + n
none_more n = omega arith

pub one_file_lem : (bytes : List ℕ) (blocks blocks' : List (Option Captured)) (end end' : Option BlockFault)
    → (a : Captures bytes blocks end) → (b : Captures bytes blocks' end') → (blocks ≡ blocks') × (end ≡ end') × (a.context ≡ b.context)
one_file_lem bytes blocks blocks' end end' a b =
    let few = a.few in
    let few' = b.few in
    same_blocks 0 at_start a.context b.context a.front b.front a.rest b.rest blocks blocks' end end' (sym a.parts ∙ b.parts) a.are_blocks b.are_blocks
    (omega (arith, few)) (omega (arith, few')) (subst (λ n. EndsBy n a.context a.rest end) (none_more (length blocks)) a.ends)
    (subst (λ n. EndsBy n b.context b.rest end') (none_more (length blocks')) b.ends)
