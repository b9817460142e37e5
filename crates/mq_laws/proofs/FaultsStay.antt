-- A fault of a file's first bytes, which is a fault of the whole file unless the bytes are cut.
use Rattle.mq_laws.proofs.Common.{◌≡◌, ◌+◌, ℕ, Bool, true, false, List, ◌++◌, length, Option, None, Some, Result, Ok, Err, refl, arith, sym, ◌∙◌, ap, inl, inr}
use Rattle.mq_laws.proofs.Common.{length-append, append_assoc, nat_lt, le-ltb, ltb-false, nat_tests, take-append-le, BlockFault, Captured, ContextState}
use Rattle.mq_laws.proofs.Common.{Captures, EndsBy, endless, size_fault, head_size, is_start, size_in, size_of, not, ◌&&◌, is_cut, outer_fault}
use Rattle.mq_convert.specs.declared.context.Kind.{Kind}
use Rattle.mq_convert.specs.declared.fault.BlockFault.TheVariants as fault

-- the facts that the tests of a fault by the size see: the bytes there are, or have to be, the number of blocks,
-- the head, and its fault
abbrev tests : (none over short : Bool) → (says : Result ℕ BlockFault) → (there : ℕ) → Option BlockFault
tests true over short says there = None
tests false true short says there = Some fault.Endless
tests false false true says there = Some fault.Cut
tests false false false says there = size_fault says there

is_tests : (number : ℕ) (kind : Kind) (bytes : List ℕ) (none over short : Bool) → (nat_lt (length bytes) 1 && not (is_start kind)) ≡ none →
    not (nat_lt number endless) ≡ over → nat_lt (length bytes) (head_size kind) ≡ short
    → outer_fault number kind bytes ≡ tests none over short (size_of kind bytes) (length bytes)
unfolding outer_fault
is_tests number kind bytes true over short a b c = rw a refl
is_tests number kind bytes false true short a b c = rw (a, b) refl
is_tests number kind bytes false false true a b c = rw (a, b, c) refl
is_tests number kind bytes false false false a b c = rw (a, b, c) refl

-- a size's fault that isn't that it is cut is the size's
size_stays : (says : Result ℕ BlockFault) (there more : ℕ) (f : BlockFault) → is_cut f ≡ false → size_fault says there ≡ Some f →
    size_fault says (there + more) ≡ Some f
size_stays (Err g) there more f uncut is = is
size_stays (Ok size) there more f uncut is = absurd (by_test (nat_lt there size) refl)
  where
    by_test : (b : Bool) → nat_lt there size ≡ b → ⊥
    by_test true short = let c : Some fault.Cut ≡ Some f = rw short at is in let d : fault.Cut ≡ f = cc in cc
    by_test false whole = let c : None ≡ Some f = rw whole at is in cc

still_some : (size more : ℕ) (start : Bool) → (nat_lt size 1 && not start) ≡ false → (nat_lt (size + more) 1 && not start) ≡ false
still_some size more start is = grind (arith, nat_tests, is)

outer_stays : (number : ℕ) (kind : Kind) (bytes more : List ℕ) (f : BlockFault) → is_cut f ≡ false → outer_fault number kind bytes ≡ Some f →
    outer_fault number kind (bytes ++ more) ≡ Some f
outer_stays number kind bytes more f uncut is =
    by_tests (nat_lt (length bytes) 1 && not (is_start kind)) (not (nat_lt number endless)) (nat_lt (length bytes) (head_size kind)) refl refl refl
  where
    still : (nat_lt (length bytes) 1 && not (is_start kind)) ≡ false → (nat_lt (length (bytes ++ more)) 1 && not (is_start kind)) ≡ false
    still a = rw (length-append bytes more) (still_some (length bytes) (length more) (is_start kind) a)

    by_tests : (none over short : Bool) → (nat_lt (length bytes) 1 && not (is_start kind)) ≡ none → not (nat_lt number endless) ≡ over →
        nat_lt (length bytes) (head_size kind) ≡ short → outer_fault number kind (bytes ++ more) ≡ Some f
    by_tests true over short a b c = absurd (let none = is_tests number kind bytes true over short a b c in let d : None ≡ Some f = sym none ∙ is in cc)
    by_tests false true short a b c = is_tests number kind (bytes ++ more) false true _ (still a) b refl ∙
        sym (is_tests number kind bytes false true short a b c) ∙ is
    by_tests false false true a b c =
        absurd (let cut = is_tests number kind bytes false false true a b c in let d : Some fault.Cut ≡ Some f = sym cut ∙
        is in let e : fault.Cut ≡ f = cc in cc)
    by_tests false false false a b c =
        let whole = ltb-false (length bytes) (head_size kind) c in
        let long = length-append bytes more in
        let says = ap (size_in kind) (take-append-le (head_size kind) bytes more whole) in
        let before : size_fault (size_of kind bytes) (length bytes) ≡ Some f = sym (is_tests number kind bytes false false false a b c) ∙ is in
        is_tests number kind (bytes ++ more) false false false (still a) b (le-ltb (length (bytes ++ more)) (head_size kind) (omega (arith, whole, long)))
        ∙ rw (says, long) (size_stays (size_of kind bytes) (length bytes) (length more) f uncut before)

pub faults_stay_lem : (bytes more : List ℕ) (blocks : List (Option Captured)) (f : BlockFault) → Captures bytes blocks (Some f) → is_cut f ≡ false →
    Captures (bytes ++ more) blocks (Some f)
faults_stay_lem bytes more blocks f a uncut = record {
  front = a.front;
  rest = a.rest ++ more;
  context = a.context;
  parts = ap (λ xs. xs ++ more) a.parts ∙ append_assoc a.front a.rest more;
  are_blocks = a.are_blocks;
  few = a.few;
  ends = ends_stay (length blocks) a.context a.rest a.ends;
}
  where
    ends_stay : (number : ℕ) (context : ContextState) (rest : List ℕ) → EndsBy number context rest (Some f) → EndsBy number context (rest ++ more) (Some f)
    ends_stay number context rest (inl outer) = inl (outer_stays number context.kind rest more f uncut outer)
    ends_stay number context rest (inr inner) =
        inr (inner.0, inner.1 ++ more, ap (λ xs. xs ++ more) inner.2 ∙ append_assoc inner.0 inner.1 more, inner.3, inner.4, inner.5)
