-- The moments of numbers, at the leaves of a tree.
use Rattle.mq_sched.proofs.Common.{ℕ, suc, ◌+◌, ◌-◌, ◌*◌, ◌<◌, ◌≤◌, ◌≡◌, ◌==◌, Bool, true, false, cond, arith, refl, List, [], ◌∷◌, ◌++◌, length, get_or}
use Rattle.mq_sched.proofs.Common.{MatchOption, if◌then◌else◌, slice_index, nat_le, All, count_by, nat_cmp, eq_by_cmp, nat_cmp_total, cases_lt, cases_eq}
use Rattle.mq_sched.proofs.Common.{eq-eqb, ne_eqb, lt-ltb, le-ltb, le-leb, lt-leb, false≢true, nat_tests, get_or_read, get_or-drop, length-drop, get_or_default}
use Rattle.mq_sched.proofs.Common.{get_or_past, get_or-set_same, get_or-set_other, get_or_append_left, get_or_push, list_any_at, sum_by-cons, entries_by}
use Rattle.mq_sched.proofs.Common.{find-entries_by, DeadlinesState, moment_at, moments_at, AreNumbered, IsEarliestMoment, has_come, is_number_due}
use Rattle.mq_sched.proofs.Common.{IsEarliestLeaf, is_leaf_due, leaf_before, leaf_after, set, list_map, drop, Option, None, Some, is_some, sym, ap, ◌∙◌, ⊎_elim}
use Rattle.mq_sched.proofs.Common.{◌⊎◌, length-append, length-set}
use Rattle.std.proofs.lemmas.Option.{same_Some}
use Rattle.mq_sets.specs.Slots.{times}
use Rattle.mq_sched.proofs.{Counts.count-some, Counts.count-none, Counts.count-map, Counts.count-agree, LeafMoves.after_given_up, LeafMoves.before_given_up}
use Rattle.std.specs.FinMap as map

same-key : (q k : ℕ) → q ≡ k → eq_by_cmp nat_cmp q k ≡ true
same-key q k is = grind (arith, nat_tests)

other-key : (q k : ℕ) → (q ≡ k → ⊥) → eq_by_cmp nat_cmp q k ≡ false
other-key q k differs = grind (arith, nat_tests)

-- a list whose numbers each know their place has no number twice
pub once-by_place : (f : ℕ → ℕ) (xs : List ℕ) (base q : ℕ) → ((k : ℕ) → k < length xs → f (get_or xs k 0) ≡ base + k) → times q xs ≤ 1
once-by_place f [] base q tells = omega arith
once-by_place f (x ∷ xs) base q tells =
    let parts = sum_by-cons (λ other. cond (other == q) 1 0) x xs in
    let first = tells 0 (omega arith) in
    ⊎_elim
    (λ (same : x ≡ q).
    let none = count-none (λ other. other == q) xs
    (λ k d here. ne_eqb (get_or xs k d) q (λ equal. let next = tells (suc k) (omega (arith, here)) in
    absurd (omega (arith, first, next, ap f (same ∙ sym equal ∙ get_or_default xs k d 0 here))))) in
    let one : cond {A = ℕ} (x == q) 1 0 ≡ 1 = ap (λ (b : Bool). cond b 1 0) (eq-eqb x q same) in
    omega (arith, parts, one, none))
    (λ (differs : x ≡ q → ⊥).
    let rest = once-by_place f xs (base + 1) q (λ k here. tells (suc k) (omega (arith, here)) ∙ omega arith) in
    let none : cond {A = ℕ} (x == q) 1 0 ≡ 0 = ap (λ (b : Bool). cond b 1 0) (ne_eqb x q differs) in
    omega (arith, parts, none, rest))
    (cases_eq x q)

-- a leaf of a number
pub record IsLeafOf (numbers : List ℕ) (count leaf number : ℕ) : Type 0 where
  pub from : count ≤ leaf
  pub below : leaf < 2 * count
  pub has : get_or numbers leaf 0 ≡ number

module _ (nodes leaves numbers : List ℕ) (count : ℕ) (known : AreNumbered leaves numbers count) where
  -- a number's leaf is that of the list
  pub leaf-told : (leaf q : ℕ) → IsLeafOf numbers count leaf q → get_or leaves q 0 ≡ leaf
  leaf-told leaf q is =
      ap (λ n. get_or leaves n 0) (sym is.has) ∙ known.leaf leaf is.from is.below

  pub moment-there : (leaf q : ℕ) → IsLeafOf numbers count leaf q → moment_at nodes leaves numbers count q ≡ Some (get_or nodes leaf 0)
  moment-there leaf q is =
      rw (leaf-told leaf q is, le-leb count leaf is.from, lt-ltb leaf (2 * count) is.below, eq-eqb (get_or numbers leaf 0) q is.has) refl

  -- a number has a leaf, or none has it
  pub moment-cases : (q : ℕ) → ((leaf : ℕ) × IsLeafOf numbers count leaf q) ⊎
      (((leaf : ℕ) → IsLeafOf numbers count leaf q → ⊥) × (moment_at nodes leaves numbers count q ≡ None))
  moment-cases q = grind (arith, leaf-told, lt-leb, le-leb, lt-ltb, ne_eqb, cases_eq, le-ltb, cases_lt)

  -- the numbers that are there
  dense-at : (leaf : ℕ) → count ≤ leaf → get_or (drop count numbers) (leaf - count) 0 ≡ get_or numbers leaf 0
  dense-at leaf from = get_or-drop count numbers (leaf - count) 0 ∙ ap (λ l. get_or numbers l 0) (omega (arith, from))

  pub dense-leaf : (k d : ℕ) → k < length (drop count numbers) → IsLeafOf numbers count (count + k) (get_or (drop count numbers) k d)
  dense-leaf k d here = grind (arith, length-drop, get_or_default, get_or-drop)

  pub get-moments_at : (q : ℕ) → map.get (moments_at nodes leaves numbers count) q ≡ moment_at nodes leaves numbers count q
  get-moments_at q =
      map.get-from_entries nat_cmp_total (entries_by (moment_at nodes leaves numbers count) (drop count numbers)) q
      ∙ find-entries_by (moment_at nodes leaves numbers count) (drop count numbers) q
      ∙ ⊎_elim
      (λ (there : (leaf : ℕ) × IsLeafOf numbers count leaf q).
      let leaf = there.0 in
      let is = there.1 in
      let at = dense-at leaf is.from ∙ is.has in
      rw (list_any_at (eq_by_cmp nat_cmp q) (drop count numbers)
      (leaf - count) 0 (omega (arith, is.from, is.below, known.size, length-drop count numbers))
      (same-key q (get_or (drop count numbers) (leaf - count) 0) (sym at))) refl)
      (λ (absent : ((leaf : ℕ) → IsLeafOf numbers count leaf q → ⊥) × (moment_at nodes leaves numbers count q ≡ None)).
      rw absent.1 (neither _))
      (moment-cases q)
    where
      neither : (b : Bool) → cond {A = Option ℕ} b None None ≡ None
      neither true = refl
      neither false = refl

  -- the test for a due number, by the leaf of the list
  pub due-at : (now q : ℕ) → IsLeafOf numbers count (get_or leaves q 0) q → is_number_due (moments_at nodes leaves numbers count) now q
      ≡ nat_le (get_or nodes (get_or leaves q 0) 0) now
  due-at now q is = ap (has_come now) (get-moments_at q ∙ moment-there (get_or leaves q 0) q is)

  -- and whether it is there
  pub there-at : (q : ℕ) → IsLeafOf numbers count (get_or leaves q 0) q → map.contains_key (moments_at nodes leaves numbers count) q ≡ true
  there-at q is = ap is_some (get-moments_at q ∙ moment-there (get_or leaves q 0) q is)

  -- a number without a leaf has no moment
  moment-none : (q : ℕ) → (IsLeafOf numbers count (get_or leaves q 0) q → ⊥) → map.get (moments_at nodes leaves numbers count) q ≡ None
  moment-none q absent = grind (arith, get-moments_at, leaf-told, moment-cases)

  pub due-none : (now q : ℕ) → (IsLeafOf numbers count (get_or leaves q 0) q → ⊥) → is_number_due (moments_at nodes leaves numbers count) now q ≡ false
  due-none now q absent = ap (has_come now) (moment-none q absent)

  pub there-none : (q : ℕ) → (IsLeafOf numbers count (get_or leaves q 0) q → ⊥) → map.contains_key (moments_at nodes leaves numbers count) q ≡ false
  there-none q absent = ap is_some (moment-none q absent)

  -- each number that is there stands among them once
  pub numbers-once : (q : ℕ) → times q (drop count numbers) ≡ (if map.contains_key (moments_at nodes leaves numbers count) q then 1 else 0)
  numbers-once q =
      ⊎_elim
      (λ (there : (leaf : ℕ) × IsLeafOf numbers count leaf q).
      let leaf = there.0 in
      let is = there.1 in
      let held : map.contains_key (moments_at nodes leaves numbers count) q ≡ true = ap is_some (get-moments_at q ∙ moment-there leaf q is) in
      let at = dense-at leaf is.from ∙ is.has in
      let some = count-some (λ other. other == q) (drop count numbers)
      (leaf - count) 0 (omega (arith, is.from, is.below, known.size, length-drop count numbers)) (eq-eqb (get_or (drop count numbers) (leaf - count) 0) q at) in
      let once = once-by_place (λ n. get_or leaves n 0)
      (drop count numbers) count q (λ k here. leaf-told (count + k) (get_or (drop count numbers) k 0) (dense-leaf k 0 here)) in
      rw held (omega (arith, some, once)))
      (λ (absent : ((leaf : ℕ) → IsLeafOf numbers count leaf q → ⊥) × (moment_at nodes leaves numbers count q ≡ None)).
      let gone : map.contains_key (moments_at nodes leaves numbers count) q ≡ false = ap is_some (get-moments_at q ∙ absent.1) in
      rw gone (count-none (λ other. other == q) (drop count numbers)
      (λ k d here. ne_eqb (get_or (drop count numbers) k d) q
      (λ equal. let is = dense-leaf k d here in absent.0 (count + k) (record { from = is.from; below = is.below; has = is.has ∙ equal })))))
      (moment-cases q)

  -- the earliest of all moments is at the top
  pub earliest_of_numbers : (top : Option ℕ) → map.len (moments_at nodes leaves numbers count) ≡ count →
      MatchOption top (count ≡ 0) (IsEarliestLeaf nodes count) → MatchOption top (moments_at nodes leaves numbers count ≡ map.empty)
      (IsEarliestMoment (moments_at nodes leaves numbers count))
  earliest_of_numbers None counted none = map.empty_of_len (moments_at nodes leaves numbers count) (counted ∙ none)
  earliest_of_numbers (Some moment) counted top = record {
    is_one =
        let leaf = top.leaf.0 in
        let number = get_or numbers leaf 0 in
        (number, get-moments_at number ∙ moment-there leaf number (record { from = top.leaf.1; below = top.leaf.2; has = refl }) ∙ ap Some top.leaf.3);
    least =
        λ number other is.
        ⊎_elim
        (λ (there : (leaf : ℕ) × IsLeafOf numbers count leaf number).
        let same : get_or nodes there.0 0 ≡ other =
        same_Some (get_or nodes there.0 0) other (sym (moment-there there.0 number there.1) ∙ sym (get-moments_at number) ∙ is) in
        omega (arith, same, top.least there.0 there.1.from there.1.below))
        (λ (absent : ((leaf : ℕ) → IsLeafOf numbers count leaf number → ⊥) × (moment_at nodes leaves numbers count number ≡ None)).
        let clash : None ≡ Some other = sym absent.1 ∙ sym (get-moments_at number) ∙ is in
        absurd (cc))
        (moment-cases number);
  }

  -- the numbers whose leaves are due
  module _ (now : ℕ) (found : List ℕ)
      (due : (leaf : ℕ) → count_by (λ other. (count + other) == leaf) found ≡ (if is_leaf_due nodes count now leaf then 1 else 0)) where
    pub found_behind : All (λ behind. behind < length (drop count numbers)) found
    found_behind k d here =
        let leaf = count + get_or found k d in
        let some = count-some (λ other. (count + other) == leaf) found k d here (eq-eqb leaf leaf refl) in
        let counted = due leaf in
        ⊎_elim
        (λ (below : leaf < 2 * count). omega (arith, below, known.size, length-drop count numbers))
        (λ (past : 2 * count ≤ leaf). let none = rw (le-leb count leaf (omega arith), le-ltb leaf (2 * count) past) at counted in absurd (omega arith))
        (cases_lt leaf (2 * count))

    pub due-numbers : (q : ℕ) → times q (list_map (slice_index (drop count numbers)) found)
        ≡ (if is_number_due (moments_at nodes leaves numbers count) now q then 1 else 0)
    due-numbers q =
        count-map (λ other. other == q) (slice_index (drop count numbers)) found
        ∙ ⊎_elim
        (λ (there : (leaf : ℕ) × IsLeafOf numbers count leaf q).
        let leaf = there.0 in
        let is = there.1 in
        let agree = count-agree (λ other. slice_index (drop count numbers) other == q) (λ other. (count + other) == leaf) found
        (λ k d here.
        let other = get_or found k d in
        let named = dense-leaf other 0 (found_behind k d here) in
        ⊎_elim
        (λ (equal : count + other ≡ leaf). rw (eq-eqb (count + other) leaf equal)
        (eq-eqb (get_or (drop count numbers) other 0) q (sym named.has ∙ ap (λ l. get_or numbers l 0) equal ∙ is.has)))
        (λ (differs : count + other ≡ leaf → ⊥). rw (ne_eqb (count + other) leaf differs)
        (ne_eqb (get_or (drop count numbers) other 0) q
        (λ equal. differs (sym (leaf-told (count + other) (get_or (drop count numbers) other 0) named) ∙ ap (λ n. get_or leaves n 0) equal ∙
        leaf-told leaf q is))))
        (cases_eq (count + other) leaf)) in
        let told = rw (le-leb count leaf is.from, lt-ltb leaf (2 * count) is.below) at (due leaf) in
        rw (get-moments_at q, moment-there leaf q is) (agree ∙ told))
        (λ (absent : ((leaf : ℕ) → IsLeafOf numbers count leaf q → ⊥) × (moment_at nodes leaves numbers count q ≡ None)).
        rw (get-moments_at q, absent.1)
        (count-none (λ other. slice_index (drop count numbers) other == q) found
        (λ k d here.
        let other = get_or found k d in
        let named = dense-leaf other 0 (found_behind k d here) in
        ne_eqb (get_or (drop count numbers) other 0) q
        (λ equal. absent.0 (count + other) (record { from = named.from; below = named.below; has = named.has ∙ equal })))))
        (moment-cases q)

  -- two leaves have two numbers
  pub one-leaf : (leaf other q : ℕ) → IsLeafOf numbers count leaf q → IsLeafOf numbers count other q → leaf ≡ other
  one-leaf leaf other q is too = sym (leaf-told leaf q is) ∙ leaf-told other q too

-- a number comes, with the last leaf
module _ (nodes after leaves numbers : List ℕ) (count n first due : ℕ) (known : AreNumbered leaves numbers count) (within : n < length leaves)
    (absent : (leaf : ℕ) → IsLeafOf numbers count leaf n → ⊥) (first_is : first ≡ get_or numbers count n)
    (last : get_or after (2 * count + 1) 0 ≡ due) (moved : 0 < count → get_or after (2 * count) 0 ≡ get_or nodes count 0)
    (others : (leaf : ℕ) → count < leaf → leaf < 2 * count → get_or after leaf 0 ≡ get_or nodes leaf 0) where
  abbrev pub grown_leaves : List ℕ
  grown_leaves = set (set leaves first (2 * count)) n (2 * count + 1)

  abbrev pub grown_numbers : List ℕ
  grown_numbers = (numbers ++ first ∷ []) ++ n ∷ []

  first_leaf : 0 < count → IsLeafOf numbers count count first
  first_leaf some = grind (arith, get_or_default)

  sizes : length (numbers ++ first ∷ []) ≡ 2 * count + 1
  sizes = omega (arith, length-append numbers (first ∷ []), known.size)

  at_last : get_or grown_numbers (2 * count + 1) 0 ≡ n
  at_last = get_or_push (numbers ++ first ∷ []) n 0 (2 * count + 1) sizes

  at_first : get_or grown_numbers (2 * count) 0 ≡ first
  at_first =
      get_or_append_left (numbers ++ first ∷ []) (n ∷ []) 0 (2 * count) (omega (arith, sizes)) ∙ get_or_push numbers first 0 (2 * count) known.size

  at_others : (leaf : ℕ) → leaf < 2 * count → get_or grown_numbers leaf 0 ≡ get_or numbers leaf 0
  at_others leaf below =
      get_or_append_left (numbers ++ first ∷ []) (n ∷ []) 0 leaf (omega (arith, sizes, below)) ∙
      get_or_append_left numbers (first ∷ []) 0 leaf (omega (arith, known.size, below))

  first_within : 0 < count → first < length leaves
  first_within some = rw (sym (first_leaf some).has) (known.below count (omega arith) (omega (arith, some)))

  first_differs : 0 < count → n ≡ first → ⊥
  first_differs some same = absent count (record { from = omega arith; below = omega (arith, some); has = (first_leaf some).has ∙ sym same })

  pub AreNumbered-grown : AreNumbered grown_leaves grown_numbers (count + 1)
  AreNumbered-grown = record {
    size = omega (arith, length-append (numbers ++ first ∷ []) (n ∷ []), sizes);
    below =
        λ leaf from below.
        let all : length grown_leaves ≡ length leaves = length-set (set leaves first (2 * count)) n (2 * count + 1) ∙ length-set leaves first (2 * count) in
        ⊎_elim
        (λ (old : leaf < 2 * count). omega (arith, all, at_others leaf old, known.below leaf (omega (arith, from)) old))
        (λ (new : 2 * count ≤ leaf).
        ⊎_elim
        (λ (is : leaf ≡ 2 * count). omega (arith, all, ap (λ l. get_or grown_numbers l 0) is, at_first, first_within (omega (arith, from, is))))
        (λ (differs : leaf ≡ 2 * count → ⊥). let is : leaf ≡ 2 * count + 1 = omega (arith, new, below, differs) in
        omega (arith, all, ap (λ l. get_or grown_numbers l 0) is, at_last, within))
        (cases_eq leaf (2 * count)))
        (cases_lt leaf (2 * count));
    leaf =
        λ leaf from below.
        ⊎_elim
        (λ (old : leaf < 2 * count).
        let number = get_or numbers leaf 0 in
        let own : IsLeafOf numbers count leaf number = record { from = omega (arith, from); below = old; has = refl } in
        let not_n : number ≡ n → ⊥ = λ same. absent leaf (record { from = own.from; below = old; has = same }) in
        let not_first : number ≡ first →
        ⊥ = λ same. absurd (omega (
          arith,
          from,
          one-leaf nodes leaves numbers count known leaf count first (record { from = own.from; below = old; has = same })
              (first_leaf (omega (arith, from, old))),
        )) in
        ap (λ m. get_or grown_leaves m 0) (at_others leaf old)
        ∙ get_or-set_other (set leaves first (2 * count)) n number (2 * count + 1) 0 not_n
        ∙ get_or-set_other leaves first number (2 * count) 0 not_first
        ∙ known.leaf leaf own.from old)
        (λ (new : 2 * count ≤ leaf).
        ⊎_elim
        (λ (is : leaf ≡ 2 * count).
        let some : 0 < count = omega (arith, from, is) in
        ap (λ m. get_or grown_leaves m 0) (ap (λ l. get_or grown_numbers l 0) is ∙ at_first)
        ∙ get_or-set_other (set leaves first (2 * count)) n first (2 * count + 1) 0 (λ same. first_differs some (sym same))
        ∙ get_or-set_same leaves first (2 * count) 0 (first_within some)
        ∙ sym is)
        (λ (differs : leaf ≡ 2 * count → ⊥).
        let is : leaf ≡ 2 * count + 1 = omega (arith, new, below, differs) in
        ap (λ m. get_or grown_leaves m 0) (ap (λ l. get_or grown_numbers l 0) is ∙ at_last)
        ∙ get_or-set_same (set leaves first (2 * count)) n (2 * count + 1) 0 (omega (arith, within, length-set leaves first (2 * count)))
        ∙ sym is)
        (cases_eq leaf (2 * count)))
        (cases_lt leaf (2 * count));
  }

  new_leaf : IsLeafOf grown_numbers (count + 1) (2 * count + 1) n
  new_leaf = record { from = omega arith; below = omega arith; has = at_last }

  -- where an old leaf went
  moved_leaf : (leaf q : ℕ) → IsLeafOf numbers count leaf q → (new : ℕ) × IsLeafOf grown_numbers (count + 1) new q × (get_or after new 0 ≡ get_or nodes leaf 0)
  moved_leaf leaf q is =
      ⊎_elim
      (λ (same : leaf ≡ count).
      let some : 0 < count = omega (arith, is.below, same) in (
        2 * count,
        record {
          from = omega (arith, some);
          below = omega arith;
          has = at_first ∙ sym (first_leaf some).has ∙ ap (λ l. get_or numbers l 0) (sym same)
              ∙ is.has;
        },
        moved some ∙ ap (λ l. get_or nodes l 0) (sym same),
      ))
      (λ (differs : leaf ≡ count → ⊥). (
        leaf,
        record { from = omega (arith, is.from, differs); below = omega (arith, is.below); has = at_others leaf is.below ∙ is.has },
        others leaf (omega (arith, is.from, differs)) is.below,
      ))
      (cases_eq leaf count)

  -- and where a new one was
  left_leaf : (leaf q : ℕ) → IsLeafOf grown_numbers (count + 1) leaf q → (leaf ≡ 2 * count + 1) ⊎ ((old : ℕ) × IsLeafOf numbers count old q)
  left_leaf leaf q is = grind (arith, at_others, first_leaf, at_first, cases_eq, cases_lt)

  pub moment-made : (q : ℕ) → map.get (moments_at after grown_leaves grown_numbers (count + 1)) q
      ≡ map.get (map.insert (moments_at nodes leaves numbers count) n due) q
  moment-made q =
      let here = moment-there after grown_leaves grown_numbers (count + 1) AreNumbered-grown in
      get-moments_at after grown_leaves grown_numbers (count + 1) AreNumbered-grown q
      ∙ ⊎_elim
      (λ (same : q ≡ n).
      rw (same-key q n same) (here (2 * count + 1) q (record { from = new_leaf.from; below = new_leaf.below; has = at_last ∙ sym same }) ∙ ap Some last))
      (λ (differs : q ≡ n → ⊥).
      rw (other-key q n differs, get-moments_at nodes leaves numbers count known q)
      (⊎_elim
      (λ (there : (leaf : ℕ) × IsLeafOf numbers count leaf q).
      let new = moved_leaf there.0 q there.1 in
      here new.0 q new.1 ∙ ap Some new.2 ∙ sym (moment-there nodes leaves numbers count known there.0 q there.1))
      (λ (none : ((leaf : ℕ) → IsLeafOf numbers count leaf q → ⊥) × (moment_at nodes leaves numbers count q ≡ None)).
      ⊎_elim
      (λ (there : (leaf : ℕ) × IsLeafOf grown_numbers (count + 1) leaf q).
      absurd (⊎_elim (λ (new : there.0 ≡ 2 * count + 1). differs (sym there.1.has ∙ ap (λ l. get_or grown_numbers l 0) new ∙ at_last))
      (λ (old : (old : ℕ) × IsLeafOf numbers count old q). none.0 old.0 old.1) (left_leaf there.0 q there.1)))
      (λ (still : ((leaf : ℕ) → IsLeafOf grown_numbers (count + 1) leaf q → ⊥) × (moment_at after grown_leaves grown_numbers (count + 1) q ≡ None)).
      still.1 ∙ sym none.1)
      (moment-cases after grown_leaves grown_numbers (count + 1) AreNumbered-grown q))
      (moment-cases nodes leaves numbers count known q)))
      (cases_eq q n)
      ∙ sym (map.get-insert nat_cmp_total (moments_at nodes leaves numbers count) n due q)

  pub moments-made : moments_at after grown_leaves grown_numbers (count + 1) ≡ map.insert (moments_at nodes leaves numbers count) n due
  moments-made = map.same_map nat_cmp_total map.nat_cmp-IsAntisymmetric _ _ moment-made

-- a number has another moment
module _ (nodes after leaves numbers : List ℕ) (count n leaf due : ℕ) (known : AreNumbered leaves numbers count) (own : IsLeafOf numbers count leaf n)
    (changed : get_or after leaf 0 ≡ due) (others : (other : ℕ) → count ≤ other → other < 2 * count → (other ≡ leaf → ⊥) →
    get_or after other 0 ≡ get_or nodes other 0) where
  moment-changed : (q : ℕ) → map.get (moments_at after leaves numbers count) q ≡ map.get (map.insert (moments_at nodes leaves numbers count) n due) q
  moment-changed q =
      get-moments_at after leaves numbers count known q
      ∙ ⊎_elim
      (λ (same : q ≡ n).
      rw (same-key q n same)
      (moment-there after leaves numbers count known leaf q (record { from = own.from; below = own.below; has = own.has ∙ sym same }) ∙ ap Some changed))
      (λ (differs : q ≡ n → ⊥).
      rw (other-key q n differs, get-moments_at nodes leaves numbers count known q)
      (⊎_elim
      (λ (there : (other : ℕ) × IsLeafOf numbers count other q).
      moment-there after leaves numbers count known there.0 q there.1
      ∙ ap Some (others there.0 there.1.from there.1.below (λ equal. differs (sym there.1.has ∙ ap (λ l. get_or numbers l 0) equal ∙ own.has)))
      ∙ sym (moment-there nodes leaves numbers count known there.0 q there.1))
      (λ (none : ((other : ℕ) → IsLeafOf numbers count other q → ⊥) × (moment_at nodes leaves numbers count q ≡ None)).
      ⊎_elim
      (λ (there : (other : ℕ) × IsLeafOf numbers count other q). absurd (none.0 there.0 there.1))
      (λ (still : ((other : ℕ) → IsLeafOf numbers count other q → ⊥) × (moment_at after leaves numbers count q ≡ None)). still.1 ∙ sym none.1)
      (moment-cases after leaves numbers count known q))
      (moment-cases nodes leaves numbers count known q)))
      (cases_eq q n)
      ∙ sym (map.get-insert nat_cmp_total (moments_at nodes leaves numbers count) n due q)

  pub moments-changed : moments_at after leaves numbers count ≡ map.insert (moments_at nodes leaves numbers count) n due
  moments-changed = map.same_map nat_cmp_total map.nat_cmp-IsAntisymmetric _ _ moment-changed

-- a number goes, and its leaf is given up
module _ (nodes after leaves given numbers kept : List ℕ) (last n leaf later : ℕ) (known : AreNumbered leaves numbers (last + 1))
    (own : IsLeafOf numbers (last + 1) leaf n) (tail : 2 * last ≤ later) (end : later < 2 * last + 2) (size : length kept ≡ 2 * last)
    (room : length given ≡ length leaves)
    (stands : (other : ℕ) → last ≤ other → other < 2 * last → get_or after other 0 ≡ get_or nodes (leaf_before last leaf later other) 0)
    (puts : (other : ℕ) → last < other → other < 2 * last + 2 → (other ≡ leaf → ⊥) → leaf_after last leaf later other < 2 * last →
    get_or kept (leaf_after last leaf later other) 0 ≡ get_or numbers other 0)
    (gives : (other : ℕ) → last < other → other < 2 * last + 2 → (other ≡ leaf → ⊥) → get_or given (get_or numbers other 0) 0
    ≡ leaf_after last leaf later other) where
  -- where a leaf that is left was
  was_leaf : (other : ℕ) → last ≤ other → other < 2 * last → (old : ℕ) ×
      ((last < old) × (old < 2 * last + 2) × (old ≡ leaf → ⊥) × (leaf_after last leaf later old ≡ other) × (old ≡ leaf_before last leaf later other))
  was_leaf other from below = grind (arith, before_given_up)

  kept-at : (other : ℕ) → last ≤ other → other < 2 * last → (old : ℕ) ×
      (IsLeafOf numbers (last + 1) old (get_or kept other 0) × (old ≡ leaf → ⊥) × (leaf_after last leaf later old ≡ other) ×
      (get_or after other 0 ≡ get_or nodes old 0))
  kept-at other from below =
      let was = was_leaf other from below in
      let old = was.0 in
      let put = puts old was.1.0 was.1.1 was.1.2 (omega (arith, was.1.3, below)) in
      let there : get_or kept other 0 ≡ get_or numbers old 0 = ap (λ l. get_or kept l 0) (sym was.1.3) ∙ put in (
        old,
        (
          record { from = omega (arith, was.1.0); below = omega (arith, was.1.1); has = sym there },
          was.1.2,
          was.1.3,
          stands other from below ∙
              ap (λ l. get_or nodes l 0) (sym was.1.4),
        ),
      )

  pub AreNumbered-left : AreNumbered given kept last
  AreNumbered-left = record {
    size = size;
    below =
        λ other from below.
        let was = kept-at other from below in
        omega (arith, room, ap (λ m. m) was.1.0.has, known.below was.0 was.1.0.from (omega (arith, was.1.0.below)));
    leaf =
        λ other from below.
        let was = kept-at other from below in
        ap (λ m. get_or given m 0) (sym was.1.0.has) ∙ gives was.0 (omega (arith, was.1.0.from)) (omega (arith, was.1.0.below)) was.1.1 ∙ was.1.2;
  }

  moment-gone : (q : ℕ) → map.get (moments_at after given kept last) q ≡ map.get (map.remove (moments_at nodes leaves numbers (last + 1)) n) q
  moment-gone q =
      get-moments_at after given kept last AreNumbered-left q
      ∙ ⊎_elim
      (λ (there : (other : ℕ) × IsLeafOf kept last other q).
      let other = there.0 in
      let was = kept-at other there.1.from there.1.below in
      let old : IsLeafOf numbers (last + 1) was.0 q = record { from = was.1.0.from; below = was.1.0.below; has = was.1.0.has ∙ there.1.has } in
      let differs : q ≡ n →
      ⊥ = λ same. was.1.1 (one-leaf nodes leaves numbers (last + 1) known was.0 leaf n
      (record { from = old.from; below = old.below; has = old.has ∙ same }) own) in
      rw (other-key q n differs)
      (moment-there after given kept last AreNumbered-left other q there.1
      ∙ ap Some was.1.3
      ∙ sym (moment-there nodes leaves numbers (last + 1) known was.0 q old)
      ∙ sym (get-moments_at nodes leaves numbers (last + 1) known q)))
      (λ (none : ((other : ℕ) → IsLeafOf kept last other q → ⊥) × (moment_at after given kept last q ≡ None)).
      none.1
      ∙ ⊎_elim
      (λ (same : q ≡ n). rw (same-key q n same) refl)
      (λ (differs : q ≡ n → ⊥).
      rw (other-key q n differs, get-moments_at nodes leaves numbers (last + 1) known q)
      (⊎_elim
      (λ (there : (old : ℕ) × IsLeafOf numbers (last + 1) old q).
      let old = there.0 in
      let off : old ≡ leaf → ⊥ = λ equal. differs (sym there.1.has ∙ ap (λ l. get_or numbers l 0) equal ∙ own.has) in
      let goes = after_given_up last leaf later old own.from (omega (arith, own.below)) tail end there.1.from (omega (arith, there.1.below)) off in
      absurd (none.0 (leaf_after last leaf later old)
      (record { from = goes.0; below = goes.1; has = puts old (omega (arith, there.1.from)) (omega (arith, there.1.below)) off goes.1 ∙ there.1.has })))
      (λ (neither : ((old : ℕ) → IsLeafOf numbers (last + 1) old q → ⊥) × (moment_at nodes leaves numbers (last + 1) q ≡ None)). sym neither.1)
      (moment-cases nodes leaves numbers (last + 1) known q)))
      (cases_eq q n))
      (moment-cases after given kept last AreNumbered-left q)
      ∙ sym (map.get-remove nat_cmp_total (moments_at nodes leaves numbers (last + 1)) n q)

  pub moments-gone : moments_at after given kept last ≡ map.remove (moments_at nodes leaves numbers (last + 1)) n
  moments-gone = map.same_map nat_cmp_total map.nat_cmp-IsAntisymmetric _ _ moment-gone

-- the leaf of a number that is there, which its place tells
pub record HasLeaf (leaves numbers : List ℕ) (count n : ℕ) : Type 0 where
  pub leaf : ℕ
  pub is : IsLeafOf numbers count leaf n
  pub within : n < length leaves
  pub told : (read : ℕ) → read ≡ get_or leaves n read → read ≡ leaf

-- the facts about a number that is there, or isn't
module _ (nodes leaves numbers : List ℕ) (count n : ℕ) (known : AreNumbered leaves numbers count) where
  pub below-room : (leaf : ℕ) → IsLeafOf numbers count leaf n → n < length leaves
  below-room leaf is = omega (arith, is.has, known.below leaf is.from is.below)

  leaf-of_there : map.contains_key (moments_at nodes leaves numbers count) n ≡ true → HasLeaf leaves numbers count n
  leaf-of_there there = grind (arith, below-room, get_or_read, leaf-told, false≢true, get-moments_at, moment-cases)

  pub none-of_absent : map.contains_key (moments_at nodes leaves numbers count) n ≡ false → (leaf : ℕ) → IsLeafOf numbers count leaf n → ⊥
  none-of_absent absent leaf is =
      absurd (false≢true (sym absent ∙
      ap is_some (get-moments_at nodes leaves numbers count known n ∙ moment-there nodes leaves numbers count known leaf n is)))

  pub first-below : (first : ℕ) → n < length leaves → first ≡ get_or numbers count n → first < length leaves
  first-below first within is = grind (arith, get_or_default, get_or_past, cases_lt)

-- in an index with these moments
pub leaf-of_held : (nodes : List ℕ) (n : ℕ) {leaves numbers : List ℕ} {count room : ℕ} {s : DeadlinesState} → AreNumbered leaves numbers count
    → ◌≡◌ {A = DeadlinesState} (record { moments = moments_at nodes leaves numbers count; room = room }) s → map.contains_key s.moments n ≡ true →
    HasLeaf leaves numbers count n
leaf-of_held nodes n known view there = leaf-of_there nodes _ _ _ n known (ap (λ (s : DeadlinesState). map.contains_key s.moments n) view ∙ there)
