-- Pages that are filled one after the other with the numbers of a list.
use Rattle.mq_sets.proofs.Common.{ℕ, ◌+◌, ◌-◌, ◌*◌, ◌<◌, ◌≤◌, ◌≡◌, min, refl, arith, List, [], ◌∷◌, ◌++◌, length, map, take, drop, sym, ap, ◌∙◌, subst}
use Rattle.mq_sets.proofs.Common.{length-append, length-take, length-drop, All, take-add, append-nil, map-append, length-map, flat_map-append, All-head}
use Rattle.mq_sets.proofs.Common.{All-tail, All-append, All-cons, All-nil, All-weaker, small_pairs, AreFilled, numbers_in}

-- a page behind others that are three quarters full
small_pairs-behind : (xs : List ℕ) (a : ℕ) → All (λ n. n ≡ 384) xs → small_pairs (xs ++ a ∷ []) ≡ 0
small_pairs-behind [] a full = refl
small_pairs-behind (x ∷ []) a full = let first = All-head (λ n. n ≡ 384) x [] full in omega (arith, first)
small_pairs-behind (x ∷ y ∷ xs) a full =
    let first = All-head (λ n. n ≡ 384) x (y ∷ xs) full in
    let rest = small_pairs-behind (y ∷ xs) a (All-tail (λ n. n ≡ 384) x (y ∷ xs) full) in
    omega (arith, first, rest)

AreFilled-behind : (xs : List ℕ) (a : ℕ) → All (λ n. n ≡ 384) xs → a ≤ 511 → (1 ≤ length xs → 1 ≤ a) → AreFilled (xs ++ a ∷ [])
AreFilled-behind xs a full room some =
    let long = length-append xs (a ∷ []) in
    record {
      some = omega (arith, long);
      within = All-append (λ n. n ≤ 511) xs (a ∷ []) (All-weaker (λ n. n ≡ 384) (λ n. n ≤ 511) (λ n h. omega (arith, h)) xs full)
          (All-cons (λ n. n ≤ 511) a [] room (All-nil (λ n. n ≤ 511)));
      none_empty = λ two. All-append (λ n. 1 ≤ n) xs (a ∷ []) (All-weaker (λ n. n ≡ 384) (λ n. 1 ≤ n) (λ n h. omega (arith, h)) xs full)
          (All-cons (λ n. 1 ≤ n) a [] (some (omega (arith, two, long))) (All-nil (λ n. 1 ≤ n)));
      pairs = small_pairs-behind xs a full;
    }

-- the first numbers of a list are in the pages, and where some are left the pages are three quarters full
pub record IsFilling (numbers : List ℕ) (pages : List (List ℕ)) (done : ℕ) : Type 0 where
  pub within : done ≤ length numbers
  pub taken : numbers_in pages ≡ take done numbers
  pub filled : AreFilled (map length pages)
  pub full : done < length numbers → All (λ n. n ≡ 384) (map length pages)
  pub count : done < length numbers → done ≡ 384 * length pages

-- a page more, behind others that are three quarters full
module _ (numbers : List ℕ) (pages : List (List ℕ)) (done next : ℕ) (chunk : List ℕ) (within : done ≤ length numbers)
    (taken : numbers_in pages ≡ take done numbers) (full : All (λ n. n ≡ 384) (map length pages)) (count : done ≡ 384 * length pages)
    (some : 1 ≤ length pages → done < length numbers) (upto : next ≡ min (done + 384) (length numbers))
    (is : chunk ≡ take (next - done) (drop done numbers)) where
  size : length chunk ≡ next - done
  size = omega (arith, ap length is, length-take (next - done) (drop done numbers), length-drop done numbers, upto)

  sizes : map length (pages ++ chunk ∷ []) ≡ map length pages ++ length chunk ∷ []
  sizes = map-append length pages (chunk ∷ [])

  pub IsFilling-more : IsFilling numbers (pages ++ chunk ∷ []) next
  IsFilling-more =
      let same = length-map pages length in
      record {
        within = omega (arith, upto);
        taken =
            flat_map-append (λ p. p) pages (chunk ∷ [])
            ∙ ap (λ xs. numbers_in pages ++ xs) (append-nil chunk ∙ is)
            ∙ ap (λ xs. xs ++ take (next - done) (drop done numbers)) taken
            ∙ sym (take-add done (next - done) numbers)
            ∙ ap (λ n. take n numbers) (omega (arith, upto, within));
        filled = subst AreFilled (sym sizes)
            (AreFilled-behind (map length pages) (length chunk) full (omega (arith, size, upto))
            (λ more. omega (arith, size, upto, some (omega (arith, more, same)))));
        full = λ left. subst (All (λ n. n ≡ 384)) (sym sizes)
            (All-append (λ n. n ≡ 384) (map length pages)
            (length chunk ∷ []) full (All-cons (λ n. n ≡ 384) (length chunk) [] (omega (arith, size, upto, left)) (All-nil (λ n. n ≡ 384))));
        count = λ left. omega (arith, count, upto, left, length-append pages (chunk ∷ []));
      }
