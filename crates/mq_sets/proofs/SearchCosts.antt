-- The comparisons of a search among pages.
use Rattle.mq_sets.proofs.Common.{ℕ, zero, suc, ◌+◌, ◌-◌, ◌*◌, ◌/◌, ◌<◌, ◌≤◌, ◌≡◌, min, List, [], ◌∷◌, length, map, get_or, sym, ap, ◌∙◌, ⊎_elim, arith}
use Rattle.mq_sets.proofs.Common.{cases_lt, append-nil, get_or-map, length-map, get_or-le-sum_by, Spends, Spends-join_within, Spends-within, numbers_in}
use Rattle.mq_sets.proofs.Common.{AreFilled, bitlen}
use Rattle.mq_sets.proofs.{Bitlen.bitlen-half, Bitlen.bitlen-le, Bitlen.bitlen-mono, Bitlen.bitlen-zero, PageSizes.few_pages, PageSizes.two_pages}
use Rattle.mq_sets.proofs.PagedNumbers.{length-numbers}

-- a 128th of a number has seven binary digits less
bitlen-128th : (part n : ℕ) → 64 ≤ n → 128 * part ≤ n → bitlen part + 7 ≤ bitlen n
bitlen-128th part n some fits =
    let a = n / 2 in
    let b = a / 2 in
    let c = b / 2 in
    let d = c / 2 in
    let e = d / 2 in
    let f = e / 2 in
    let small = bitlen-mono part (f / 2) (omega arith) in
    omega (
      arith,
      small,
      bitlen-half n (omega arith),
      bitlen-half a (omega arith),
      bitlen-half b (omega arith),
      bitlen-half c (omega arith),
      bitlen-half d (omega arith),
      bitlen-half e (omega arith),
      bitlen-half f (omega arith),
    )

-- the numbers of the only page
only : (pages : List (List ℕ)) (i : ℕ) → i < length pages → length pages < 2 → length (get_or pages i []) ≡ length (numbers_in pages)
only [] i within single = absurd (omega arith)
only (page ∷ []) zero within single = ap length (sym (append-nil page))
only (page ∷ []) (suc i) within single = absurd (omega arith)
only (page ∷ other ∷ pages) i within single = absurd (omega arith)

module _ (pages : List (List ℕ)) (known : AreFilled (map length pages)) where
  -- the number of pages
  pub directory : 128 * length pages ≤ length (numbers_in pages) + 128
  directory = omega (arith, few_pages (map length pages) known.pairs, length-numbers pages, length-map pages length)

  several : 2 ≤ length pages → 256 ≤ length (numbers_in pages)
  several two = omega (arith, two_pages (map length pages) known.pairs (omega (arith, two, length-map pages length)), length-numbers pages)

  -- the search among the first numbers
  pub spent-directory : {old new : ℕ} → 2 ≤ length pages → Spends (min 1 (length pages - 1)) (bitlen (length pages - 1)) old new →
      Spends (min 1 (length (numbers_in pages))) (bitlen (length (numbers_in pages)) + 2) old new
  spent-directory two counted = grind (arith, several, directory, bitlen-128th, Spends-within)

  page-size : (i : ℕ) → i < length pages → (length (get_or pages i []) ≤ 511) × (length (get_or pages i []) ≤ length (numbers_in pages))
  page-size i within =
      let here : get_or (map length pages) i 0 ≡ length (get_or pages i []) = get_or-map length pages i [] 0 within in
      let same = length-map pages length in
      let some = known.within i 0 (omega (arith, within, same)) in
      let part = get_or-le-sum_by (λ n. n) (map length pages) i 0 (omega (arith, within, same)) in
      (omega (arith, here, some), omega (arith, here, part, length-numbers pages))

  -- both searches
  pub spent-both : (i : ℕ) {old mid new : ℕ} → i < length pages → Spends (min 1 (length pages - 1)) (bitlen (length pages - 1)) old mid →
      Spends (min 1 (length (get_or pages i []))) (bitlen (length (get_or pages i []))) mid new → Spends (min 1 (length (numbers_in pages)))
      (bitlen (length (numbers_in pages)) + 2) old new
  spent-both i within one two =
      let size = page-size i within in
      let few = directory in
      let page = bitlen-le 9 (length (get_or pages i [])) (omega (arith, size.0)) in
      let mono = bitlen-mono (length (get_or pages i [])) (length (numbers_in pages)) size.1 in
      let none = bitlen-zero in
      ⊎_elim
      (λ (single : length pages < 2).
      let no_other : length pages - 1 ≡ 0 = omega (arith, single) in
      let nothing : bitlen (length pages - 1) ≡ 0 = ap bitlen no_other ∙ none in
      let same = only pages i within single in
      Spends-join_within _ _ one two (omega (arith, same)) (omega (arith, nothing, mono)))
      (λ (more : 2 ≤ length pages).
      let less = bitlen-128th (length pages - 1) (length (numbers_in pages)) (omega (arith, several more)) (omega (arith, few)) in
      Spends-join_within _ _ one two (omega (arith, more)) (omega (arith, less, page)))
      (cases_lt (length pages) 2)
