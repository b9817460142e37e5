-- A part of a list with one item more.
use Rattle.mq_sets.proofs.Common.{ℕ, ◌+◌, ◌-◌, ◌≤◌, ◌≡◌, arith, List, ◌∷◌, ◌++◌, length, take, drop, ap, ◌∙◌, refl, sym, append_assoc, insert}
use Rattle.mq_sets.proofs.Common.{drop-drop, length-drop, length-insert, length-take, paste_all, take-add, take-take}
use Rattle.std.proofs.lemmas.List.{drop-take}
use Rattle.std.proofs.lemmas.Slice.{put_mid-paste}
use Rattle.std.specs.List.{splice}
use borrow.Rule.Slice.PartMut.{put_mid}

module _ {X : Type 0} where
  -- the item comes between two parts of the list
  pub insert-part : (xs : List X) (start size at : ℕ) (v : X) → at ≤ size
      → insert (take size (drop start xs)) at v ≡ take at (drop start xs) ++ v ∷ take (size - at) (drop (start + at) xs)
  insert-part xs start size at v before =
      let ys = drop start xs in
      let all : size ≡ at + (size - at) = omega arith in
      let behind : drop at (take size ys) ≡ take (size - at) (drop (start + at) xs) =
      ap (λ n. drop at (take n ys)) all ∙ drop-take at (size - at) ys ∙ ap (take (size - at)) (drop-drop at start xs) in
      rw (take-take at size ys before, behind) refl

  -- the length of a part with one item more
  pub length-insert-part : (xs : List X) (start size at : ℕ) (v : X) → at ≤ size → start + size ≤ length xs
      → length (insert (take size (drop start xs)) at v) ≡ size + 1
  length-insert-part xs start size at v before within = grind (arith, length-insert, length-take, length-drop)

  -- the items behind a place of a part move one place further on, up to the item behind the part
  pub item-inserted : (xs ys : List X) (start size at : ℕ) (v : X) → at ≤ size → start + size + 1 ≤ length xs
      → (let part = take (start + size + 1 - (start + at)) (drop (start + at) xs) in ys ≡ v ∷ take (length part - 1) part)
      → (let row = insert (take size (drop start xs)) at v in
      put_mid (start + at) (start + size + 1 - (start + at)) xs ys ≡ splice xs start (start + length row) row)
  item-inserted xs ys start size at v before within is =
      let place = start + at in
      let count = start + size + 1 - place in
      let part = take count (drop place xs) in
      let long : length part ≡ size - at + 1 = omega (arith, length-take count (drop place xs), length-drop place xs) in
      let less : length part - 1 ≡ size - at = omega (arith, long) in
      let items = v ∷ take (size - at) (drop place xs) in
      let is_items : ys ≡ items = is ∙ ap (λ n. v ∷ take n part) less ∙ ap (λ zs. v ∷ zs) (take-take (size - at) count (drop place xs) (omega arith)) in
      let enough : count ≡ length items = omega (arith, length-take (size - at) (drop place xs), length-drop place xs) in
      let row = insert (take size (drop start xs)) at v in
      let size_then = length-insert-part xs start size at v before (omega (arith, within)) in
      let end : place + count ≡ start + length row = omega (arith, size_then) in
      let behind = drop (start + length row) xs in
      put_mid-paste place count xs ys items count is_items refl enough
      ∙ paste_all xs place items count enough
      ∙ rw (end, take-add start at xs) (
      append_assoc (take start xs) (take at (drop start xs)) (items ++ behind)
      ∙ ap (λ zs. take start xs ++ zs) (sym (append_assoc (take at (drop start xs)) items behind))
      ∙ ap (λ zs. take start xs ++ (zs ++ behind)) (sym (insert-part xs start size at v before)))
