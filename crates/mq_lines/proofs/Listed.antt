-- Items of lists that are put one after the other.
use Rattle.mq_lines.proofs.Common.{◌≡◌, ℕ, Bool, false, List, ◌∷◌, ◌++◌, ap, sym, ◌∙◌, append_assoc, items_from}

-- one item more was put after the items before it
pub next_of_list : {A : Type 0} (item : Bool → A → List ℕ) (total done : List ℕ) (is_first : Bool) (items left : List A) (x : A)
    → total ≡ done ++ items_from item is_first items → items ≡ x ∷ left → total ≡ (done ++ item is_first x) ++ items_from item false left
next_of_list item total done is_first items left x parts first =
    parts ∙ ap (λ (xs : List _). done ++ items_from item is_first xs) first ∙ sym (append_assoc done (item is_first x) (items_from item false left))
