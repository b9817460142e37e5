use Rattle.mq_sets.proofs.Common.{rules, arith, ◌≡◌, ◌≤◌, ℕ, List, [], ◌∷◌, length, map, ap, Vec, vec_capacity, All, common_steps}
use Rattle.mq_sets.proofs.pages.Pages.with_room.Goals as goal

one_empty : {A : Type 0} (pages : List (Vec ℕ A)) → length pages ≡ 1 → All (λ page. (511 ≤ vec_capacity page) × (page.items ≡ [])) pages →
    map (λ page. page.items) pages ≡ [] ∷ []
one_empty [] e all = search (arith, e)
one_empty (page ∷ []) e all = ap (λ x. x ∷ []) ((all 0 page (omega arith)).1)
one_empty (page ∷ other ∷ pages) e all = search (arith, e)

pub returns-clause-pages : goal.returns-clause-pages
returns-clause-pages g c =
    let one = one_empty c.in_ok-empty_pages.field-0.items c.in_ok-empty_pages.ensures.count.0 c.in_ok-empty_pages.ensures.empty in
    search rules

pub invariant_of-result : goal.invariant_of-result
invariant_of-result g c = grind (arith, common_steps)
