use Rattle.mq_sets.proofs.Common.{ℕ, ◌≡◌, ◌+◌, ◌-◌, ◌<◌, ◌≤◌, List, [], ap, sym, ◌∙◌, subst, arith, length, map, take, drop, get_or, length-drop, Vec, All}
use Rattle.mq_sets.proofs.Common.{get_or-drop, length-map, IsAscending, IsPlaceFor, PagesState, first_key, key_at, common_steps}
use Rattle.mq_sets.proofs.SearchedPages.{All-unmap, IsAscending-unmap, holds-map, place-map, slice-later, some-later, ascending-later, firsts-later}
use Rattle.mq_sets.proofs.pages.Pages.page_of.Goals as goal

abbrev items_of : {A : Type 0} → Vec ℕ A → List ℕ
items_of page = page.items

pub search-requires : goal.search-requires
search-requires g c =
    let later = slice-later items_of c.self.inside.used.items c.deref.result.now c.args.self.now.pages c.deref.ensures.value
    (ap (λ (s : PagesState). s.pages) c.self.view_is) in
    record {
      ascending =
          let key_of = key_at g.K.Key.number c.args.keys.now in
          IsAscending-unmap items_of (first_key key_of) (take (length c.deref.result.now - 1) (drop 1 c.deref.result.now))
          (subst (IsAscending (first_key key_of)) (sym later) (ascending-later key_of c.args.self.now.pages c.requires.filled c.requires.ascending));
      some =
          All-unmap items_of (λ (page : List ℕ). 1 ≤ length page) (take (length c.deref.result.now - 1) (drop 1 c.deref.result.now))
          (subst (All (λ (page : List ℕ). 1 ≤ length page)) (sym later) (some-later c.args.self.now.pages c.requires.filled));
      within =
          let P : List ℕ → Type 0 = λ page. get_or page 0 0 < length c.args.keys.now in
          All-unmap items_of P (take (length c.deref.result.now - 1) (drop 1 c.deref.result.now))
          (subst (All P) (sym later) (firsts-later (λ n. n < length c.args.keys.now) c.args.self.now.pages c.requires.filled c.requires.within));
    }

pub returns-in-Ok-clause-found : goal.returns-in-Ok-clause-found
returns-in-Ok-clause-found g c =
    let key_of = key_at g.K.Key.number c.args.keys.now in
    let slice = take (length c.deref.result.now - 1) (drop 1 c.deref.result.now) in
    let pages = c.args.self.now.pages in
    let later = slice-later items_of c.self.inside.used.items c.deref.result.now pages c.deref.ensures.value
    (ap (λ (s : PagesState). s.pages) c.self.view_is) in
    let size : length slice ≡ length pages - 1 = sym (length-map slice items_of) ∙ ap length later ∙ length-drop 1 pages in
    let at = holds-map items_of (λ page. first_key key_of page ≡ g.K.Key.number c.args.key) slice c.in-Ok.behind [] c.in-Ok.ensures.found_in
    c.in-Ok.ensures.found in
    let index : 1 + c.in-Ok.behind ≡ c.in-Ok.behind + 1 = omega arith in
    let here : get_or (map items_of slice) c.in-Ok.behind [] ≡ get_or pages (c.in-Ok.behind + 1) [] = ap (λ xs. get_or xs c.in-Ok.behind []) later ∙
    get_or-drop 1 pages c.in-Ok.behind [] ∙ ap (λ k. get_or pages k []) index in
    (omega arith, omega (arith, size, c.in-Ok.ensures.found_in), subst (λ page. first_key key_of page ≡ g.K.Key.number c.args.key) here at)

pub returns-in-Err-clause-absent : goal.returns-in-Err-clause-absent
returns-in-Err-clause-absent g c =
    let key_of = key_at g.K.Key.number c.args.keys.now in
    let slice = take (length c.deref.result.now - 1) (drop 1 c.deref.result.now) in
    let pages = c.args.self.now.pages in
    let later = slice-later items_of c.self.inside.used.items c.deref.result.now pages c.deref.ensures.value
    (ap (λ (s : PagesState). s.pages) c.self.view_is) in
    let size : length slice ≡ length pages - 1 = sym (length-map slice items_of) ∙ ap length later ∙ length-drop 1 pages in
    let at = place-map items_of (first_key key_of) slice (g.K.Key.number c.args.key) c.in-Err.page c.in-Err.ensures.absent in (
      omega (arith, size, c.in-Err.ensures.absent.within, c.requires.filled.some, length-map pages (length {A = ℕ})),
      subst (λ xs. IsPlaceFor (first_key key_of) xs (g.K.Key.number c.args.key) c.in-Err.page) later at,
    )

pub returns-in-Err-clause-spent : goal.returns-in-Err-clause-spent
returns-in-Err-clause-spent g c = grind (arith, common_steps)

pub returns-in-Ok-clause-spent : goal.returns-in-Ok-clause-spent
returns-in-Ok-clause-spent g c = grind (arith, common_steps)
