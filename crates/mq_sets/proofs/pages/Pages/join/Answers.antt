use Rattle.mq_sets.proofs.Common.{ℕ, ◌≡◌, ◌<◌, ◌≤◌, ◌+◌, suc, List, [], ◌∷◌, ◌++◌, sym, ap, ◌∙◌, subst, arith, length, map, take, drop, set, get_or}
use Rattle.mq_sets.proofs.Common.{vec_capacity, remove, All, map-set, get_or-map, length-map, length-remove, get_or-remove_below, All-append, All-take}
use Rattle.mq_sets.proofs.Common.{All-drop, All-set, All-push, PagesState, joined, common_steps, length-append, length-set, Vec}
use Rattle.mq_sets.proofs.{Stored.map-remove, PagedNumbers.paged, PagedNumbers.paged-same}
use Rattle.mq_sets.proofs.pages.Pages.join.Goals as goal

abbrev IsPage : {A : Type 0} → Vec ℕ A → Type 0
IsPage page = (511 ≤ vec_capacity page) × (length page.items ≤ 511)

abbrev IsSpare : {A : Type 0} → Vec ℕ A → Type 0
IsSpare page = (511 ≤ vec_capacity page) × (page.items ≡ [])

pub returns-clause-pages : goal.returns-clause-pages
returns-clause-pages g c =
    let items : Vec ℕ g.row.A.Denot → List ℕ = λ page. page.items in
    let used = c.self.inside.used.items in
    let pages = map items used in
    let count = ap (λ (s : PagesState). length s.pages) c.self.view_is in
    let same : length pages ≡ length used = length-map used items in
    let two : c.args.page + 1 < length used = omega (arith, count, same, c.requires.behind) in
    let left = c.remove-behind.new.self.items in
    let fewer = length-remove used (c.args.page + 1) two in
    let left_is = c.remove-behind.ensures.items in
    let kept = ap length left_is in
    let first : c.index_mut.result.now.items ≡ get_or pages c.args.page [] =
    ap items (c.index_mut.ensures.value ∙ ap (λ xs. get_or xs c.args.page c.index_mut.result.now) left_is ∙
    get_or-remove_below used (c.args.page + 1) c.index_mut.result.now c.args.page (omega arith) two)
    ∙ sym (get_or-map items used c.args.page c.index_mut.result.now [] (omega (arith, two))) in
    let second : c.remove-behind.result.items ≡ get_or pages (c.args.page + 1) [] =
    ap items c.remove-behind.ensures.value ∙ sym (get_or-map items used (c.args.page + 1) c.remove-behind.result [] two) in
    let both : c.extend_from_slice.new.self.items ≡ get_or pages c.args.page [] ++ get_or pages (c.args.page + 1) [] =
    (rw c.unwrap.ensures at c.extend_from_slice.ensures.items)
    ∙ ap (λ xs. xs ++ c.as_slice.result.now) first
    ∙ ap (λ xs. get_or pages c.args.page [] ++ xs) (c.as_slice.ensures.value ∙ second) in
    let pushed = ap length (rw c.unwrap-2.ensures at c.push.ensures.items) in
    let longer = length-append c.self.inside.spare.items (c.clear.new.self ∷ []) in
    let written = length-set left c.args.page c.extend_from_slice.new.self in
    paged-same
    (map-set items left c.args.page c.extend_from_slice.new.self
    ∙ ap (λ xs. set (map items xs) c.args.page c.extend_from_slice.new.self.items) left_is
    ∙ ap (λ xs. set xs c.args.page c.extend_from_slice.new.self.items) (map-remove items used (c.args.page + 1))
    ∙ ap (set (remove pages (c.args.page + 1)) c.args.page) both)
    (omega (arith, written, kept, fewer, pushed, longer))
    ∙ ap (λ (s : PagesState). paged (joined s.pages c.args.page) s.limit) c.self.view_is

pub invariant_of-self : goal.invariant_of-self
invariant_of-self g c =
    let items : Vec ℕ g.row.A.Denot → List ℕ = λ page. page.items in
    let used = c.self.inside.used.items in
    let pages = map items used in
    let count = ap (λ (s : PagesState). length s.pages) c.self.view_is in
    let same : length pages ≡ length used = length-map used items in
    let two : c.args.page + 1 < length used = omega (arith, count, same, c.requires.behind) in
    let left = c.remove-behind.new.self.items in
    let fewer = length-remove used (c.args.page + 1) two in
    let left_is = c.remove-behind.ensures.items in
    let kept = ap length left_is in
    let all : All IsPage (remove used (c.args.page + 1)) = All-append IsPage (take (c.args.page + 1) used) (drop (suc (c.args.page + 1)) used)
    (All-take IsPage (c.args.page + 1) used c.self.invariant.0) (All-drop IsPage (suc (c.args.page + 1)) used c.self.invariant.0) in
    let all_left : All IsPage left = subst (All IsPage) (sym left_is) all in
    let here : IsPage c.index_mut.result.now = subst IsPage (sym c.index_mut.ensures.value)
    (all_left c.args.page c.index_mut.result.now (omega (arith, kept, fewer, two))) in
    let gone : IsPage c.remove-behind.result = subst IsPage (sym c.remove-behind.ensures.value)
    (c.self.invariant.0 (c.args.page + 1) c.remove-behind.result two) in
    let first : c.index_mut.result.now.items ≡ get_or pages c.args.page [] =
    ap items (c.index_mut.ensures.value ∙ ap (λ xs. get_or xs c.args.page c.index_mut.result.now) left_is ∙
    get_or-remove_below used (c.args.page + 1) c.index_mut.result.now c.args.page (omega arith) two)
    ∙ sym (get_or-map items used c.args.page c.index_mut.result.now [] (omega (arith, two))) in
    let second : c.remove-behind.result.items ≡ get_or pages (c.args.page + 1) [] =
    ap items c.remove-behind.ensures.value ∙ sym (get_or-map items used (c.args.page + 1) c.remove-behind.result [] two) in
    let fits : length (get_or pages c.args.page []) + length (get_or pages (c.args.page + 1) []) ≤ 511 =
    subst (λ (s : PagesState). length (get_or s.pages c.args.page []) + length (get_or s.pages (c.args.page + 1) []) ≤ 511)
    (sym c.self.view_is) c.requires.fits in
    let long = ap length (rw c.unwrap.ensures at c.extend_from_slice.ensures.items) in
    let sum = length-append c.index_mut.result.now.items c.as_slice.result.now in
    let page : IsPage c.extend_from_slice.new.self = (
      omega (arith, here.0, c.extend_from_slice.ensures.capacity),
      omega (arith, long, sum, ap length first, ap length second, ap length c.as_slice.ensures.value, fits),
    ) in
    let pushed = rw c.unwrap-2.ensures at c.push.ensures.items in
    let longer = length-append c.self.inside.spare.items (c.clear.new.self ∷ []) in
    let written = length-set left c.args.page c.extend_from_slice.new.self in
    let empty : IsSpare c.clear.new.self = (omega (arith, gone.0, c.clear.ensures.capacity), c.clear.ensures.items) in (
      All-set IsPage left c.args.page c.extend_from_slice.new.self page all_left,
      subst (All IsSpare) (sym pushed) (All-push IsSpare c.self.inside.spare.items c.clear.new.self c.self.invariant.1 empty),
      omega (arith, written, kept, fewer, ap length pushed, longer, c.remove-behind.ensures.capacity, c.self.invariant.2),
      omega (arith, written, kept, fewer, ap length pushed, longer, c.push.ensures.capacity, c.self.invariant.3),
    )

pub returns-clause-moved : goal.returns-clause-moved
returns-clause-moved g c = grind (arith, common_steps)

pub unwrap-requires : goal.unwrap-requires
unwrap-requires g c = grind (arith, common_steps)
