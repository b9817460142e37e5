use Rattle.mq_sets.proofs.Common.{ℕ, ◌≡◌, ◌<◌, ◌≤◌, ◌+◌, List, [], ◌∷◌, sym, ap, ◌∙◌, arith, length, map, take, drop, set, get_or, subst, length-append}
use Rattle.mq_sets.proofs.Common.{vec_capacity, insert, All, map-set, get_or-map, length-map, length-insert, All-append, All-cons, All-take, All-drop, All-set}
use Rattle.mq_sets.proofs.Common.{All-pop, PagesState, length-take, length-drop, length-set, Vec}
use Rattle.mq_sets.proofs.{Stored.map-insert, PagedNumbers.paged, PagedNumbers.paged-same}
use Rattle.mq_sets.proofs.pages.Pages.split.Goals as goal

abbrev IsPage : {A : Type 0} → Vec ℕ A → Type 0
IsPage page = (511 ≤ vec_capacity page) × (length page.items ≤ 511)

abbrev IsSpare : {A : Type 0} → Vec ℕ A → Type 0
IsSpare page = (511 ≤ vec_capacity page) × (page.items ≡ [])

pub returns-clause-moved : goal.returns-clause-moved
returns-clause-moved g c =
    let items : Vec ℕ g.row.A.Denot → List ℕ = λ page. page.items in
    let used = c.self.inside.used.items in
    let count = ap (λ (s : PagesState). length s.pages) c.self.view_is in
    let same : length (map items used) ≡ length used = length-map used items in
    let longer = rw c.unwrap.ensures at c.insert.ensures.len in
    omega (arith, count, same, longer, c.len.ensures, c.requires.page, c.count.ensures, c.self.inside.used.ok.0)

pub returns-clause-pages : goal.returns-clause-pages
returns-clause-pages g c =
    let items : Vec ℕ g.row.A.Denot → List ℕ = λ page. page.items in
    let used = c.self.inside.used.items in
    let count = ap (λ (s : PagesState). length s.pages) c.self.view_is in
    let same : length (map items used) ≡ length used = length-map used items in
    let in_list : c.args.page < length used = omega (arith, count, same, c.requires.page) in
    let here : c.index_mut.result.now.items ≡ get_or (map items used) c.args.page [] = ap items c.index_mut.ensures.value ∙
    sym (get_or-map items used c.args.page c.index_mut.result.now [] in_list) in
    let inserted = rw c.unwrap.ensures at c.insert.ensures.items in
    let taken = ap length (rw c.unwrap-behind.ensures at c.pop.ensures.items) in
    let written = set used c.args.page c.halve.new.full in
    let kept = length-set used c.args.page c.halve.new.full in
    let longer = length-insert written (c.args.page + 1) c.halve.new.behind (omega (arith, kept, in_list)) in
    let less = length-append c.pop.new.self.items (c.unwrap-behind.result ∷ []) in
    let first = c.halve.ensures.first ∙ ap (take 255) here in
    let second = c.halve.ensures.behind ∙ ap (drop 255) here in
    paged-same
    (ap (map items) inserted
    ∙ map-insert items written (c.args.page + 1) c.halve.new.behind
    ∙ ap (λ xs. insert xs (c.args.page + 1) c.halve.new.behind.items)
    (map-set items used c.args.page c.halve.new.full ∙ ap (set (map items used) c.args.page) first)
    ∙ ap (insert (set (map items used) c.args.page (take 255 (get_or (map items used) c.args.page []))) (c.args.page + 1)) second)
    (omega (arith, ap length inserted, longer, kept, taken, less))
    ∙ ap (λ (s : PagesState). paged (insert (set s.pages c.args.page (take 255 (get_or s.pages c.args.page []))) (c.args.page + 1)
    (drop 255 (get_or s.pages c.args.page []))) s.limit) c.self.view_is

pub invariant_of-self : goal.invariant_of-self
invariant_of-self g c =
    let items : Vec ℕ g.row.A.Denot → List ℕ = λ page. page.items in
    let used = c.self.inside.used.items in
    let count = ap (λ (s : PagesState). length s.pages) c.self.view_is in
    let same : length (map items used) ≡ length used = length-map used items in
    let in_list : c.args.page < length used = omega (arith, count, same, c.requires.page) in
    let inserted = rw c.unwrap.ensures at c.insert.ensures.items in
    let taken = ap length (rw c.unwrap-behind.ensures at c.pop.ensures.items) in
    let written = set used c.args.page c.halve.new.full in
    let kept = length-set used c.args.page c.halve.new.full in
    let longer = length-insert written (c.args.page + 1) c.halve.new.behind (omega (arith, kept, in_list)) in
    let less = length-append c.pop.new.self.items (c.unwrap-behind.result ∷ []) in
    let popped = All-pop IsSpare c.self.inside.spare.items c.pop.new.self.items c.pop.result c.pop.ensures.items c.self.invariant.1 in
    let empty : IsSpare c.unwrap-behind.result = rw c.unwrap-behind.ensures at popped.1 in
    let page : IsPage c.index_mut.result.now = subst IsPage (sym c.index_mut.ensures.value) (c.self.invariant.0 c.args.page c.index_mut.result.now in_list) in
    let first = ap length c.halve.ensures.first in
    let second = ap length c.halve.ensures.behind in
    let front : IsPage c.halve.new.full =
    (omega (arith, page.0, c.halve.ensures.capacity), omega (arith, first, length-take 255 c.index_mut.result.now.items)) in
    let back : IsPage c.halve.new.behind =
    (omega (arith, empty.0, c.halve.ensures.capacity_behind), omega (arith, second, page.1, length-drop 255 c.index_mut.result.now.items)) in
    let all = All-set IsPage used c.args.page c.halve.new.full front c.self.invariant.0 in
    let whole : All IsPage (insert written (c.args.page + 1) c.halve.new.behind) = All-append IsPage (take (c.args.page + 1) written)
    (c.halve.new.behind ∷ drop (c.args.page + 1) written) (All-take IsPage (c.args.page + 1) written all)
    (All-cons IsPage c.halve.new.behind (drop (c.args.page + 1) written) back (All-drop IsPage (c.args.page + 1) written all)) in (
      subst (All IsPage) (sym inserted) whole,
      popped.0,
      omega (arith, ap length inserted, longer, kept, taken, less, c.insert.ensures.capacity, c.self.invariant.2),
      omega (arith, ap length inserted, longer, kept, taken, less, c.pop.ensures.capacity, c.self.invariant.3),
    )
