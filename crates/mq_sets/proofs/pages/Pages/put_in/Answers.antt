use Rattle.mq_sets.proofs.Common.{ℕ, ◌≡◌, ◌<◌, ◌+◌, List, [], sym, ap, ◌∙◌, arith, length, map, set, get_or, length-set, Vec, insert, map-set, get_or-map}
use Rattle.mq_sets.proofs.Common.{length-map, PagesState, common_steps}
use Rattle.mq_sets.proofs.PagedNumbers.{paged, paged-same}
use Rattle.mq_sets.proofs.pages.Pages.put_in.Goals as goal

pub returns-clause-pages : goal.returns-clause-pages
returns-clause-pages g c =
    let items : Vec ℕ g.row.A.Denot → List ℕ = λ page. page.items in
    let used = c.self.inside.used.items in
    let count = ap (λ (s : PagesState). length s.pages) c.self.view_is in
    let same : length (map items used) ≡ length used = length-map used items in
    let in_list : c.args.page < length used = omega (arith, count, same, c.requires.page) in
    let here : c.index_mut-numbers.result.now.items ≡ get_or (map items used) c.args.page [] = ap items c.index_mut-numbers.ensures.value ∙
    sym (get_or-map items used c.args.page c.index_mut-numbers.result.now [] in_list) in
    let page = c.insert_at_once.ensures.items ∙ ap (λ xs. insert xs c.args.place c.args.number) here in
    paged-same
    (map-set items used c.args.page c.insert_at_once.new.list ∙ ap (set (map items used) c.args.page) page)
    (ap (λ k. k + length c.self.inside.spare.items) (length-set used c.args.page c.insert_at_once.new.list))
    ∙ ap (λ (s : PagesState). paged (set s.pages c.args.page (insert (get_or s.pages c.args.page []) c.args.place c.args.number)) s.limit) c.self.view_is

pub invariant_of-self : goal.invariant_of-self
invariant_of-self g c = grind (arith, common_steps)
