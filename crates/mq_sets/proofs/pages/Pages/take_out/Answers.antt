use Rattle.mq_sets.proofs.Common.{ℕ, ◌≡◌, ◌<◌, ◌+◌, List, [], sym, ap, ◌∙◌, arith, length, map, set, get_or, length-set, Vec, remove, map-set, get_or-map}
use Rattle.mq_sets.proofs.Common.{length-map, PagesState}
use Rattle.mq_sets.proofs.PagedNumbers.{paged, paged-same}
use Rattle.mq_sets.proofs.pages.Pages.take_out.Goals as goal

pub returns-clause-pages : goal.returns-clause-pages
returns-clause-pages g c =
    let items : Vec ℕ g.row.A.Denot → List ℕ = λ page. page.items in
    let used = c.self.inside.used.items in
    let count = ap (λ (s : PagesState). length s.pages) c.self.view_is in
    let same : length (map items used) ≡ length used = length-map used items in
    let in_list : c.args.spot.page < length used = omega (arith, count, same, c.requires.taken.0) in
    let here : c.index_mut-numbers.result.now.items ≡ get_or (map items used) c.args.spot.page [] = ap items c.index_mut-numbers.ensures.value ∙
    sym (get_or-map items used c.args.spot.page c.index_mut-numbers.result.now [] in_list) in
    let page = c.remove.ensures.items ∙ ap (λ xs. remove xs c.args.spot.place) here in
    paged-same
    (map-set items used c.args.spot.page c.remove.new.self ∙ ap (set (map items used) c.args.spot.page) page)
    (ap (λ k. k + length c.self.inside.spare.items) (length-set used c.args.spot.page c.remove.new.self))
    ∙ ap (λ (s : PagesState). paged (set s.pages c.args.spot.page (remove (get_or s.pages c.args.spot.page []) c.args.spot.place)) s.limit) c.self.view_is
