use Rattle.mq_sets.proofs.Common.{◌<◌, [], ap, ◌∙◌, arith, length, map, get_or, sym, subst, PagesState, AreFilled, numbers_in}
use Rattle.mq_sets.proofs.PagedNumbers.{numbers-insert, filled-insert}
use Rattle.mq_sets.proofs.pages.Pages.put.Goals as goal

pub returns-then-page-lt-PAGE_ROOM-clause-numbers : goal.returns-then-page-lt-PAGE_ROOM-clause-numbers
returns-then-page-lt-PAGE_ROOM-clause-numbers g c =
    ap (λ (s : PagesState). numbers_in s.pages) c.put_in.ensures.pages
    ∙ numbers-insert c.args.self.now.pages c.args.spot.page c.args.spot.place c.args.number c.requires.page c.requires.place

pub returns-then-page-lt-PAGE_ROOM-clause-filled : goal.returns-then-page-lt-PAGE_ROOM-clause-filled
returns-then-page-lt-PAGE_ROOM-clause-filled g c =
    let room : length (get_or c.args.self.now.pages c.args.spot.page []) < 511 = omega (arith, ap length c.page.ensures.numbers, c.if-page-lt-PAGE_ROOM.true) in
    subst (λ (s : PagesState). AreFilled (map length s.pages)) (sym c.put_in.ensures.pages)
    (filled-insert c.args.self.now.pages c.args.spot.page c.args.spot.place c.args.number c.requires.page c.requires.place room c.requires.filled)
