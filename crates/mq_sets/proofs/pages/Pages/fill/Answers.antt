use Rattle.mq_sets.proofs.Common.{◌-◌, sym, ap, ◌∙◌, subst, refl, arith, length, take, drop, [], ◌∷◌, length-append, length-take, length-drop}
use Rattle.mq_sets.proofs.Common.{Spends-join_within, PagesState}
use Rattle.mq_sets.proofs.PagesFilled.{IsFilling, IsFilling-more}
use Rattle.mq_sets.proofs.pages.Pages.fill.Goals as goal

pub loop-done-preserved : goal.loop-done-preserved
loop-done-preserved g c =
    let numbers = c.args.numbers.now in
    let pages = c.loop-done.self.pages in
    let done = c.loop-done.done in
    let next = c.min-next.result in
    let chunk = take (next - done) (drop done numbers) in
    let known = c.loop-done.invariant.0 in
    let left = c.loop-done-test.true in
    let made = ap (λ (s : PagesState). s.pages) c.append-in-loop-done.ensures.pages in
    let limit = ap (λ (s : PagesState). s.limit) c.append-in-loop-done.ensures.pages in
    let more = IsFilling-more numbers pages done next chunk known.within known.taken (known.full left) (known.count left)
    (λ some. left) c.min-next.ensures refl in
    let longer = ap length made ∙ length-append pages (chunk ∷ []) in
    let moved = length-take (next - done) (drop done numbers) in (
      subst (λ ps. IsFilling numbers ps next) (sym made) more,
      limit ∙ c.loop-done.invariant.1,
      Spends-join_within _ _ c.loop-done.invariant.2 c.append-in-loop-done.ensures.moved
          (omega (arith, longer, moved, length-drop done numbers, c.min-next.ensures, left))
          (omega (arith, longer, moved, length-drop done numbers, c.min-next.ensures, left)),
    )
