use Rattle.mq_held.proofs.Common.{◌≡◌, ◌+◌, sum, take, drop, sym, ap, ◌∙◌, subst, arith, get_or, length, refl, drop_all, AreFilled, HeldState, rank_at}
use Rattle.std.specs.FinMap as map
use Rattle.mq_held.proofs.{HeldInOrder.one_fewer, KeysByNumber.numbers_in, GroupsInOrder.IsOrdered-stored, GroupsInOrder.len-view, GroupPages.IsNext}
use Rattle.mq_held.proofs.{GroupPages.IsNext-turned, GroupPages.IsNext-here, GroupPages.rank-end, GroupPages.number-next, GroupPages.next-numbered}
use Rattle.mq_held.proofs.{GroupPages.next-entries}
use Rattle.mq_held.proofs.held_entries.HeldEntriesIterator.next.Given.{Over}
use Rattle.mq_held.proofs.held_entries.HeldEntriesIterator.next.Goals as goal
use Rattle.mq_held.proofs.held_entries.HeldEntriesIterator.next.Goals.{then-self-page+else-self-pages, else-self-page}

pub returns-then-self-pages-clause-steps : goal.returns-then-self-pages-clause-steps
returns-then-self-pages-clause-steps g c =
    let s = c.self.inside.held.now in
    let known = IsOrdered-stored g.K.Key.number c.held.invariant.0 c.held.view_is in
    let size = ap (λ (s : HeldState). get_or s.order.pages c.self.inside.page 0) c.held.view_is in
    let count = ap (λ (s : HeldState). length s.order.pages) c.held.view_is in
    let total = ap (λ (s : HeldState). sum s.order.pages) c.held.view_is in
    let last : c.self.inside.page + 1 ≡ length s.order.pages = omega (arith, c.if-self-pages.true, c.pages.ensures, count) in
    let place : c.self.inside.place ≡ get_or s.order.pages c.self.inside.page 0 = omega (arith, c.if-self-page.true, c.page.ensures.len, size) in
    let rank = rank-end s.order.pages c.self.inside.page c.self.inside.place last place in
    let none = drop_all (rank_at s.order.pages c.self.inside.page c.self.inside.place) (map.entries s.groups)
    (omega (arith, rank, total, c.lemma_is_ordered.ensures.paged, len-view known (ap (λ (s : HeldState). s.order) c.held.view_is), map.len-entries s.groups)) in
    (sym c.self.view_is ∙ none, sym c.self.view_is ∙ none)

-- the next place, and the number that stands there
next_at : (g : Over) (c : goal.After-self-2-1 g)
    → (let s = c.self.inside.held.now in let there = c.if-self-page in let rank = rank_at s.order.pages c.self.inside.page c.self.inside.place in
    IsNext s.order.pages rank there.self-inside.page there.self-inside.place
    × (there.self-inside.held ≡ c.self.inside.held) × (sum s.order.pages ≡ map.len s.groups) ×
    (get_or (numbers_in s.order.items) rank 0 ≡ get_or c.page-2.result.now there.self-inside.place 0))
next_at g c =
    let s = c.self.inside.held.now in
    let pages = s.order.pages in
    let page = c.self.inside.page in
    let place = c.self.inside.place in
    let there = c.if-self-page in
    let known = IsOrdered-stored g.K.Key.number c.held.invariant.0 c.held.view_is in
    let size = ap (λ (s : HeldState). get_or s.order.pages page 0) c.held.view_is in
    let count = ap (λ (s : HeldState). length s.order.pages) c.held.view_is in
    let filled = subst AreFilled (ap (λ (s : HeldState). s.order.pages) c.held.view_is) c.lemma_is_ordered.ensures.filled in
    let next : IsNext pages (rank_at pages page place) there.self-inside.page there.self-inside.place × (there.self-inside.held ≡ c.self.inside.held) =
    elim c.if-self-page.branch [
      | then-self-page+else-self-pages w ↦
          rw w.self-inside-is (
            IsNext-turned pages page place filled c.self.invariant.0
                (λ last. w.if-self-pages.false (last ∙ sym count ∙ sym w.pages.ensures)) (omega (arith, w.if-self-page.true, c.page.ensures.len, size)),
            refl,
          )
      | else-self-page w ↦
          rw w.self-inside-is (
            IsNext-here pages page place c.self.invariant.0 c.self.invariant.1
                (λ end. w.if-self-page.false (end ∙ sym size ∙ sym c.page.ensures.len)),
            refl,
          )
    ] in
    let total = ap (λ (s : HeldState). sum s.order.pages) c.held.view_is in
    let shown = c.page-2.ensures.numbers ∙
    ap (λ (s : HeldState). take (get_or s.order.pages there.self-inside.page 0)
    (drop (sum (take there.self-inside.page s.order.pages)) (numbers_in s.order.items))) c.held.view_is in (
      next.0,
      next.1,
      omega (arith, total, c.lemma_is_ordered.ensures.paged, len-view known (ap (λ (s : HeldState). s.order) c.held.view_is)),
      number-next next.0 (numbers_in s.order.items) c.page-2.result.now shown,
    )

pub entry_of-requires : goal.entry_of-requires
entry_of-requires g c =
    let known = IsOrdered-stored g.K.Key.number c.held.invariant.0 c.held.view_is in
    let next = next_at g c in
    record { number = next-numbered next.0 known next.2 (get_or c.page-2.result.now c.if-self-page.self-inside.place 0) next.3 }

pub returns-clause-steps : goal.returns-clause-steps
returns-clause-steps g c =
    let known = IsOrdered-stored g.K.Key.number c.held.invariant.0 c.held.view_is in
    let next = next_at g c.before in
    let has = c.entry_of.ensures.address in
    rw next.1
    (sym c.self.view_is
    ∙ next-entries next.0 known next.2 g.K.Key.number c.entry_of.result (get_or c.page-2.result.now c.if-self-page.self-inside.place 0) next.3 has
    (c.entry_of.ensures.group (g.K.Key.number c.entry_of.result.address) has))

pub returns-clause-goes : goal.returns-clause-goes
returns-clause-goes g c =
    record {
      on = λ finite. (tt, tt, one_fewer _ _ _ (returns-clause-steps g c));
      keeps = tt;
      rests = λ finite. tt;
    }
