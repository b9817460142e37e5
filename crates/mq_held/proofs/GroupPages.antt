-- The groups by the pages of their order: the rank of what stands at a place of a page, and the entries from there on.
use Rattle.mq_held.proofs.Common.{ℕ, ◌+◌, ◌<◌, ◌≤◌, ◌≡◌, List, ◌∷◌, length, get_or, take, drop, sum, sym, ap, ◌∙◌, arith, get_or-take, get_or-drop, take_all}
use Rattle.mq_held.proofs.Common.{sum_by_more, sum_by_more_le, AreFilled, timers_in, ScheduledGroup, group_at, HeldState, HasNumber, IsNumber, entry_in}
use Rattle.mq_held.proofs.Common.{entries_from, rank_at}
use Rattle.std.specs.FinMap as map
use Rattle.mq_held.specs.declared.held_group.HeldGroup.{HeldGroup}
use Rattle.mq_held.proofs.{HeldInOrder.entry_next, KeysByNumber.numbers_in, GroupsInOrder.IsOrdered, GroupsInOrder.rank-is, GroupsInOrder.number-at_rank}

-- the first place of the next page follows the last place of a page
rank-more : (pages : List ℕ) (page : ℕ) → page < length pages → rank_at pages (page + 1) 0 ≡ rank_at pages page (get_or pages page 0)
rank-more pages page within = omega (arith, sum_by_more (λ n. n) pages page 0 within)

pub rank-end : (pages : List ℕ) (page place : ℕ) → page + 1 ≡ length pages → place ≡ get_or pages page 0 → rank_at pages page place ≡ sum pages
rank-end pages page place last is =
    omega (arith, is, sum_by_more (λ n. n) pages page 0 (omega (arith, last)), ap sum (take_all (page + 1) pages (omega (arith, last))))

-- a place that has a number, and its rank
pub record IsNext (pages : List ℕ) (rank page place : ℕ) : Type 0 where
  pub page_in : page < length pages
  pub place_in : place < get_or pages page 0
  pub rank_is : rank_at pages page place ≡ rank

pub IsNext-turned : (pages : List ℕ) (page place : ℕ) → AreFilled pages → page < length pages → (page + 1 ≡ length pages → ⊥) →
    place ≡ get_or pages page 0 → IsNext pages (rank_at pages page place) (page + 1) 0
IsNext-turned pages page place filled within other is =
    let next : page + 1 < length pages = omega (arith, within, other) in
    record {
      page_in = next;
      place_in = filled.none_empty (omega (arith, next)) (page + 1) 0 next;
      rank_is = rank-more pages page within ∙ ap (rank_at pages page) (sym is);
    }

pub IsNext-here : (pages : List ℕ) (page place : ℕ) → page < length pages → place ≤ get_or pages page 0 → (place ≡ get_or pages page 0 → ⊥) →
    IsNext pages (rank_at pages page place) page place
IsNext-here pages page place within upto other =
    record { page_in = within; place_in = omega (arith, upto, other); rank_is = omega arith }

module _ {pages : List ℕ} {rank page place : ℕ} (next : IsNext pages rank page place) where
  pub rank-below : rank < sum pages
  rank-below = omega (arith, next.place_in, next.rank_is, sum_by_more_le (λ n. n) pages page 0 next.page_in)

  -- the number that stands there
  pub number-next : (ns shown : List ℕ) → shown ≡ take (get_or pages page 0) (drop (sum (take page pages)) ns) → get_or ns rank 0 ≡ get_or shown place 0
  number-next ns shown is =
      ap (λ k. get_or ns k 0) (sym next.rank_is)
      ∙ sym (ap (λ xs. get_or xs place 0) is
      ∙ get_or-take (get_or pages page 0) (drop (sum (take page pages)) ns) place 0 next.place_in
      ∙ get_or-drop (sum (take page pages)) ns place 0)

  -- is that of a group, which stands first among those from there on
  module _ {s : HeldState} (known : IsOrdered s) (all : sum pages ≡ map.len s.groups) where
    rank-in : rank < map.len s.groups
    rank-in = omega (arith, rank-below, all)

    pub next-numbered : (n : ℕ) → get_or (numbers_in s.order.items) rank 0 ≡ n → IsNumber s n
    next-numbered n at = number-at_rank known n rank rank-in at

    pub next-entries : {K : Type 0} (number : K → ℕ) (h : HeldGroup K) (n : ℕ) → get_or (numbers_in s.order.items) rank 0 ≡ n → HasNumber s (number h.address) n
        → ◌≡◌ {A = ScheduledGroup}
        (record { group = record { mode = h.mode; sources = timers_in number h.sources.now; v1 = h.v1; v2 = h.v2 }; schedule = h.schedule })
        (group_at s.groups (number h.address))
        → entries_from rank s.groups ≡ entry_in number h ∷ entries_from (rank_at pages page (place + 1)) s.groups
    next-entries number h n at has is =
        entry_next s.groups (number h.address) rank _ (rank-is known (number h.address) n rank rank-in at has) is
        ∙ ap (λ k. entry_in number h ∷ entries_from k s.groups) (omega (arith, next.rank_is))
