use Rattle.mq_sets.proofs.Common.{◌≡◌, ◌+◌, ◌≤◌, [], length, vec_capacity, All}
use Rattle.mq_sets.proofs.pages.Pages.clear.Given as goal

abbrev pub invariant-loop-page : goal.invariant-loop-page
invariant-loop-page g l =
    All (λ page. (511 ≤ vec_capacity page) × (length page.items ≤ 511)) l.self-inside.used.items
    × All (λ page. (511 ≤ vec_capacity page) × (page.items ≡ [])) l.self-inside.spare.items
    × (length l.self-inside.used.items + length l.self-inside.spare.items ≡ l.fn.self.limit)
    × (l.fn.self.limit ≤ vec_capacity l.self-inside.used)
    × (l.fn.self.limit ≤ vec_capacity l.self-inside.spare)

abbrev pub decreases-loop-page : goal.decreases-loop-page
decreases-loop-page g l = length l.self-inside.used.items
