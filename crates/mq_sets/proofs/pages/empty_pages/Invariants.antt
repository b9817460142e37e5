use Rattle.mq_sets.proofs.Common.{◌≡◌, ◌+◌, ◌*◌, ◌≤◌, [], length, vec_capacity, All, bytes_for, item_bytes}
use denote.Builtin.{u16}
use Rattle.std.specs.contracts.vec.Vec as page
use Rattle.mq_sets.proofs.pages.empty_pages.Given as goal

abbrev pub invariant-loop : goal.invariant-loop
invariant-loop g l =
    let size = item_bytes (page.the_row u16 g.row.A g.A.Allocator) in
    All (λ page. (511 ≤ vec_capacity page) × (page.items ≡ [])) l.pages.items × (length l.pages.items ≡ l.counter) × (l.limit ≤ vec_capacity l.pages)
    × (g.M.VectorSource.less_than l.fn.memory ≤ g.M.VectorSource.less_than l.memory + (bytes_for size l.limit + l.counter * bytes_for 2 511))
