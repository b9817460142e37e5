-- A tree of deadlines: its nodes by their numbers. With n deadlines the nodes from n to 2n - 1 are its leaves. Below
-- each other node i stand the nodes 2i and 2i + 1.
use Rattle.std.specs.Prelude.{ℕ, zero, suc, ◌+◌, ◌-◌, ◌*◌, ◌/◌, ◌<◌, ◌≤◌, ◌≡◌, ◌==◌, ◌&&◌, Bool, true, false, if◌then◌else◌, List, length, slice_index, slice_index_or, nat_lt, nat_le, not}

-- a tree, as a contract sees it: the deadline of each node, the number of leaves, and the number that memory was
-- reserved for
pub record TreeState : Type 0 where
  pub nodes : List ℕ
  pub count : ℕ
  pub room : ℕ

-- a node has the deadline of its left child, or of its right child, and that is the earlier one
abbrev pub HasEarlier : List ℕ → ℕ → Bool → Type 0
HasEarlier nodes node true =
    (slice_index nodes node ≡ slice_index nodes (2 * node)) × (slice_index nodes (2 * node) ≤ slice_index nodes (2 * node + 1))
HasEarlier nodes node false =
    (slice_index nodes node ≡ slice_index nodes (2 * node + 1)) × (slice_index nodes (2 * node + 1) ≤ slice_index nodes (2 * node))

-- the child that has the node's deadline, by the side that is given, and the other child
abbrev pub first_below : List Bool → ℕ → ℕ
first_below lefts node = if slice_index_or lefts node false then 2 * node else 2 * node + 1

abbrev pub second_below : List Bool → ℕ → ℕ
second_below lefts node = if slice_index_or lefts node false then 2 * node + 1 else 2 * node

-- a node has the deadline of its child other than this one
abbrev pub keeps_other : List Bool → ℕ → ℕ → Bool
keeps_other lefts node below = not (first_below lefts node == below)

-- each node above the leaves, except perhaps one, has the earlier of the two deadlines below it
pub record IsTreeBut (nodes : List ℕ) (lefts : List Bool) (but : ℕ) : Type 0 where
  pub size : length nodes ≡ 2 * length lefts
  pub each : (node : ℕ) → 1 ≤ node → node < length lefts → (node ≡ but → ⊥) → HasEarlier nodes node (slice_index_or lefts node false)

-- a node's parent has the deadline of the other child, if its side says so
abbrev pub KeepsOther : List ℕ → List Bool → ℕ → Type 0
KeepsOther nodes lefts node =
    (first_below lefts (node / 2) ≡ node → ⊥) → slice_index nodes (node / 2) ≡ slice_index nodes (first_below lefts (node / 2))

-- The nodes written after a node's deadline has changed. They are the nodes above it, up to the first that had the
-- deadline of its other child and has it still. `before` and `after` are the sides of all nodes.
unfoldable pub written_above : (before after : List Bool) → ℕ → ℕ → ℕ
written_above before after zero node = 0
written_above before after (suc levels) node =
    if nat_le node 1 then 0
    else (if keeps_other before (node / 2) node && keeps_other after (node / 2) node then 0
    else 1 + written_above before after levels (node / 2))

-- this moment is the earliest of the leaves' deadlines
pub record IsEarliestLeaf (nodes : List ℕ) (count moment : ℕ) : Type 0 where
  pub leaf : (leaf : ℕ) × (count ≤ leaf) × (leaf < 2 * count) × (slice_index nodes leaf ≡ moment)
  pub least : (leaf : ℕ) → count ≤ leaf → leaf < 2 * count → moment ≤ slice_index nodes leaf

-- a leaf's deadline is at or before `now`
abbrev pub is_leaf_due : List ℕ → ℕ → ℕ → ℕ → Bool
is_leaf_due nodes count now leaf =
    nat_le count leaf && (nat_lt leaf (2 * count) && nat_le (slice_index nodes leaf) now)

-- a sum over the leaves at or below a node, down to a depth
unfoldable pub sum_to_depth : (ℕ → ℕ) → ℕ → ℕ → ℕ → ℕ
sum_to_depth f count zero node = f node
sum_to_depth f count (suc depth) node =
    if nat_lt node count then sum_to_depth f count depth (2 * node) + sum_to_depth f count depth (2 * node + 1) else f node

-- the sum over all leaves at or below a node; no leaf is deeper than there are leaves
unfoldable pub sum_below : (ℕ → ℕ) → ℕ → ℕ → ℕ
sum_below f count node = sum_to_depth f count count node

-- 1 for a leaf that is due, and 0 for any other node
abbrev pub one_if_due : List ℕ → ℕ → ℕ → ℕ → ℕ
one_if_due nodes now leaf node = if (node == leaf) && nat_le (slice_index nodes node) now then 1 else 0

-- The leaf whose deadline moves to a leaf, after one of `last + 1` leaves is given up. The later of the last two goes
-- to the leaf given up, and the earlier to the node above them.
abbrev pub leaf_before : ℕ → ℕ → ℕ → ℕ → ℕ
leaf_before last given_up later leaf =
    let here = if leaf == last then 4 * last + 1 - later else leaf in if here == given_up then later else here

-- the leaf to which the deadline of a leaf moves
abbrev pub leaf_after : ℕ → ℕ → ℕ → ℕ → ℕ
leaf_after last given_up later leaf =
    let here = if leaf == later then given_up else leaf in if here == (4 * last + 1 - later) then last else here
