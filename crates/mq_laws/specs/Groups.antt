-- Terms of the laws of groups.
use Rattle.std.specs.Prelude.{◌≡◌, ℕ, ◌≤◌, Bool, Option, None, Some}
use Rattle.std.specs.FinSet as set
use Rattle.mq_table.specs.declared.kind.Kind.{Kind}
use Rattle.mq_table.specs.declared.timing.Timing.{Timing}
use Rattle.mq_table.specs.Group.{GroupState, forwards_in}
use Rattle.mq_table.specs.Table.{NamedSources, TableRow, table_row_met, change_of}

-- a record that comes for a group, at a moment
pub record Arrival : Type 0 where
  pub timing : Timing
  pub now : ℕ
  pub group : GroupState
  pub kind : Kind
  pub named : NamedSources

abbrev pub table_row_for : Arrival → TableRow
table_row_for r = table_row_met r.timing r.now r.group r.kind r.named

-- the group after the record
abbrev pub group_after : Arrival → GroupState
group_after r =
    let change = change_of r.timing r.now r.group r.kind r.named in
    change.group

-- The group forwards a source after a record of this kind by two facts. They are whether the record names it, and
-- whether the group forwarded it before.
abbrev pub ForwardsAfter : Kind → (Bool → Bool → Bool) → Type 0
ForwardsAfter kind what =
    (r : Arrival) (s : ℕ) → r.kind ≡ kind →
    forwards_in (group_after r) s ≡ what (set.contains r.named s) (forwards_in r.group s)

-- the deadline is still there, and no later than before
abbrev pub IsNoLater : Option ℕ → Option ℕ → Type 0
IsNoLater None None = Unit {0}
IsNoLater (Some before) (Some after) = after ≤ before
IsNoLater None (Some after) = ⊥
IsNoLater (Some before) None = ⊥
