-- Records of hosts that still want the sources that they name, and the comparisons of statements by their kind.
use Rattle.std.specs.Prelude.{◌≡◌, ℕ, ◌+◌, ◌*◌, ◌==◌, Bool, true, false, if◌then◌else◌, List}
use Rattle.std.specs.FinMap as map
use Rattle.mq_sets.specs.Search.{bitlen}
use Rattle.mq_sched.specs.Rounds.{is_due_at}
use Rattle.mq_held.specs.Groups.{Groups, group_at}
use Rattle.mq_held.specs.Restarted.{has_each, most_looked}
use Rattle.mq_table.specs.declared.kind.Kind.{Kind}
use Rattle.mq_table.specs.AtSource.{named_effect, sets_anew}
use Rattle.mq_link.specs.declared.statement.StatementKind.{StatementKind}
use Rattle.mq_link.specs.Blocked.{is_block}
use Rattle.mq_link.specs.Changing.{effect_of}

-- a record of this kind sets the timers of its sources anew, leaves the others alone, and asks for nothing
abbrev pub restarts : Kind → Bool
restarts kind = sets_anew (named_effect kind)

-- the statement is a record that sets timers anew
abbrev pub is_restart : StatementKind → Bool
is_restart said = sets_anew (effect_of said)

-- The most comparisons to find whether older hosts mute a statement.
abbrev pub most_hosts : StatementKind → ℕ
most_hosts said = if is_restart said then 0 else 2

-- The statement changes nothing but timers. It is a record that sets timers anew. Its group is held, nothing is due for
-- it, and it has each of the named sources.
pub record IsHeardAgain (now : ℕ) (said : StatementKind) (sources : List ℕ) (groups : Groups) (address : ℕ) : Type 0 where
  pub again : is_restart said ≡ true
  pub held : map.contains_key groups address ≡ true
  pub quiet : is_due_at now (group_at groups address).schedule ≡ false
  pub there : has_each sources (group_at groups address) ≡ true

-- The most comparisons to find whether a statement can be applied where its group is stored. They find whether
-- something is due, and whether the group has the named sources.
abbrev pub most_tried : StatementKind → (sources named : ℕ) → ℕ
most_tried said sources named = if is_restart said then 2 + most_looked sources named else 0

-- The most comparisons to change a copy of the group. One named source is found by binary search.
abbrev pub most_merged : (sources named : ℕ) → ℕ
most_merged sources named = if named == 1 then bitlen sources else sources + named

abbrev pub most_changed : StatementKind → (sources named : ℕ) → ℕ
most_changed said sources named =
    if is_restart said then most_merged sources named
    else if is_block said then most_merged sources named + 2
    else sources + named + 2

-- the most comparisons to start the queries for sources, if there are any
abbrev pub most_started : (asked sources : ℕ) → ℕ
most_started asked sources = if asked == 0 then 0 else 2 * sources

-- the most comparisons to ask for the group and for sources; a record that sets timers anew asks for nothing
abbrev pub most_asked : StatementKind → (sources named : ℕ) → ℕ
most_asked said sources named = if is_restart said then 0 else 2 * (sources + named) + 1

-- the most comparisons of a statement on a copy
abbrev pub most_copied : StatementKind → (sources named groups : ℕ) → ℕ
most_copied said sources named groups =
    most_changed said sources named + most_asked said sources named + 3 * (sources + named) + 9 + bitlen groups

-- The most comparisons to find whether a BLOCK can be applied where its group is stored.
abbrev pub most_blocked : StatementKind → (sources named : ℕ) → ℕ
most_blocked said sources named = if is_block said then 4 + (if named == 1 then bitlen sources else 0) else 0
