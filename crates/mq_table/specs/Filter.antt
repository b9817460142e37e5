-- The filter of a group: only what some sources send is forwarded, or all but what some send. RFC 3376 section 6.3, RFC
-- 3810 section 7.3. A group that isn't held forwards nothing: only what no source sends.
use Rattle.std.specs.Prelude.{ℕ, Bool, true, not, ◌&&◌, if◌then◌else◌, filter, Option}
use Rattle.std.specs.Bool.{beq}
use Rattle.std.specs.Ordering.{nat_cmp}
use Rattle.std.specs.FinMap as map
use Rattle.std.specs.FinSet as set
use Rattle.std.specs.FinSet.{FinSet}
use Rattle.mq_table.specs.Group.{GroupState, FilterMode, Include, Exclude, SourceTimer, is_include, is_running, is_stopped, timer_at}

pub record Filter : Type 0 where
  pub is_include : Bool
  pub sources : FinSet nat_cmp

-- The filter of a group in this mode names a source with this timer. INCLUDE names sources that run, EXCLUDE those that
-- are stopped.
abbrev pub names : FilterMode → Option SourceTimer → Bool
names Include timer = is_running timer
names (Exclude d) timer = is_stopped timer

abbrev pub filter_of : GroupState → Filter
filter_of g = record {
  is_include = is_include g.mode;
  sources = set.from_list (filter (λ s. names g.mode (timer_at g s)) (map.keys g.sources));
}

-- the filter of a group that isn't held
abbrev pub nothing : Filter
nothing = record { is_include = true; sources = set.empty }

-- the filter forwards what source s sends
abbrev pub forwards_by : Filter → ℕ → Bool
forwards_by f s = if f.is_include then set.contains f.sources s else not (set.contains f.sources s)

-- both filters have the same mode, and name the same sources
abbrev pub are_same : Filter → Filter → Bool
are_same a b = beq a.is_include b.is_include && (set.is_subset a.sources b.sources && set.is_subset b.sources a.sources)

-- two states of a group forward differently
unfoldable pub changes_filter : (before after : GroupState) → Bool
changes_filter before after = not (are_same (filter_of before) (filter_of after))
