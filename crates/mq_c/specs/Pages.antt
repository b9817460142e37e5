-- A page of the groups that a link holds, in memory of the caller.
use Rattle.std.specs.Prelude.{◌≡◌, ℕ, ◌+◌, ◌<◌, nat_le, if◌then◌else◌, List, ◌++◌, length, map as list_map, take, drop, Some}
use Rattle.std.specs.List.{flat_map}
use Rattle.std.specs.FinMap as map
use Rattle.mq_table.specs.declared.sources.Source.{Source}
use Rattle.mq_table.specs.declared.timers.SourceTimer.{SourceTimer}
use Rattle.mq_table.specs.Group.{group_deadline, deadline_of}
use Rattle.mq_sched.specs.Schedule.{ScheduledGroup}
use Rattle.mq_held.specs.Groups.{Groups, group_at, sources_of}
use Rattle.mq_held.specs.Places.{group_in}
use Rattle.mq_c.specs.declared.forms.Page.{Page}
use Rattle.mq_c.specs.Milliseconds.{deadline_or_none}

-- a held group with its address, and a source of it
abbrev pub Entry : Type 0
Entry = ℕ × ScheduledGroup

abbrev pub SourceEntry : Type 0
SourceEntry = ℕ × SourceTimer

-- groups and sources in the form of C, by a family's form of the address, the number of sources, and the deadlines
abbrev pub group_form : {G : Type 0} → (group_with : (address sources deadline v1 v2 : ℕ) → G) → Entry → G
group_form group_with e =
    group_with e.0 (sources_of e.1) (deadline_or_none (group_deadline e.1.group.mode)) (deadline_or_none e.1.group.v1) (deadline_or_none e.1.group.v2)

abbrev pub source_form : {S : Type 0} → (source_with : (address deadline : ℕ) → S) → SourceEntry → S
source_form source_with e = source_with e.0 (deadline_or_none (deadline_of (Some e.1)))

abbrev pub stored_form : {K S : Type 0} → (number : K → ℕ) → (source_with : (address deadline : ℕ) → S) → Source K → S
stored_form number source_with x = source_form source_with (number x.address, x.timer)

-- `count` groups from a place on, ascending
abbrev pub groups_from : Groups → (first count : ℕ) → List Entry
groups_from held first count = take count (drop first (map.entries held))

-- the sources of a group, ascending, and those of several groups, group by group
abbrev pub sources_of_entry : Entry → List SourceEntry
sources_of_entry e = map.entries e.1.group.sources

abbrev pub sources_of_entries : List Entry → List SourceEntry
sources_of_entries entries = flat_map sources_of_entry entries

-- The groups from a place on are at the front of the memory, `count` of them, each in the form of C. So are all of
-- their sources, `source_count` of them. The memory after them is unchanged.
pub record Shows {G S : Type 0} (group_form : Entry → G) (source_form : SourceEntry → S) (held : Groups) (first : ℕ) (old_groups new_groups : List G) (old_sources new_sources : List S) (count source_count : ℕ) : Type 0 where
  pub count_is : length (groups_from held first count) ≡ count
  pub source_count_is : length (sources_of_entries (groups_from held first count)) ≡ source_count
  pub groups_are : new_groups ≡ list_map group_form (groups_from held first count) ++ drop count old_groups
  pub sources_are : new_sources ≡ list_map source_form (sources_of_entries (groups_from held first count)) ++ drop source_count old_sources

-- A page. It has as many groups from that place on as there are, and as there is room for with all their sources.
pub record IsPage {G S : Type 0} (group_form : Entry → G) (source_form : SourceEntry → S) (held : Groups) (first : ℕ) (old_groups new_groups : List G) (old_sources new_sources : List S) (page : Page) : Type 0 where
  pub shows : Shows group_form source_form held first old_groups new_groups old_sources new_sources page.groups page.sources
  pub all_that_fit : first + page.groups < map.len held → page.groups < length old_groups
      → length old_sources < page.sources + sources_of (group_in held (first + page.groups))

-- One group. If it is held, it is written in the form of C, and so are its sources if there is room for all of them.
-- Otherwise the memory is unchanged.
pub record ShowsGroup {G S : Type 0} (group_form : Entry → G) (source_form : SourceEntry → S) (held : Groups) (address : ℕ) (old_group new_group : G) (old_sources new_sources : List S) (page : Page) : Type 0 where
  pub count_is : page.groups ≡ (if map.contains_key held address then 1 else 0)
  pub source_count_is : (let count = sources_of (group_at held address) in page.sources ≡ (if nat_le count (length old_sources) then count else 0))
  pub group_is : new_group ≡ (if map.contains_key held address then group_form (address, group_at held address) else old_group)
  pub sources_are : new_sources ≡ list_map source_form (take page.sources (map.entries (group_at held address).group.sources)) ++ drop page.sources old_sources
