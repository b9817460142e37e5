-- The storage of groups, as a contract sees it.
use Rattle.std.specs.Prelude.{ℕ, ◌+◌, ◌-◌, ◌≡◌, ◌⊎◌, Bool, true, nat_le, if◌then◌else◌, List, [], ◌∷◌, map as list_map, Option, refl}
use Rattle.std.specs.Coded.{Coded, code_by, coded×, coded_ℕ, coded_list, coded_option}
use Rattle.std.specs.List.{Contains}
use Rattle.std.specs.Ordering.{nat_cmp}
use Rattle.std.specs.FinMap as map
use Rattle.std.specs.FinMap.{FinMap}
use Rattle.mq_sets.specs.Ascending.{set_of}
use Rattle.mq_sets.specs.NumberedKeys.{NumberedKey, NumberedKeysState, key_in}
use Rattle.mq_sets.specs.Pools.{cells_reserved}
use Rattle.mq_table.specs.Group.{is_vacant}
use Rattle.mq_table.specs.declared.timers.FilterMode.{FilterMode}
use Rattle.mq_table.specs.declared.timers.SourceTimer.{SourceTimer}
use Rattle.mq_sched.specs.Schedule.{ScheduledGroup}
use Rattle.mq_sched.specs.declared.queries.QuerySchedule.{QuerySchedule}
use Rattle.mq_held.specs.Groups.{Groups, group_at, sources_in}

-- The groups, the order of their addresses, and two numbers of sources. `order` has the number of each group, and how
-- many there may be. `source_room` is the most sources that they may have together. `ahead` is the number of sources
-- that can be written before the rows are packed.
pub record HeldState : Type 0 where
  pub groups : Groups
  pub order : NumberedKeysState
  pub source_room : ℕ
  pub ahead : ℕ

-- no groups
abbrev pub empty_state : (groups sources : ℕ) → HeldState
empty_state groups sources = record {
  groups = map.empty;
  order = record { items = []; pages = 0 ∷ []; room = groups };
  source_room = sources;
  ahead = cells_reserved groups sources;
}

-- the group of this address is held, and has this number
pub record HasNumber (s : HeldState) (address number : ℕ) : Type 0 where
  pub is : Contains s.order.items (record { number = number; key = address })

-- some group has this number
abbrev pub IsNumber : HeldState → ℕ → Type 0
IsNumber s number = set_of (λ x. x.number) s.order.items number ≡ true

-- The number of sources that fit before the rows are packed, after a group's sources were written. If they are more than
-- before, they were written at the end. `had` and `has` are its numbers of sources. It is `ahead_after` of the rows.
abbrev pub ahead_with : HeldState → (had has : ℕ) → ℕ
ahead_with s had has =
    if nat_le has had then s.ahead
    else if nat_le has s.ahead then s.ahead - has
    else cells_reserved s.order.room s.source_room - (sources_in s.groups - had + has)

-- The sources moved and groups looked at, if a group's sources are replaced so. They are its own sources. If the rows
-- are packed, they are also those of the other groups, and each group that has a moment then. It is `moved_for` of the
-- rows.
abbrev pub moved_by_packing : (named : ℕ) → HeldState → (had has : ℕ) → ℕ
moved_by_packing named s had has =
    if nat_le has had then has
    else if nat_le has s.ahead then has
    else has + (sources_in s.groups - had + named)

-- A group's sources are written, with this number of moves. `had` and `has` are its numbers of sources, and `own` of them
-- are written if they stay where they are. `ahead` sources can be written before the rows are packed then, and `named`
-- groups have a moment. It is `IsReplaced` of the rows.
pub record IsRowWritten (s : HeldState) (had has own named ahead moved : ℕ) : Type 0 where
  pub how : ((ahead ≡ s.ahead) × (moved ≡ own)) ⊎ ((ahead ≡ ahead_with s had has) × (moved ≡ moved_by_packing named s had has))

-- the group of a number is INCLUDE without sources
abbrev pub is_vacant_at : HeldState → ℕ → Bool
is_vacant_at s number = is_vacant (group_at s.groups (key_in s.order.items number)).group

-- the numbers of all groups, by ascending address
abbrev pub numbers_of : HeldState → List ℕ
numbers_of s = list_map (λ x. x.number) s.order.items

-- the codes of its parts, by which proofs distinguish groups with their schedules
abbrev pub scheduled_code : Coded FilterMode → Coded SourceTimer → Coded QuerySchedule → Coded ScheduledGroup
scheduled_code mode timer query =
    let timers = map.code coded_ℕ timer in
    let moment = coded_option coded_ℕ in
    code_by (((FilterMode × FinMap nat_cmp SourceTimer) × (Option ℕ × Option ℕ)) × (Option QuerySchedule × Option ℕ))
    (coded× (coded× (coded× mode timers) (coded× moment moment)) (coded× (coded_option query) moment))
    (λ e. (((e.group.mode, e.group.sources), (e.group.v1, e.group.v2)), (e.schedule.group_query, e.schedule.sources_due)))
    (λ p. record {
      group = record { mode = p.0.0.0; sources = p.0.0.1; v1 = p.0.1.0; v2 = p.0.1.1 };
      schedule = record { group_query = p.1.0; sources_due = p.1.1 };
    })
    (λ _. refl)

abbrev pub item_code : Coded NumberedKey
item_code = code_by (ℕ × ℕ) (coded× coded_ℕ coded_ℕ) (λ x. (x.number, x.key)) (λ p. record { number = p.0; key = p.1 }) (λ _. refl)

abbrev pub order_code : Coded NumberedKeysState
order_code =
    code_by (List NumberedKey × (List ℕ × ℕ)) (coded× (coded_list item_code) (coded× (coded_list coded_ℕ) coded_ℕ))
    (λ s. (s.items, (s.pages, s.room)))
    (λ p. record { items = p.0; pages = p.1.0; room = p.1.1 })
    (λ _. refl)

abbrev pub held_code : Coded FilterMode → Coded SourceTimer → Coded QuerySchedule → Coded HeldState
held_code mode timer query =
    code_by ((Groups × NumberedKeysState) × (ℕ × ℕ))
    (coded× (coded× (map.code coded_ℕ (scheduled_code mode timer query)) order_code) (coded× coded_ℕ coded_ℕ))
    (λ s. ((s.groups, s.order), (s.source_room, s.ahead)))
    (λ p. record { groups = p.0.0; order = p.0.1; source_room = p.1.0; ahead = p.1.1 })
    (λ _. refl)
