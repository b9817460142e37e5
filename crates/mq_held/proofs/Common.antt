-- Names that the proofs of this crate import from libraries and from its definitions.
pub use lib.Dec.{T}
pub use Rattle.std.proofs.Common.{[], ⊎_elim, ◌&&◌, ◌*◌, ◌++◌, ◌+◌, ◌-◌, ◌/◌, ◌<◌, ◌==◌, ◌^◌, ◌||◌, ◌∙◌, ◌∷◌, ◌≡◌, ◌≤◌, ◌⊎◌, add-one, ap, append-nil}
pub use Rattle.std.proofs.Common.{append_assoc, arith, Bool, cond, drop, false, get_or, IfSome, if◌then◌else◌, inl, inr, is_some, length, length-append, List}
pub use Rattle.std.proofs.Common.{ltb, map, min, None, not, Option, refl, rules, set, Some, subst, suc, sum, sym, take, true, vec_capacity, zero, ℕ}
pub use Rattle.std.proofs.Math.Bool.{or-false}
pub use Rattle.std.proofs.Math.Nat.{mul-le-mul_left}
pub use Rattle.std.proofs.lemmas.Bool.{and_from, and_parts, cases_eq, cases_lt, cond-false, cond-true, eq-eqb, eqb-true, false≢true, le-leb, le-ltb, lt-ltb}
pub use Rattle.std.proofs.lemmas.Bool.{or_left, or_right, true≢false}
pub use Rattle.std.proofs.lemmas.Bool.Decides.{eqb_tells, nat_tests}
pub use Rattle.std.proofs.lemmas.Grind.{common_steps}
pub use Rattle.std.proofs.lemmas.List.{drop-drop, drop-set-lt, drop_all, drop_more, get_or-drop, get_or-map, get_or-replicate, get_or-set_other}
pub use Rattle.std.proofs.lemmas.List.{get_or-set_same, get_or-take, get_or_default, get_or_past, get_or_read, length-drop, length-map, length-replicate}
pub use Rattle.std.proofs.lemmas.List.{length-set, length-take, length-take-le, map-append, nil_from_length, same_lists, set-get_or, set-set, take-append-drop}
pub use Rattle.std.proofs.lemmas.List.{take_all, take_more, take_more_set}
pub use Rattle.std.proofs.lemmas.List.Concat.{flat_map-append, flat_map-cons}
pub use Rattle.std.proofs.lemmas.List.Elements.{All-cons, All-filter, All-head, All-map, All-nil, All-replicate, All-set, All-tail, All-weaker}
pub use Rattle.std.proofs.lemmas.List.Elements.{Contains-append_left, Contains-append_right, filter_more}
pub use Rattle.std.proofs.lemmas.List.Filters.{FiltersInPlace, FiltersInPlace-more_no, FiltersInPlace-more_set, length-filter_both}
pub use Rattle.std.proofs.lemmas.List.Folds.{Any-from_list_any, list_all-map, list_any-append, list_any_at, list_any_none}
pub use Rattle.std.proofs.lemmas.List.Kept.{AllPairs-filter}
pub use Rattle.std.proofs.lemmas.List.Sums.{AllPass-from_list_all, count_by-le-length, get_or-le-sum_by, length-filter, sum_by-append, sum_by-cons}
pub use Rattle.std.proofs.lemmas.List.Sums.{sum_by-insert, sum_by-set, sum_by_more, sum_by_more_le}
pub use Rattle.std.proofs.lemmas.Map.Views.{any-filter_same}
pub use Rattle.std.proofs.lemmas.Option.{get_or_from_slice_get, slice_get-get_or, slice_get-map, slice_get_within}
pub use Rattle.std.specs.Cmp.{nat_cmp_total, ranked}
pub use Rattle.std.specs.FinMap.{find, FinMap, is_sorted, nat_cmp-IsAntisymmetric}
pub use Rattle.std.specs.FinMap.Entries.{below_all, by_order, put, same_entries}
pub use Rattle.std.specs.List.{All, Contains, count_by, filter_map, flat_map, insert, list_all, list_any, remove, sum_by}
pub use Rattle.std.specs.Option.{option_and_then, option_map, option_map_or, option_to_list, unwrap_or}
pub use Rattle.std.specs.Ordering.{eq_by_cmp, is_eq, is_lt, nat_cmp}
pub use Rattle.std.specs.Prelude.{filter, map as list_map, MatchOption, nat_le, nat_lt, replicate, slice_get}
pub use Rattle.std.specs.declared.cmp.Ordering.{Ordering}
pub use Rattle.std.specs.declared.cmp.Ordering.TheVariants.{Equal, Greater, Less}
pub use Rattle.mq_count.proofs.Spent.{Spends-join, Spends-join_within, Spends-none, Spends-within}
pub use Rattle.mq_count.specs.Spending.{Spends}
pub use Rattle.mq_sets.proofs.Ascents.{above-eqb, below-eqb, filter-all, IsAscending-cons, IsAscending-head, IsAscending-map, IsAscending-tail}
pub use Rattle.mq_sets.proofs.Bitlen.{bitlen-le, bitlen-mono}
pub use Rattle.mq_sets.proofs.Cells.{is_cell, is_cell-other, is_cell-same, times-some}
pub use Rattle.mq_sets.proofs.Counted.{at_counted, length-counted, stands}
pub use Rattle.mq_sets.proofs.Found.{found_where_member, maps_each_number}
pub use Rattle.mq_sets.proofs.OneCell.{set-same}
pub use Rattle.mq_sets.proofs.Placing.{IsAscending-insert, set_of-found, set_of-insert}
pub use Rattle.mq_sets.proofs.Stored.{map-insert}
pub use Rattle.mq_sets.specs.Ascending.{IsAscending, item_with, set_of}
pub use Rattle.mq_sets.specs.NumberedKeys.{AreFilled, IsSpotFor, IsWithout, items_by, key_in, moved_by_insert, NumberedKey, NumberedKeysState, rank_of}
pub use Rattle.mq_sets.specs.Pools.{ahead_after, cells_in, cells_reserved, IsReplaced, moved_for, NamesRows, PoolState}
pub use Rattle.mq_sets.specs.Search.{bitlen, IsPlaceFor}
pub use Rattle.mq_sets.specs.Slots.{times}
pub use Rattle.mq_table.proofs.Asking.{all_asked, some_asked, stays}
pub use Rattle.mq_table.proofs.AskingOne.{asked_absent, asked_found}
pub use Rattle.mq_table.proofs.SourceLists.{get-absent, get-found, get-timers_in, len-timers_in}
pub use Rattle.mq_table.specs.AskedSources.{is_asked_above, source_if_asked}
pub use Rattle.mq_table.specs.Group.{deadline_of, group_deadline, GroupState, is_ahead, is_include, is_running, is_stopped, is_vacant, IsWellFormed}
pub use Rattle.mq_table.specs.Group.{retransmissions_of, timer_at}
pub use Rattle.mq_table.specs.Lowering.{lowered_to}
pub use Rattle.mq_table.specs.MadeSources.{item_counted}
pub use Rattle.mq_table.specs.RetransmissionPlaces.{item_has_retransmissions}
pub use Rattle.mq_table.specs.Retransmissions.{above, has_retransmissions, retransmissions_counted, some_source, source_asked, source_counted}
pub use Rattle.mq_table.specs.Stored.{number_in, size_of, state_of, timers_in}
pub use Rattle.mq_table.specs.Timing.{last_member_count}
pub use Rattle.mq_table.specs.declared.sources.Source.{Source}
pub use Rattle.mq_table.specs.declared.timers.FilterMode.{FilterMode}
pub use Rattle.mq_table.specs.declared.timers.FilterMode.TheVariants.{Exclude, Include}
pub use Rattle.mq_table.specs.declared.timers.SourceTimer.{SourceTimer}
pub use Rattle.mq_table.specs.declared.timers.SourceTimer.TheVariants.{Running, Stopped}
pub use Rattle.mq_sched.specs.Deadlines.{DeadlinesState, has_come, is_number_due, IsEarliestMoment}
pub use Rattle.mq_sched.specs.Schedule.{ScheduledGroup, ScheduleState}
pub use Rattle.mq_sched.specs.Sending.{after_round, group_due, GroupQuery, is_due, messages_due, SentQuery, waiting_messages}
pub use Rattle.mq_sched.specs.Sink.{Sends}
pub use Rattle.mq_held.specs.Groups.{group_at, Groups, if_running, one_if, running_in, schedules_in, schedules_of, sources_in, sources_of, unheld, vacant_in}
pub use Rattle.mq_held.specs.Groups.{with_group, without_vacant}
pub use Rattle.mq_held.specs.Held.{ahead_with, HasNumber, HeldState, is_vacant_at, IsNumber, IsRowWritten, moved_by_packing}
pub use Rattle.mq_held.specs.Listed.{entries_from, entry_in, rank_at}
pub use Rattle.mq_held.specs.Moments.{least, moments_in, moments_of, those_of}
pub use Rattle.mq_held.specs.Places.{addresses_due, due_in, group_in, has_due, HasPlace, min_or}
pub use Rattle.mq_held.specs.Restarted.{has_each, has_room, restarted, restarted_each, RestartsEach, some_stopped, StandsFrom}
pub use Rattle.mq_held.specs.Stored.{earliest_of, entries_of, entry_of, group_by, group_of, groups_by, IsStored, no_head, timer_moments}
pub use Rattle.mq_held.specs.declared.held_groups.HeldGroups.TheInside.{Inside}
pub use Rattle.mq_held.specs.declared.scheduled_head.ScheduledHead.{ScheduledHead}
