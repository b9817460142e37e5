-- Names that the proofs of this crate import from libraries and from its definitions.
pub use Rattle.std.proofs.Common.{[], All, ap, append-nil, append_assoc, arith, Bool, cond, count_by, drop, drop-drop, drop_at, eq-eqb, eqb, eqb-true, false}
pub use Rattle.std.proofs.Common.{filter, get_or, get_or-drop, get_or-set_other, get_or-set_same, get_or-take, IfSome, if◌then◌else◌, inl, inr, is_some, IsSome}
pub use Rattle.std.proofs.Common.{le-leb, le-ltb, leb, leb-false, length, length-append, length-drop, length-set, length-take, length-take-le, List, lt-ltb}
pub use Rattle.std.proofs.Common.{ltb, ltb-false, ltb-true, map as list_map, map, MatchOption, min, nat_cmp, nat_le, ne_eqb, None, not, Option, option_and_then}
pub use Rattle.std.proofs.Common.{option_map, refl, rules, set, slice_index, slice_range, Some, subst, suc, sym, take, take-append-drop, take_all, take_at}
pub use Rattle.std.proofs.Common.{true, true≢false, zero, ℕ, ⊎_elim, ◌%◌, ◌&&◌, ◌*◌, ◌++◌, ◌+◌, ◌-◌, ◌/◌, ◌<◌, ◌==◌, ◌||◌, ◌∙◌, ◌∷◌, ◌≡◌, ◌≤◌, ◌⊎◌}
pub use Rattle.std.proofs.lemmas.Bool.{and_left, and_parts, and_right, cases_eq, cases_lt, cond-false, cond-true, eqb-false, false_from_ne_true, false≢true}
pub use Rattle.std.proofs.lemmas.{Bool.lt-leb, Bool.or_cases, Bool.or_left, Bool.or_right, Bool.Decides.nat_tests, Grind.common_steps}
pub use Rattle.std.proofs.lemmas.List.{drop_all, drop_more, get_or_append_left, get_or_default, get_or_past, get_or_push, get_or_read, length-map}
pub use Rattle.std.proofs.lemmas.List.{length-replicate, length_push, map-append, take_more_set, Elements.All-head, Elements.All-tail, Elements.filter-append}
pub use Rattle.std.proofs.lemmas.List.{Folds.fold-map, Folds.list_any_at, Sums.get_or-le-sum_by, Sums.sum_by-cons, Sums.sum_by-le, Sums.sum_by_push}
pub use Rattle.std.specs.{Cmp.nat_cmp_total, Cmp.unsigned_ties, FinMap.FinMap, List.concat, List.list_any, Ordering.eq_by_cmp}
pub use Rattle.mq_count.{proofs.Spent.Spends-join, proofs.Spent.Spends-join_within, proofs.Spent.Spends-none, proofs.Spent.Spends-within, specs.Spending.Spends}
pub use Rattle.mq_sets.{proofs.Bitlen.bitlen-half, proofs.Bitlen.bitlen-mono, proofs.Bitlen.bitlen-zero, specs.Search.bitlen}
pub use Rattle.mq_table.proofs.{Maps.find-entries_by, Maps.get-kept, Places.between_in_group, Places.or_none, Rows.any_in_row, Rows.filter_in_row}
pub use Rattle.mq_table.specs.Group.{deadline_of, GroupState, is_ahead, is_include, is_running, is_vacant, IsWellFormed, retransmissions_of, timer_at, vacant}
pub use Rattle.mq_table.specs.{Lowering.lowered_to, Lowering.mode_lowered, Timing.last_member_count, Timing.query_interval, Timing.startup_interval}
pub use Rattle.mq_table.specs.{Maps.entries_by, Maps.kept, Sets.Set, Sets.◌∖◌, Sets.◌∩◌, declared.timing.Timing.Timing}
pub use Rattle.mq_table.specs.Retransmissions.{above, has_retransmissions, retransmissions_counted, some_source, source_asked, source_cleared, source_counted}
pub use Rattle.mq_table.specs.declared.timers.SourceTimer.{SourceTimer, TheVariants.Running, TheVariants.Stopped}
pub use Rattle.mq_sched.specs.{Collected.goes_with, Collected.going_with, Rounds.AllFit, Rounds.asked_in, Rounds.asks_group, Rounds.is_due_at, Rounds.IsQuietAt}
pub use Rattle.mq_sched.specs.DeadlineTree.{first_below, HasEarlier, is_leaf_due, IsEarliestLeaf, IsTreeBut, keeps_other, KeepsOther, leaf_after, leaf_before}
pub use Rattle.mq_sched.specs.{DeadlineTree.one_if_due, DeadlineTree.second_below, DeadlineTree.TreeState, Sending.waiting_messages, Sink.Sends, Sink.SendsOn}
pub use Rattle.mq_sched.specs.Deadlines.{AreNumbered, DeadlinesState, has_come, is_number_due, IsEarliestMoment, moment_at, moments_at}
pub use Rattle.mq_sched.specs.Portions.{AllButLast, portions_of, portions_within}
pub use Rattle.mq_sched.specs.Schedule.{cleared, IsScheduleOf, query_sendings, QuerySchedule, ScheduledGroup, ScheduleState, settled}
pub use Rattle.mq_sched.specs.Sending.{acted, after_round, GeneralQuery, group_asked, group_counted, group_due, group_messages, GroupQuery, is_due}
pub use Rattle.mq_sched.specs.Sending.{messages_due, SentQuery, source_messages, sources_asked, sources_due_next, sources_queries, sources_where, SourcesQuery}
unfoldable pub use Rattle.mq_sched.specs.DeadlineTree.{sum_below, sum_to_depth, written_above}
