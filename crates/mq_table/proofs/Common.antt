-- Names that the proofs of this crate import from libraries and from its definitions.
pub use Rattle.std.proofs.Common.{[], All, ap, append-nil, append_assoc, arith, Bool, cond, drop, drop-drop, drop-set-lt, eq-eqb, eqb, eqb-true, Err, false}
pub use Rattle.std.proofs.Common.{filter, filter_map, get_or, get_or-drop, IfSome, inl, inr, is_some, IsSome, length, length-append, length-drop, length-set}
pub use Rattle.std.proofs.Common.{length-take, List, lt-ltb, ltb, ltb-false, ltb-true, map as list_map, map, max, min, nat_cmp, ne_eqb, None, not, Ok, Option}
pub use Rattle.std.proofs.Common.{option_and_then, option_map, option_to_list, refl, Result, rules, set, Some, subst, suc, sym, T, take, take-add}
pub use Rattle.std.proofs.Common.{take-append-drop, take_all, true, true≢false, vec_capacity, zero, ℕ, ⊎_elim, ◌&&◌, ◌*◌, ◌++◌, ◌+◌, ◌-◌, ◌<◌, ◌==◌, ◌||◌, ◌∙◌}
pub use Rattle.std.proofs.Common.{◌∷◌, ◌≡◌, ◌≢◌, ◌≤◌}
pub use Rattle.std.proofs.{Math.Bool.or-false, Math.Bool.or-true, Math.Seq.map-set_same, lemmas.Grind.common_steps, lemmas.Option.none-some}
pub use Rattle.std.proofs.lemmas.Bool.{and_parts, cases_Bool, cases_lt, eqb-false, false≢true, not-false, not-true, or_cases, or_left, or_parts}
pub use Rattle.std.proofs.lemmas.{Bool.true_from_ne_false, Bool.Decides.eqb_tells, Bool.Decides.nat_tests, List.Folds.list_any-append, List.Folds.list_any_more}
pub use Rattle.std.proofs.lemmas.List.{drop-map, drop_all, drop_more, get_or_read, length-map, map-append, set-get_or, take-map, take_more, take_more_set}
pub use Rattle.std.proofs.lemmas.List.Elements.{All-drop, All-head, All-tail, All-take, at_read, filter_map-append}
pub use Rattle.std.specs.{Bool.beq, List.AllWithin, List.cons_option, List.copy_within, List.list_any, Ordering.eq_by_cmp}
pub use Rattle.std.specs.{Cmp.nat_cmp_total, Cmp.ranked, FinMap.find, FinMap.FinMap, FinMap.is_sorted, FinMap.nat_cmp-IsAntisymmetric, FinMap.same_map}
pub use Rattle.mq_count.proofs.Spent.{Spends-join, Spends-join_within, Spends-within}
pub use Rattle.mq_count.proofs.TimedMoments.{compared-here, compared-past, moments-few, moments-more}
pub use Rattle.mq_count.specs.{Spending.Spends, Timed.compared, Timed.lies_ahead, Timed.moments_by}
pub use Rattle.mq_sets.proofs.Ascents.{above-eqb, below-eqb, IsAscending-head, IsAscending-map, IsAscending-rest, IsAscending-tail, item_with-above}
pub use Rattle.mq_sets.proofs.{Bitlen.bitlen-few, Found.found_has_number, Found.found_where_member, Found.maps_each_number}
pub use Rattle.mq_sets.proofs.Rules.{IsAscending-filter_map, item_with-filter_map, rules_act_at_each_number, rules_keep_order}
pub use Rattle.mq_sets.specs.{Ascending.IsAscending, Ascending.item_with, Ascending.set_of, Rules.KeepsNumbers}
pub use Rattle.mq_sets.specs.Merging.{comparisons_along, left_of, merged, merged_lists, number_of, pair_of, paired, right_of}
pub use Rattle.mq_table.specs.{AskedSources.is_asked_above, AskedSources.is_first, AskedSources.source_if_asked, Timing.membership_interval}
pub use Rattle.mq_table.specs.AtSource.{asks_group_after, changes_mode, is_asked_after, mode_after, timer_after}
pub use Rattle.mq_table.specs.Expiry.{ahead, AllAhead, at_zero, expired, held_or_vacant, mode_expired, source_expired}
pub use Rattle.mq_table.specs.{Filter.are_same, Filter.Filter, Filter.filter_of, Filter.forwards_by, Filter.names, MadeSources.timer_runs_out}
pub use Rattle.mq_table.specs.Group.{deadline_of, Exclude, FilterMode, forwards_in, group_deadline, GroupState, Include, is_ahead, is_include, is_running}
pub use Rattle.mq_table.specs.Group.{is_stopped, is_vacant, IsAnyGroup, IsWellFormed, Running, running, retransmissions_of, SourceTimer, Stopped, stopped}
pub use Rattle.mq_table.specs.Group.{timer_at}
pub use Rattle.mq_table.specs.{Group.vacant, Stored.named_in, Stored.number_in, Stored.size_of, Stored.state_of, Stored.StoredGroup, Stored.timers_in}
pub use Rattle.mq_table.specs.Lowering.{group_lowered, lowered_to, mode_lowered, source_lowered, sources_lowered}
pub use Rattle.mq_table.specs.MadeSources.{item_counted, running_among, runs_out, source_left, source_lowered_at, source_recounted, timer_recounted}
pub use Rattle.mq_table.specs.{Maps.entries_by, Maps.with_entry, RetransmissionPlaces.item_has_retransmissions, RetransmissionPlaces.PassesBetween}
pub use Rattle.mq_table.specs.RetransmissionPlaces.{SendsBetween}
pub use Rattle.mq_table.specs.MergedRecord.{item_is_stopped, LeavesAlone, source_asked, source_made, source_turned, source_with, turns}
pub use Rattle.mq_table.specs.{Retransmissions.has_retransmissions, Retransmissions.source_cleared, Retransmissions.source_counted, declared.kind.Kind.Kind}
pub use Rattle.mq_table.specs.declared.timing.Timing.{Timing}
pub use Rattle.mq_table.specs.{Sets.Set, Sets.◌∪◌, Table.change_of, Table.NamedSources, Table.table_row, Table.table_row_met, Table.TableRow, Table.timer_by}
pub use Rattle.mq_table.specs.declared.kind.Kind.TheVariants.{Allow, Block, IsEx, IsIn, ToEx, ToIn}
pub use Rattle.mq_table.specs.declared.{rules.Rule.Rule, retransmissions.Recount.TheVariants.NoneLeft, retransmissions.Recount.TheVariants.OneFewer}
pub use Rattle.mq_table.specs.declared.sources.Source.{Source}
unfoldable pub use Rattle.mq_table.specs.{Filter.changes_filter, Maps.by_rule, Maps.kept, MergedRecord.LooksByHalves}
