-- Names that the proofs of this crate import from libraries and from its definitions.
pub use lib.Dec.{T}
pub use Rattle.std.proofs.Common.{[], ⊎_elim, ◌%◌, ◌&&◌, ◌*◌, ◌++◌, ◌+◌, ◌-◌, ◌/◌, ◌<◌, ◌==◌, ◌^◌, ◌||◌, ◌↔◌, ◌∙◌, ◌∷◌, ◌≡◌, ◌≢◌, ◌≤◌, ◌⊎◌, add-one, add-zero}
pub use Rattle.std.proofs.Common.{add_assoc, ap, append-nil, append_assoc, arith, Bool, cond, drop, eqb, Err, false, get_or, IfSome, if◌then◌else◌, inl, inr}
pub use Rattle.std.proofs.Common.{is_some, IsOk, leb, length, length-append, length-set, List, ltb, map, MatchOption, MatchResult, max, min, None, not, Ok}
pub use Rattle.std.proofs.Common.{OnOk, Option, refl, replicate, Result, rules, set, Some, subst, suc, sum, sym, take, true, vec_capacity, vec_len, zero}
pub use Rattle.std.proofs.Common.{zero-add, ℕ}
pub use Rattle.std.proofs.Math.Bool.{and-true, or-false}
pub use Rattle.std.proofs.Math.Nat.{div-div-eq-div-mul, le-max_left, le-max_right, max-le, mul-le-mul_left, mul-le-mul_right, pow-succ'}
pub use Rattle.std.proofs.lemmas.Bool.{and_parts, and_right, cases_eq, cases_lt, cond-false, cond-true, eq-eqb, eqb-false, eqb-true, false≢true, le-leb, le-ltb}
pub use Rattle.std.proofs.lemmas.Bool.{leb-false, leb-true, lt-leb, lt-ltb, ltb-false, ltb-true, ne_eqb, or_left, or_right, true≢false}
pub use Rattle.std.proofs.lemmas.Bool.Decides.{nat_tests}
pub use Rattle.std.proofs.lemmas.Grind.{common_steps}
pub use Rattle.std.proofs.lemmas.List.{drop_more, get_or-drop, get_or-map, get_or-set_other, get_or-set_same, get_or-take, get_or_default, length-map}
pub use Rattle.std.proofs.lemmas.List.{length-take, map-append, map_more, nil_from_length, take-append-le, take-take, take_all, take_more}
pub use Rattle.std.proofs.lemmas.List.Elements.{All-filter, All-head, All-push, All-tail, filter-append}
pub use Rattle.std.proofs.lemmas.List.Filters.{FiltersInPlace, FiltersInPlace-more_no, FiltersInPlace-more_set}
pub use Rattle.std.proofs.lemmas.List.Folds.{Any-from_list_any, list_any-append, list_any_at, list_any_more}
pub use Rattle.std.proofs.lemmas.List.Kept.{AllPairs-filter}
pub use Rattle.std.proofs.lemmas.List.Sums.{count_by-le-length, sum_by-append, sum_by-cons, sum_by-le-sum_by, sum_by-set}
pub use Rattle.std.specs.Bool.{beq, IsTrue, then_some}
pub use Rattle.std.specs.Cmp.{nat_cmp_total}
pub use Rattle.std.specs.FinMap.{find, FinMap, is_sorted, nat_cmp-IsAntisymmetric, put}
pub use Rattle.std.specs.FinMap.Entries.{below_all, by_order, find-put, find-where_key, is_some-find, is_sorted-put, same_entries, where_key}
pub use Rattle.std.specs.Int.{byte_at, from_be_bytes, to_be_bytes, w128}
pub use Rattle.std.specs.List.{All, Contains, count_by, filter_map, flat_map, list_any, refill, sum_by}
pub use Rattle.std.specs.Option.{option_and_then, option_map, option_map_or, option_or, unwrap_or}
pub use Rattle.std.specs.Ordering.{eq_by_cmp, is_lt, nat_cmp}
pub use Rattle.std.specs.Prelude.{filter, IsErrOf, map as list_map, slice_index}
pub use Rattle.std.specs.Result.{is_ok, result_ok}
pub use Rattle.mq_count.proofs.Spent.{Spends-join, Spends-join_within, Spends-none, Spends-within}
pub use Rattle.mq_count.specs.Spending.{Spends}
pub use Rattle.mq_count.specs.Streams.{counted_on}
pub use Rattle.mq_count.specs.declared.versions.OlderVersion.{OlderVersion}
pub use Rattle.mq_count.specs.declared.versions.OlderVersion.TheVariants.{V1, V2}
pub use Rattle.mq_sets.proofs.Ascents.{IsAscending-head, IsAscending-map, IsAscending-tail}
pub use Rattle.mq_sets.proofs.Bitlen.{bitlen-few, bitlen-le, bitlen-mono}
pub use Rattle.mq_sets.proofs.Cells.{is_cell, is_cell-other, is_cell-same, times-some}
pub use Rattle.mq_sets.proofs.Counted.{All-counted, length-counted, stands}
pub use Rattle.mq_sets.specs.Ascending.{IsAscending, item_with, set_of}
pub use Rattle.mq_sets.specs.Merging.{merged, merged_lists, number_of, paired}
pub use Rattle.mq_sets.specs.NumberedKeys.{AreFilled, IsSpotFor, key_in, moved_by_insert, NumberedKey, NumberedKeysState, rank_of}
pub use Rattle.mq_sets.specs.Search.{bitlen}
pub use Rattle.mq_sets.specs.Slots.{times}
pub use Rattle.mq_sets.specs.SourceSets.{SetState}
pub use Rattle.mq_sets.specs.declared.spots.Spot.{Spot}
pub use Rattle.mq_wire.specs.Canon.{canon, covered_before, first_bytes, source_count, without_checksum}
pub use Rattle.mq_wire.specs.Family.{address_width, Family, group_end, Igmp, Mld}
pub use Rattle.mq_wire.specs.Fields.{first_cut, number_at}
pub use Rattle.mq_wire.specs.Numbered.{numbered_message, numbered_query, numbered_record, numbered_version}
pub use Rattle.mq_wire.specs.Queries.{current_query, older_query, older_spans, query_of, query_spans, source_spans}
pub use Rattle.mq_wire.specs.Records.{auxiliary_length, record_at, record_count, record_end, record_source_count, record_spans, records_at, report_records}
pub use Rattle.mq_wire.specs.Records.{report_spans, spans_of_records}
pub use Rattle.mq_wire.specs.Spelling.{fault_of, group_of, message_of, spans_of, Spells, type_named, type_of}
pub use Rattle.mq_wire.specs.declared.message.Message.{Message}
pub use Rattle.mq_wire.specs.declared.message.Message.TheVariants.{Leave, Leave as LeaveMessage, OldReport, Query as AQuery, Query as QueryMessage, Report}
pub use Rattle.mq_wire.specs.declared.message.Message.TheVariants.{Report as ReportMessage}
pub use Rattle.mq_wire.specs.declared.message.WireFault.{WireFault}
pub use Rattle.mq_wire.specs.declared.query.Query.{Query}
pub use Rattle.mq_wire.specs.declared.query.QueryVersion.{QueryVersion}
pub use Rattle.mq_wire.specs.declared.query.QueryVersion.TheVariants.{Current, Older}
pub use Rattle.mq_wire.specs.declared.records.RecordView.{RecordView}
pub use Rattle.mq_table.proofs.Filters.{changes-at, changes-same, contains-filter_of, same_filter}
pub use Rattle.mq_table.proofs.Groups.{same_group, same_sources}
pub use Rattle.mq_table.proofs.Held.{get_of_empty, IsAnyGroup-change_of, IsAnyGroup-expired, IsWellFormed-change_of, IsWellFormed-group_lowered}
pub use Rattle.mq_table.proofs.Held.{IsWellFormed-older_report, IsWellFormed-sources_lowered}
pub use Rattle.mq_table.proofs.Maps.{find-entries_by, get-by_rule, get-kept}
pub use Rattle.mq_table.proofs.SourceLists.{get-found, len-timers_in}
pub use Rattle.mq_table.proofs.TableRows.{at_source_of, both, each_case, timer_then}
pub use Rattle.mq_table.specs.Expiry.{ahead, AllAhead, at_zero, expired, held_or_vacant, mode_expired, source_expired}
pub use Rattle.mq_table.specs.Filter.{are_same, Filter, filter_of, names, nothing}
unfoldable pub use Rattle.mq_table.specs.Filter.{changes_filter}
pub use Rattle.mq_table.specs.Group.{deadline_of, forwards_in, group_deadline, GroupState, is_ahead, is_include, is_running, is_stopped, is_vacant, IsAnyGroup}
pub use Rattle.mq_table.specs.Group.{IsWellFormed as IsHeld, running, retransmissions_of, stopped, timer_at, vacant}
pub use Rattle.mq_table.specs.Lowering.{lowered_by_query, lowered_to, mode_lowered, source_lowered, sources_lowered}
pub use Rattle.mq_table.specs.Maps.{by_rule, entries_by, kept, with_entry}
pub use Rattle.mq_table.specs.MergedRecord.{item_is_stopped, keeps_unnamed, takes_none_away}
unfoldable pub use Rattle.mq_table.specs.MergedRecord.{LooksByHalves}
pub use Rattle.mq_table.specs.OlderHosts.{hosts_of, older_host, older_report, translated, translated_change, with_sources}
pub use Rattle.mq_table.specs.Retransmissions.{above, has_retransmissions, retransmissions_counted, some_source, source_asked, source_cleared, source_counted}
pub use Rattle.mq_table.specs.Sets.{∅, Set}
pub use Rattle.mq_table.specs.Stored.{named_in, number_in, size_of, StoredGroup, timers_in}
pub use Rattle.mq_table.specs.Table.{change_of, GroupChange, NamedSources, table_row}
pub use Rattle.mq_table.specs.Timing.{last_member_count, membership_interval, query_interval}
pub use Rattle.mq_table.specs.Variables.{AreInRange, IsWithin}
pub use Rattle.mq_table.specs.declared.kind.Kind.{Kind}
pub use Rattle.mq_table.specs.declared.kind.Kind.TheVariants.{Allow, Block, IsEx, IsIn, ToEx, ToIn}
pub use Rattle.mq_table.specs.declared.older_hosts.Hosts.{Hosts}
pub use Rattle.mq_table.specs.declared.sources.Source.{Source}
pub use Rattle.mq_table.specs.declared.timers.FilterMode.{FilterMode}
pub use Rattle.mq_table.specs.declared.timers.FilterMode.TheVariants.{Exclude, Include}
pub use Rattle.mq_table.specs.declared.timers.SourceTimer.{SourceTimer}
pub use Rattle.mq_table.specs.declared.timers.SourceTimer.TheVariants.{Running, Stopped}
pub use Rattle.mq_table.specs.declared.timing.Timing.{Timing}
pub use Rattle.mq_sched.proofs.Asked.{some_source-from, some_source-gives, timer_at-sources_asked}
pub use Rattle.mq_sched.proofs.Collecting.{Sends-append}
pub use Rattle.mq_sched.proofs.Fits.{fits_acted, fits_after_expiry, fits_after_record, fits_after_round, fits_cleared, retransmissions_before}
pub use Rattle.mq_sched.proofs.Rounds.{deadlines_stay, quiet_after_round, quiet_by, quiet_is_silent, same_count, same_round, timer_at-after_round}
pub use Rattle.mq_sched.proofs.StayHeld.{held_acted, held_after_round, held_cleared}
pub use Rattle.mq_sched.specs.Announcement.{IsCarried}
pub use Rattle.mq_sched.specs.Election.{adopted, after_general, deadline_ended, election_at, ElectionState, general_is_due, general_messages, heard, heard_or}
pub use Rattle.mq_sched.specs.Election.{is_querier, loses_role, next_moment, Other, Querier, returned, Role, ticked}
pub use Rattle.mq_sched.specs.Rounds.{AllFit, is_due_at, IsQuietAt}
pub use Rattle.mq_sched.specs.Schedule.{cleared, IsScheduleOf, no_schedule, ScheduledGroup, ScheduleState, settled}
pub use Rattle.mq_sched.specs.Sending.{acted, after_change, after_round, GeneralQuery, group_asked, group_counted, group_due, GroupQuery, is_due, messages_due}
pub use Rattle.mq_sched.specs.Sending.{SentQuery, sources_asked, sources_due_next, SourcesQuery}
pub use Rattle.mq_sched.specs.Sink.{Sends, SendsOn}
pub use Rattle.mq_sched.specs.declared.announced.Announced.{Announced}
pub use Rattle.mq_sched.specs.declared.queries.QuerySchedule.{QuerySchedule}
pub use Rattle.mq_held.proofs.AddedSources.{size-added}
pub use Rattle.mq_held.proofs.Amounts.{len-with_group, no_sources, own_sources, schedules-with_group, sources-with_group, total-entries, total-with}
pub use Rattle.mq_held.proofs.Amounts.{total-with_group, vacant_sources}
pub use Rattle.mq_held.proofs.DueInOrder.{few-running}
pub use Rattle.mq_held.proofs.RestartedEach.{each_passes, has_each-restarted, IsWellFormed-restarted_each, some_passes, timer-restarted, timer-restarted_each}
pub use Rattle.mq_held.proofs.RestartedEach.{one_item, timer-there}
pub use Rattle.mq_held.proofs.RestartedTimers.{insert-same}
pub use Rattle.mq_held.proofs.Sorted.{ascending-sorted, find_below, first, second, tied, ties, untied}
pub use Rattle.mq_held.specs.Groups.{group_at, if_running, kept_as, one_if, running_in, schedules_in, sources_of, unheld, without_vacant}
pub use Rattle.mq_held.specs.Held.{ahead_with, empty_state, HasNumber, HeldState, is_vacant_at, IsNumber, IsRowWritten, moved_by_packing}
pub use Rattle.mq_held.specs.Places.{addresses_due, due_in, has_due}
pub use Rattle.mq_held.specs.Restarted.{has_each, most_looked, most_set, restarted, restarted_each, some_stopped}
pub use Rattle.mq_link.specs.Applying.{CanApply, HasEffect}
pub use Rattle.mq_link.specs.Blocked.{blocks, CanBlock, has_older_hosts, has_schedule_left, is_block}
pub use Rattle.mq_link.specs.CallCosts.{ReceiveCosts, TickCosts}
pub use Rattle.mq_link.specs.Changing.{acts_as, change_written, statement_of}
pub use Rattle.mq_link.specs.Configuration.{as_fault, Configuration, else_fault, is_allowed, is_outside, IsFaultless, IsWithinRoom, limit_fault, timing_fault}
pub use Rattle.mq_link.specs.Cost.{cost_by, cost_of, least_length, own_cost, record_cost, search_cost, work_cost}
pub use Rattle.mq_link.specs.Counters.{Applied, count_dropped, count_verdict, count_verdicts, counted_at, Counters, Denied, Ignored, is_applied, is_ignored}
pub use Rattle.mq_link.specs.Counters.{is_refused, reason_number, refusal_number, Refused, Verdict}
pub use Rattle.mq_link.specs.Events.{answers_of, event_of, HasRun, left_by, messages_of}
pub use Rattle.mq_link.specs.Family.{general_destination, greatest_response, is_admitted, is_router_address, per_query, response_unit, v1_mutes_leave}
pub use Rattle.mq_link.specs.Forwarding.{AreThose, changed_by_all, changed_by_message, changed_by_read, changed_by_tick, changes}
pub use Rattle.mq_link.specs.Handing.{FitsOne, HandsAll, HandsOver, KeepsIntervals, outgoing_on, Terms}
pub use Rattle.mq_link.specs.Heard.{announced_by, asked_by, election_after, group_lowered, groups_heard, query_heard, some_named, suppresses}
unfoldable pub use Rattle.mq_link.specs.Heard.{groups_cleared, groups_lowered}
pub use Rattle.mq_link.specs.Judging.{verdict_of}
pub use Rattle.mq_link.specs.LeastCost.{least_after, least_all, least_alone, least_by, least_judged, least_merge, least_of, least_received, least_search}
pub use Rattle.mq_link.specs.LeastCost.{least_stated, least_ticked, least_unless, least_work}
pub use Rattle.mq_link.specs.Link.{HasReceived, HasTicked, LinkValue}
pub use Rattle.mq_link.specs.Moved.{HasMoved, IsPaid, most_moved, most_moved_by_tick, moved_by_edit, moves_by, MovesWithin, own_moves, record_moves}
pub use Rattle.mq_link.specs.Reading.{IsCarriedIn, most_records, numbered_read, records_in}
pub use Rattle.mq_link.specs.Receive.{count_read, counting_read, drop_reason, Envelope, envelope_tests, message_in, pseudo_of, Receipt, receipt_after}
pub use Rattle.mq_link.specs.Receive.{receipt_of, setting_of, taken, taken_or_dropped, unless_faulty, with_outcomes}
unfoldable pub use Rattle.mq_link.specs.Receive.{read_of, taken_in}
pub use Rattle.mq_link.specs.Record.{after_sending, all_judged, asking_nothing, change_in, change_stated, changed_by, changed_or_refused, Entrance, entrance}
pub use Rattle.mq_link.specs.Record.{entrance_as, GoesOn, is_exclude_kind, is_muted, is_repeated, judged_from, kind_named, leaving, limit_passed}
pub use Rattle.mq_link.specs.Record.{limit_passed_by, met, OlderJoin, OlderJoin as StatesJoin, OlderLeave, OlderLeave as StatesLeave, Outcome, Outcomes}
pub use Rattle.mq_link.specs.Record.{RecordOf, Seen, seen_after, seen_by, sent_at_once, Setting, stated_alone, Statement, Stops, unless_passed}
unfoldable pub use Rattle.mq_link.specs.Record.{judged, stated}
pub use Rattle.mq_link.specs.Refreshed.{is_restart, most_asked, most_blocked, most_changed, most_copied, most_hosts, most_merged, most_started, most_tried}
pub use Rattle.mq_link.specs.Refreshed.{restarts}
pub use Rattle.mq_link.specs.Router.{HasOutcome, HasReceipt, HasStep, IsStored, Leaves, link_of, router_of, RouterValue, silent_step, state_of}
pub use Rattle.mq_link.specs.Run.{answer_to, answered, Datagram, Event, events_of, HandsOut, Happening, Happens, RunFrom, step_of, Tick}
pub use Rattle.mq_link.specs.Seen.{AreListed, AreMarked, AreMet, AreNone, counted_again, KeepsNumbers, met_in}
pub use Rattle.mq_link.specs.Sender.{begun, TakesQuery, tally_of}
pub use Rattle.mq_link.specs.Sent.{fields_sent, Outgoing, outgoing_of, query_with}
pub use Rattle.mq_link.specs.Serving.{AreServed, IsServed}
pub use Rattle.mq_link.specs.Sound.{AreSound}
pub use Rattle.mq_link.specs.State.{AreWithin, Groups, held_of, IsHeldAs, IsSilent, IsSourceSpecific, IsWellFormed, link_at, LinkState, sources_in, with_group}
pub use Rattle.mq_link.specs.Storage.{group_stored, has_counted, HasRoom, HasSpace, IsLookup, IsReady, KeepsRoom, KeepsRooms, KeepsSpace, put_by_rows}
pub use Rattle.mq_link.specs.Tests.{first_named}
pub use Rattle.mq_link.specs.Tick.{group_expired, if_held, least, moment_of, moments_in, moments_of, next_of, Step, those_of, tick_at, tick_of, waited}
unfoldable pub use Rattle.mq_link.specs.Tick.{groups_after_round, groups_expired, queries_due}
pub use Rattle.mq_link.specs.Workspace.{IsWorkspace, suffices, with_changed, WorkspaceState}
pub use Rattle.mq_link.specs.declared.answers.DropReason.{DropReason}
pub use Rattle.mq_link.specs.declared.answers.DropReason.TheVariants.{BadGroup, BadSource, Checksum, HopLimit, NoAlert, OlderQuery, OwnOrZero, QueryLength}
pub use Rattle.mq_link.specs.declared.answers.DropReason.TheVariants.{Truncated, UnknownType}
pub use Rattle.mq_link.specs.declared.answers.Received.{Received}
pub use Rattle.mq_link.specs.declared.answers.Received.TheVariants.{Dropped, Taken}
pub use Rattle.mq_link.specs.declared.answers.Refusal.{Refusal}
pub use Rattle.mq_link.specs.declared.answers.Refusal.TheVariants.{Groups as TooManyGroups, GroupSources, Long, Repeated, Scheduled, Sources}
pub use Rattle.mq_link.specs.declared.configuration.ConfigFault.{ConfigFault}
pub use Rattle.mq_link.specs.declared.configuration.ConfigFault.TheVariants.{LastMember, OwnAddress, QueryInterval, ResponseInterval, Robustness}
pub use Rattle.mq_link.specs.declared.configuration.Limits.{Limits}
pub use Rattle.mq_link.specs.declared.sender.Sender.{Sender}
pub use Rattle.mq_link.specs.declared.statement.StatementKind.{StatementKind}
pub use Rattle.mq_link.specs.declared.statement.StatementKind.TheVariants.{Record}
pub use Rattle.mq_link.specs.declared.status.QuerierContext.{QuerierContext}
pub use Rattle.mq_link.specs.declared.storage.Lists.{Lists}
pub use Rattle.mq_link.specs.declared.storage.Scratch.{Scratch}
pub use Rattle.mq_link.specs.declared.storage.Storage.{Storage}
