-- Names that the proofs of this crate import from libraries and from its definitions.
pub use Rattle.std.proofs.Common.{[], ap, append-nil, arith, Bool, cond, count_by, drop, eqb, Err, false, filter, flat_map, is_lt, is_some, leb, length, List}
pub use Rattle.std.proofs.Common.{ltb, map as list_map, max, nat_cmp, nat_eq, nat_lt, None, not, Ok, Option, option_and_then, option_map, option_to_list, refl}
pub use Rattle.std.proofs.Common.{replicate, Result, rules, Some, subst, suc, sum_by, sym, T, take, true, unwrap_or, zero, ℕ, ◌&&◌, ◌++◌, ◌+◌, ◌-◌, ◌<◌, ◌||◌}
pub use Rattle.std.proofs.{Common.◌∙◌, Common.◌∷◌, Common.◌≡◌, lemmas.Bool.Decides.nat_tests, lemmas.List.Sums.sum_by-cons}
pub use Rattle.std.specs.{Cmp.nat_cmp_total, FinSet.members, FinSet.same_set, List.list_any, Ordering.eq_by_cmp}
pub use Rattle.std.specs.FinMap.{find, FinMap, gets, is_sorted, nat_cmp-IsAntisymmetric, Entries.below_all, Entries.by_order, Entries.same_entries}
pub use Rattle.mq_link.proofs.Known.{by_rule-known, Entries, entries-known, find-ordered, find-with_values, kept-known, kept_as, kept_in, keys-known, keys_of}
pub use Rattle.mq_link.proofs.Known.{len-known, ordered, ordered-known, ordered-with_values, remove-known, sorted-ordered, with_values, without}
pub use Rattle.mq_link.specs.{Configuration.Configuration, Configuration.is_allowed, Receive.taken_or_dropped, Receive.with_outcomes, Receive.with_state}
pub use Rattle.mq_link.specs.Counters.{Applied, count_answers, count_dropped, count_verdicts, Counters, Denied, Ignored, no_counts, Refused, Verdict}
pub use Rattle.mq_link.specs.{Family.per_query, Family.v1_mutes_leave, Forwarding.changed_by_tick, Sent.outgoing}
pub use Rattle.mq_link.specs.Receive.{count_read, drop_reason, Envelope, pseudo_of, reason_of_fault, Receipt, receipt_after, setting_of, taken}
pub use Rattle.mq_link.specs.Record.{after_sending, all_judged, alone, and_then, asking_nothing, change_stated, changed_or_refused, Entrance, entrance, GoesOn}
pub use Rattle.mq_link.specs.Record.{is_muted, judged_from, leaving, limit_passed, limit_passed_by, met, OlderJoin, OlderLeave, Outcome, Outcomes, RecordOf}
pub use Rattle.mq_link.specs.Record.{Seen, seen_by, sent_at_once, Setting, Statement, Stops, unless_passed}
pub use Rattle.mq_link.specs.State.{forwards, group_at, Groups, LinkState, one_if, schedules_of, sources_of, unheld, with_group}
pub use Rattle.mq_link.specs.Tick.{group_expired, if_held, least, moments_in, moments_of, next_of, Step, those_of, tick_of}
pub use Rattle.mq_link.specs.declared.answers.{DropReason.DropReason, Received.Received, Received.TheVariants.Dropped, Received.TheVariants.Taken}
pub use Rattle.mq_link.specs.declared.{answers.Refusal.Refusal, answers.Refusal.TheVariants.Repeated, configuration.Limits.Limits}
pub use Rattle.mq_pcap.specs.{Capture.Captured, declared.form.Form.Form}
pub use Rattle.mq_sched.specs.Election.{election_at, ElectionState, general_messages, is_querier, loses_role, next_moment, ticked}
pub use Rattle.mq_sched.specs.{Examples.the_group, Schedule.cleared, Schedule.no_schedule, Schedule.ScheduledGroup, Schedule.ScheduleState, Sending.SentQuery}
pub use Rattle.mq_sched.specs.Sending.{acted, after_change, after_round, GeneralQuery, group_asked, group_counted, group_due, GroupQuery, is_due, messages_due}
pub use Rattle.mq_sched.specs.{Sending.sources_asked, Sending.sources_due_next, Sending.sources_queries, declared.queries.QuerySchedule.QuerySchedule}
pub use Rattle.mq_table.proofs.{Groups.same_group, Maps.get-by_rule, Maps.get-kept, Maps.kept-from_entries, Maps.keys-from_entries}
pub use Rattle.mq_table.{proofs.Held.held_or_vacant-none, proofs.Held.held_or_vacant-some, specs.declared.kind.Kind.Kind, specs.declared.timing.Timing.Timing}
pub use Rattle.mq_table.specs.{Examples.default_timing, Examples.until, Table.change_of, Table.GroupChange, Table.table_row, Table.TableRow, Table.timer_by}
pub use Rattle.mq_table.specs.{Expiry.source_expired, Sets.Set, Sets.∅, Timing.last_member_count, Timing.membership_interval, Timing.older_host_present}
pub use Rattle.mq_table.specs.Group.{deadline_of, forwards_in, group_deadline, GroupState, is_ahead, is_include, is_running, is_stopped, is_vacant}
pub use Rattle.mq_table.specs.Group.{retransmissions_of}
pub use Rattle.mq_table.specs.{Group.vacant, Group.wants, Retransmissions.retransmissions_counted, Retransmissions.source_asked, Retransmissions.source_cleared}
pub use Rattle.mq_table.specs.Retransmissions.{source_counted}
pub use Rattle.mq_table.specs.{Lowering.lowered_by_query, Lowering.lowered_to, Lowering.mode_lowered, Lowering.source_lowered, Maps.by_rule, Maps.entries_by}
pub use Rattle.mq_table.specs.declared.kind.Kind.TheVariants.{Allow, Block, IsEx, IsIn, ToEx, ToIn}
pub use Rattle.mq_table.specs.declared.timers.FilterMode.{FilterMode, TheVariants.Exclude, TheVariants.Include}
pub use Rattle.mq_table.specs.declared.timers.SourceTimer.{SourceTimer, TheVariants.Running, TheVariants.Stopped}
pub use Rattle.mq_wire.specs.Family.{Family, Igmp, Mld}
pub use Rattle.mq_wire.specs.declared.{message.Message.Message, message.WireFault.WireFault, records.RecordView.RecordView}
pub use Rattle.mq_wire.specs.declared.message.Message.TheVariants.{Leave as LeaveMessage, OldReport, Query as QueryMessage, Report as ReportMessage}
pub use Rattle.mq_examples.specs.Groups.{at_1000, excluded, group_in, heard_v2, included, Leaves, naming}
pub use Rattle.mq_examples.specs.Links.{a_group, a_source, after, as_groups, as_held, as_link, BecomeAll, Becomes, Comes, counts_of, CountsTo, early, Forwards}
pub use Rattle.mq_examples.specs.Links.{from, host, igmp, limited, link_local, listed, listed_due, ListedGroup, ListedGroups, ListedLink, mld_from, mld_limited}
pub use Rattle.mq_examples.specs.{Links.NextIs, Links.octets, Links.querier, Links.saying, Links.TicksTo, Schedules.Sends}
pub use Rattle.mq_examples.specs.ManySources.{each_as, HandsAll, having_sent, Reports, sources_from, TicksSending}
pub use Rattle.mq_examples.specs.{Replays.one_report, Replays.totals_of, Replays.two_packets, Replays.up_to, Schedules.blocked, Schedules.refreshed}
unfoldable pub use Rattle.hex.specs.Hex.{encode_with}
unfoldable pub use Rattle.std.specs.Fmt.{digits}
unfoldable pub use Rattle.mq_check.specs.Checking.{with_general, with_seen, with_wanted}
unfoldable pub use Rattle.mq_check.specs.Schedules.{begun, gone_on, schedules_seen, schedules_wanted, with_cause, without_next}
unfoldable pub use Rattle.mq_check.specs.Waiting.{purged, told, with_entry, with_partner}
unfoldable pub use Rattle.mq_link.specs.Receive.{read_of}
unfoldable pub use Rattle.mq_pcap.specs.{Capture.header_in, Capture.header_of, Frame.in_ethernet}
unfoldable pub use Rattle.mq_walk.specs.{Courses.with_packets, Ticks.ticked_within}
unfoldable pub use Rattle.mq_wire.specs.{Codes.code_of, Spelling.fault_of}
