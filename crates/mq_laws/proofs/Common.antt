-- Names that the proofs of this crate import from libraries and from its definitions.
pub use Rattle.byteorder.specs.Endian.{big_bytes, big_number, little_bytes, little_number}
pub use Rattle.byteorder.specs.Numbers.{big_number-reads_back, length-bytes_high_first, little_from-lt}
pub use Rattle.std.proofs.Common.{[], add-one, All, ap, append-nil, append_assoc, arith, Bool, codes, cond, count_by, div-add-mod', drop, drop-drop, eq-eqb}
pub use Rattle.std.proofs.Common.{eqb, eqb-true, Err, false, flat_map, fold, get_or, get_or-drop, get_or-take, IfSome, if◌then◌else◌, inl, inr, is_lt, is_some}
pub use Rattle.std.proofs.Common.{IsOk, IsSome, IsTrue, le-leb, le-ltb, leb-false, leb-true, length, length-append, length-drop, length-take, length-take-le}
pub use Rattle.std.proofs.Common.{List, lt-ltb, ltb, ltb-false, ltb-true, map as list_map, max, min, mod-lt, mul-le-mul_left, mul-le-mul_right, nat_cmp, nat_le}
pub use Rattle.std.proofs.Common.{nat_lt, ne_eqb, None, not, Ok, Option, option_and_then, option_map, pow-add, pow_pos, refl, replicate, Result, slice_range}
pub use Rattle.std.proofs.Common.{Some, subst, suc, sum_by, sym, take, take-add, take-append-drop, take_all, take_at, take_while, true, true≢false, unwrap_or}
pub use Rattle.std.proofs.Common.{w32, zero, ℕ, ◌%◌, ◌&&◌, ◌*◌, ◌++◌, ◌+◌, ◌-◌, ◌/◌, ◌<◌, ◌==◌, ◌^◌, ◌||◌, ◌↔◌, ◌∙◌, ◌∷◌, ◌≡◌, ◌≤◌, ◌⊎◌}
pub use Rattle.std.proofs.Math.{Nat.div-add-mod, Nat.div-div-eq-div-mul, Nat.mul-mod_right, Seq.drop-append_seam, Seq.take-append_seam}
pub use Rattle.std.proofs.lemmas.Bool.{and_from, and_left, and_parts, and_right, cases_lt, cases_order, false≢true, lt-leb, or_cases, or_from, or_left}
pub use Rattle.std.proofs.lemmas.Bool.{or_parts, or_right, Decides.eqb_tells, Decides.leb_tells, Decides.nat_tests}
pub use Rattle.std.proofs.lemmas.List.{get_or_past, length-map, take-append-le, Elements.All-append, Elements.All-drop, Elements.All-take, Sums.sum_by-cons}
pub use Rattle.std.proofs.lemmas.Nat.{be_bytes_2, div-mul-add, from_be_bytes-to_be_bytes_4, le_bytes_2, le_bytes_4, mod-mul-add}
pub use Rattle.std.specs.{FinMap.FinMap, FinMap.get-empty, FinMap.is_sorted, List.AllByRecursion, List.concat, List.list_all, List.list_any, List.prefix_len}
pub use Rattle.std.specs.{Int.byte_at, Int.from_be_bytes, Int.to_be_bytes, Int.w128, Ordering.eq_by_cmp, Prelude.⊤}
pub use Rattle.mq_check.specs.{Causes.causes_in, Entries.queriers_differ, Entries.responses_differ, Entries.terms_differ, Entries.terms_in, Refused.refused_by}
pub use Rattle.mq_check.specs.Check.{at_the_start, behind, check_of, Checked, concluded, destination_in, faults_in, found_text, judged_at, looked_ahead, noted}
pub use Rattle.mq_check.specs.Check.{Outcome, quiet, seen_or_received, purged_at, purged_through, ticked_through, totals_of, with_datagram, with_faults}
pub use Rattle.mq_check.specs.Checking.{all_changed, alone_in, checking_at_start, CheckingValue, counted_up, faults_seen, found_of_last, general_compared}
pub use Rattle.mq_check.specs.Checking.{general_seen, group_of, is_late, is_querier_in, may_be_muted, near, need_by, one_changed, one_seen, one_wanted, paired}
pub use Rattle.mq_check.specs.Checking.{partner_of, role_after_tick, role_changed, purged, silence_found, specific_seen, subject_wanted, told, told_at_end}
pub use Rattle.mq_check.specs.Checking.{verdict_in, with_fault, with_interval, with_messages, with_s_judged, with_silence}
pub use Rattle.mq_check.specs.Entries.{as_wanted, difference_if, entry_judged, excused_if, fields_differ, findings_of, first_entry, first_joined, first_terms}
pub use Rattle.mq_check.specs.Entries.{is_free_seen, is_free_wanted, is_over, is_possible, is_unlike, is_within, joined, may_be_left_out, moment_of}
pub use Rattle.mq_check.specs.FindingLines.{certain_in, finding_lines, possible_in}
pub use Rattle.mq_check.specs.General.{is_interval, is_of_start, phase_again, phase_behind, silence_up_to, unless, wrong_interval}
pub use Rattle.mq_check.specs.Queries.{asked_in, is_general, is_same, query_seen, specific_terms, terms_of}
pub use Rattle.mq_check.specs.Repeated.{all_reported, has_values, is_left_out, no_differences, repeats, reported, with_finding, with_values}
pub use Rattle.mq_check.specs.Schedules.{cause_in, caused, caused_by, dropped, first_of, first_until, followed, held_until, is_next, keep_in, last_in, placed}
pub use Rattle.mq_check.specs.Schedules.{placed_alone, recent, repeats_in, schedules_changed, SchedulesValue, terms_wanted, with_next, with_s}
pub use Rattle.mq_check.specs.{Standing.is_set, declared.entry.SeenVerdict.SeenVerdict, declared.schedules.Repeats.Repeats, declared.standing.Standing.Standing}
pub use Rattle.mq_check.specs.Waiting.{emptied, excused_at, is_free, may_still_come, room, WaitingValue}
pub use Rattle.mq_check.specs.declared.asked.Asked.{Asked, TheVariants.AllGroups, TheVariants.Group, TheVariants.Source}
pub use Rattle.mq_check.specs.declared.{basis.Basis.Basis, finding.Difference.Difference, finding.ExtraReason.TheVariants.NoChange, finding.Finding.Finding}
pub use Rattle.mq_check.specs.declared.{check_terms.Additions.Additions, check_terms.CheckFlags.CheckFlags, terms.QuerierTerms.QuerierTerms, terms.Terms.Terms}
pub use Rattle.mq_check.specs.declared.entry.Entry.{Entry, TheVariants.Interval, TheVariants.Packet, TheVariants.Seen, TheVariants.Silence, TheVariants.Wanted}
pub use Rattle.mq_check.specs.declared.entry.{Need.Need, Need.TheVariants.Optional, Need.TheVariants.Required, Unpaired.Unpaired, Unpaired.TheVariants.Extra}
pub use Rattle.mq_check.specs.declared.finding.Finding.TheVariants.{Differs, Missing, PossiblyExtra, PossiblyMissing}
pub use Rattle.mq_check.specs.declared.{headers.HeaderFault.HeaderFault, phase.Phase.TheVariants.NotQuerier, repeated.LastDifferences.LastDifferences}
pub use Rattle.mq_convert.specs.{Blocks.block_in, Blocks.Captured, Blocks.seen_in, declared.choice.Choice.Choice, declared.fault.BlockFault.BlockFault}
pub use Rattle.mq_convert.specs.{Contexts.at_start, Contexts.ContextState, Records.file_header, Records.original_of, Records.packets_of, Records.written_of}
pub use Rattle.mq_convert.specs.{Faults.is_cut, Files.AreBlocks, Files.Captures, Files.endless, Files.EndsBy, Files.size_fault, Moments.second}
pub use Rattle.mq_convert.specs.Repeats.{comes_again, frame_out, going_out, Gone, gone_after, is_again, left_out}
pub use Rattle.mq_convert.specs.Sizes.{head_size, is_start, IsWhole, most_seen, section_type, size_in, size_of}
pub use Rattle.mq_count.specs.Streams.{counted_on}
pub use Rattle.mq_link.proofs.{Faultless.IsWellFormed-link_at, Faultless.timing_in_range, Receipts.carried_where_read, Receipts.IsWellFormed-receipt_after}
pub use Rattle.mq_link.proofs.{KeptFilters.alike_after, KeptFilters.filter_of_unheld, KeptFilters.unchanged, StatedAlone.alone_by, Ticked.IsWellFormed-tick_at}
pub use Rattle.mq_link.{proofs.Later.later_after_tick, specs.Counters.is_refused, specs.Counters.kind_number, specs.Counters.Refused, specs.Counters.Verdict}
pub use Rattle.mq_link.specs.{Configuration.Configuration, Configuration.is_allowed, Configuration.IsFaultless, Sent.Outgoing, Sent.outgoing, Sent.outgoing_of}
pub use Rattle.mq_link.specs.Counters.{Applied, count_dropped, count_verdict, count_verdicts, counted_at, Counters, Denied, Ignored, is_applied, is_ignored}
pub use Rattle.mq_link.specs.Forwarding.{changed_by_all, changed_by_message, changed_by_read, changed_by_tick, changes}
pub use Rattle.mq_link.specs.Heard.{announced_by, asked_by, election_after, group_lowered, group_lowered as heard_by, query_heard, suppresses}
pub use Rattle.mq_link.specs.Receive.{count_read, counting_read, drop_reason, Envelope, kind_of, pseudo_of, read_of, reason_of_fault, Receipt, receipt_after}
pub use Rattle.mq_link.specs.Receive.{receipt_of, setting_of, taken_or_dropped, with_outcomes}
pub use Rattle.mq_link.specs.Record.{after_sending, all_judged, alone, change_in, change_stated, changed_by, changed_or_refused, Entrance, entrance}
pub use Rattle.mq_link.specs.Record.{entrance_as, GoesOn, is_muted, is_repeated, judged_from, kind_named, leaving, limit_passed, OlderJoin, OlderLeave}
pub use Rattle.mq_link.specs.Record.{Outcomes, RecordOf, seen_after, sent_at_once, Setting, stated_alone, Statement, Stops, unless_passed}
pub use Rattle.mq_link.specs.Run.{answer_to, answered, Datagram, Event, events_alone, Happening, Happens, RunFrom, step_of, Tick}
pub use Rattle.mq_link.specs.State.{forwards, group_at, Groups, IsWellFormed, link_at, LinkState, schedules_in, sources_in, sources_of, unheld, with_group}
pub use Rattle.mq_link.specs.Tick.{group_expired, if_held, moments_in, moments_of, next_of, Step, tick_at, tick_of}
pub use Rattle.mq_link.specs.declared.answers.{DropReason.DropReason, Received.TheVariants.Dropped, Refusal.Refusal}
pub use Rattle.mq_link.specs.declared.answers.Refusal.TheVariants.{Groups as TooManyGroups, GroupSources, Long, Memory, Repeated, Scheduled, Sources}
pub use Rattle.mq_pcap.proofs.FileHeader.{field-append}
pub use Rattle.mq_pcap.specs.Capture.{AreRecords, captured_length, field, IsRecord, magic_of, most_bytes, record_fault, stamp_of}
pub use Rattle.mq_pcap.specs.{Frame.carried_in, declared.fault.PcapFault.PcapFault, declared.link_type.LinkType.LinkType}
pub use Rattle.mq_pcap.specs.declared.form.{Endian.Endian, Endian.TheVariants.Big, Endian.TheVariants.Little, Form.Form, Fraction.TheVariants.Nanoseconds}
pub use Rattle.mq_replay.specs.Report.{Replayed, ticked_before}
pub use Rattle.mq_sched.proofs.{Asked.timer_at-sources_asked, Fits.some_count, Rounds.others_stay, Rounds.quiet_after_round, Rounds.quiet_is_silent}
pub use Rattle.mq_sched.proofs.Rounds.{asked_in-messages_due, asks_group-messages_due, counted_down, deadlines_stay, group_counted_down, group_stays}
pub use Rattle.mq_sched.specs.Election.{heard, is_querier, loses_role, next_moment, Other, Querier, Role, ticked}
pub use Rattle.mq_sched.specs.Schedule.{cleared, ScheduledGroup, ScheduleState}
pub use Rattle.mq_sched.specs.Sending.{acted, after_change, after_round, GeneralQuery, group_asked, group_due, group_messages, GroupQuery, is_due, messages_due}
pub use Rattle.mq_sched.specs.Sending.{SentQuery, source_messages, sources_asked, sources_queries, sources_where, SourcesQuery}
pub use Rattle.mq_table.proofs.{Composed.expired-expired, Filters.are_same-equal, Filters.forwards_by-filter_of, Filters.named_alike, Filters.same_filter}
pub use Rattle.mq_table.proofs.Held.{IsAnyGroup-change_of, IsAnyGroup-expired, IsWellFormed-change_of, IsWellFormed-group_lowered, IsWellFormed-older_report}
pub use Rattle.mq_table.proofs.Held.{IsWellFormed-sources_lowered}
pub use Rattle.mq_table.proofs.{Lower.lowered_both, Lower.timer_at-sources_lowered, Maps.get-kept, TableRows.at_source_of, TableRows.timer_then}
pub use Rattle.mq_table.specs.Expiry.{ahead, AllAhead, expired, held_or_vacant, mode_expired, source_expired}
pub use Rattle.mq_table.specs.{Filter.are_same, Filter.Filter, Filter.filter_of, Filter.forwards_by, Filter.names, Filter.nothing, Sets.Set, Sets.◌∖◌, Sets.◌∩◌}
pub use Rattle.mq_table.specs.Group.{deadline_of, forwards_in, group_deadline, GroupState, is_ahead, is_include, is_running, is_vacant, running}
pub use Rattle.mq_table.specs.Group.{retransmissions_of}
pub use Rattle.mq_table.specs.{Group.stopped, Group.timer_at, Group.vacant, Group.wants, Variables.AreInRange, Variables.Variables}
pub use Rattle.mq_table.specs.Lowering.{lowered_by_query, lowered_to, mode_lowered, source_lowered, sources_lowered}
pub use Rattle.mq_table.specs.Retransmissions.{above, has_retransmissions, retransmissions_cleared, retransmissions_counted, source_asked, source_cleared}
pub use Rattle.mq_table.specs.Retransmissions.{source_counted}
pub use Rattle.mq_table.specs.{Table.change_of, Table.GroupChange, Table.NamedSources, Table.table_row, Table.table_row_met, Timing.startup_interval}
pub use Rattle.mq_table.specs.Timing.{last_member_count, last_member_time, membership_interval, older_host_present, other_querier_present, query_interval}
pub use Rattle.mq_table.specs.declared.{kind.Kind.Kind, timers.FilterMode.FilterMode, timers.SourceTimer.SourceTimer, timing.Timing.Timing}
pub use Rattle.mq_table.specs.declared.kind.Kind.TheVariants.{Allow, Block, IsEx, IsIn, ToEx, ToIn}
pub use Rattle.mq_text.{proofs.LongestRun.is_first_longest, specs.AddressV6.groups_of}
pub use Rattle.mq_walk.specs.Datagrams.{datagram_of}
pub use Rattle.mq_wire.proofs.{FoundCodes.code_is_greatest, Sums.sum_of_both}
pub use Rattle.mq_wire.specs.{Canon.flags_byte, Checksum.checksum_behind, Checksum.sum_of_words, Checksum.with_field, declared.records.RecordView.RecordView}
pub use Rattle.mq_wire.specs.{Codes.code16_of, Codes.code8_of, Codes.value16, Codes.value8, Codes.value_of, Family.Family, Family.Igmp, Family.Mld}
pub use Rattle.mq_wire.specs.declared.{message.Message.Message, message.WireFault.WireFault, query.Query.Query, query.QueryVersion.TheVariants.Current}
pub use Rattle.mq_wire.specs.declared.message.Message.TheVariants.{Leave as LeaveMessage, OldReport, Query as QueryMessage, Report as ReportMessage}
pub use Rattle.mq_laws.specs.AsWanted.{all_missing, AreMissed, AreSeen, AreSeenWithin, HasToBeSent, IsAsWanted, IsFromTheBeginning, TakesOut}
pub use Rattle.mq_laws.specs.Captures.{datagram_passage, end_of, event_of, events_ahead, events_of, fault_events, frame_passage, happening_behind, last_of}
pub use Rattle.mq_laws.specs.Captures.{nothing_happens, packet_passage, Passage, role_by_datagram, role_by_tick, tick_passage, ticks_through, wanted_by}
pub use Rattle.mq_laws.specs.{Captures.wanted_for, Captures.wanted_of, Events.Wants, Groups.ForwardsAfter, Groups.group_after, Groups.IsNoLater}
pub use Rattle.mq_laws.specs.Events.{at_the_end, Changes, check_by, check_by_all, checked_ahead, checked_by, CheckEvent, Comes, found_by, found_from}
pub use Rattle.mq_laws.specs.Events.{HasRoleAgain, HasRoom, Judges, LosesRole, moment_behind, moment_behind_all, Refuses, Sees, SeesFault, SeesGeneral, told_by}
pub use Rattle.mq_laws.specs.{Events.told_by_all, WantedAndSeen.return_wanted, WantedAndSeen.Returns, WantedAndSeen.still_due, WantedAndSeen.wanted_in}
pub use Rattle.mq_laws.specs.Following.{AllFollowed, filter_at, FilterTable, IsTableOf, nothing_of_any, taken_over}
pub use Rattle.mq_laws.specs.Laws.{AllAfter, ChangesNothing, CountsAnswer, CountsDropped, CountsRecords, CountsTaken, DifferAt, DifferInAnswers, HappenAlike}
pub use Rattle.mq_laws.specs.Laws.{HappensAlike, IsGivenWhere, IsOnlyCounted, records_in, unanswered, would_be, would_leave}
pub use Rattle.mq_laws.specs.OnTime.{AreAhead, AreInOrder, AreOnTime, IsAsWantedThen, IsClose, IsOfTick, IsOnTime, IsWantedInterval}
pub use Rattle.mq_laws.specs.Pairing.{all_left_out, all_sent, AllLater, Answers, AreMoved, Ask, ask_of, asks_of, Expected, IsMoved, kept_for, LeftOut}
pub use Rattle.mq_laws.specs.Pairing.{missing_of, PairUp, seen_about, Sent, sent_but, unnumbered, unnumbered_terms, wanted_about}
pub use Rattle.mq_laws.specs.PlainCaptures.{ArePlain, everything, is_untagged, looked_at, plain}
pub use Rattle.mq_laws.specs.Schedules.{AscendIn, clear_portions, clear_sources, queries_of, Round, set_portions, set_sources, state_after}
pub use Rattle.mq_laws.specs.Verdicts.{ahead_in, CameToItsEnd, CheckedCapture, end_in, events_in, Tells, TellsWhatHappened}
pub use Rattle.mq_laws.specs.WantedAndSeen.{all_seen, all_seen_in, all_wanted, all_wanted_in, asks_at, asks_wanted, general_ask, general_returned, return_seen}
unfoldable pub use Rattle.mq_check.specs.{Check.with_packet, Schedules.schedules_seen, Schedules.schedules_wanted, Schedules.with_cause, Schedules.without_next}
unfoldable pub use Rattle.mq_check.specs.Checking.{role_lost, role_returned, with_general, with_seen, with_wanted}
unfoldable pub use Rattle.mq_check.specs.Waiting.{all_excused, with_entry, with_partner}
unfoldable pub use Rattle.mq_convert.specs.{Files.outer_fault, Records.record_of, Repeats.is_compared}
unfoldable pub use Rattle.mq_link.specs.{Heard.groups_cleared, Heard.groups_lowered, Receive.taken_in, Record.judged, Record.stated}
unfoldable pub use Rattle.mq_table.specs.Filter.{changes_filter}
unfoldable pub use Rattle.mq_text.specs.Reading.{number_of}
unfoldable pub use Rattle.mq_walk.specs.Ticks.{ticked_within}
unfoldable pub use Rattle.mq_laws.specs.Captures.{packets_passage, ticks_passage}
