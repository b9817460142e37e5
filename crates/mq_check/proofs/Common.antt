-- Names that the proofs of this crate import from libraries and from its definitions.
pub use Rattle.std.proofs.Common.{[], add-one, ap, append-nil, append_assoc, arith, Bool, codes, deque_capacity, drop, Err, false, flat_map, fold, get_or}
pub use Rattle.std.proofs.Common.{get_or-set_other, get_or-set_same, IfOk, IfSome, if◌then◌else◌, inl, inr, is_err, is_some, length, length-drop, length-set}
pub use Rattle.std.proofs.Common.{List, ltb-true, map as list_map, min, nat_le, None, not, Ok, Option, refl, Result, set, Some, subst, suc, sym, take, true}
pub use Rattle.std.proofs.Common.{zero, ℕ, ◌&&◌, ◌++◌, ◌+◌, ◌-◌, ◌<◌, ◌==◌, ◌^◌, ◌||◌, ◌∙◌, ◌∷◌, ◌≡◌, ◌≤◌, ◌⊎◌}
pub use Rattle.std.{proofs.Math.Bool.or-false, proofs.Math.Seq.drop-length, proofs.Math.Seq.take-length, specs.List.list_any}
pub use Rattle.std.proofs.lemmas.{Bool.cases_eq, Bool.cases_lt, Bool.Decides.nat_tests, Grind.get_or_after_one, List.map-set, Result.err_from_is_err_and}
pub use Rattle.std.proofs.lemmas.List.{get_or_append_left, get_or_push, get_or_read, length-map as mapped_long, length-replicate, length_push, map-append}
pub use Rattle.mq_arena.proofs.Takes.{both, neither, refused}
pub use Rattle.mq_lines.specs.Objects.{address_object, truth_object}
pub use Rattle.mq_link.specs.{Configuration.Configuration, Handing.HandsOver, Link.LinkValue, Receive.receipt_of, Sent.Outgoing, State.Groups}
pub use Rattle.mq_pcap.specs.{Capture.most_bytes, Filling.InputState, Frame.carried_in, declared.link_type.LinkType.LinkType}
pub use Rattle.mq_sched.specs.Election.{is_querier}
pub use Rattle.mq_table.specs.declared.timing.Timing.{Timing}
pub use Rattle.mq_text.proofs.Passing.{both_passed, broken_behind, broken_within, held_more, put_as, then_put}
pub use Rattle.mq_text.specs.Printing.{GrowsByBeginning, output_of, OutputState, Passes, Puts}
pub use Rattle.mq_text.specs.declared.printing.LineFault.{LineFault}
pub use Rattle.mq_walk.proofs.Rooms.{room_of_filled, taken_at}
pub use Rattle.mq_walk.specs.{Courses.Report, Outlets.all_sent, PlacedPackets.PlacedPacket, PuttingReports.IsRestPut}
pub use Rattle.mq_walk.specs.{Datagrams.Datagram, Datagrams.datagram_of, declared.capture_fault.CaptureFault.CaptureFault, declared.walked.Walked.Walked}
pub use Rattle.mq_wire.specs.{Family.Family, declared.query.Query.Query, declared.records.RecordView.RecordView}
pub use Rattle.mq_check.specs.{Basis.with_other_querier, Waiting.excused_at, Waiting.is_free, Waiting.is_open, Waiting.may_still_come, Waiting.WaitingValue}
pub use Rattle.mq_check.specs.{Causes.causes_by, Causes.causes_in, Standing.is_set, Standing.standing_in}
pub use Rattle.mq_check.specs.Check.{basis_at_end, behind, Checked, judged_at, looked_ahead, Outcome, quiet, purged_at, purged_through, ticked_through}
pub use Rattle.mq_check.specs.Checking.{all_changed, CheckingValue, counted_up, found_of_last, one_seen, role_after_tick, role_changed, purged, subject_wanted}
pub use Rattle.mq_check.specs.{Checking.told, Checking.told_at_end, Checking.with_messages, Checking.with_s_judged, Wanting.TakesMessage, Wanting.WantingValue}
pub use Rattle.mq_check.specs.{Coming.checked_in, Coming.CheckState, Coming.Comes, General.phase_behind, General.silence_up_to, General.wrong_interval}
pub use Rattle.mq_check.specs.{Ending.counted_behind, Ending.end_text, Queries.general_terms, Queries.specific_terms, Queries.terms_of}
pub use Rattle.mq_check.specs.Entries.{excused_if, first_entry, first_terms, is_group_wanted, joined, moment_of, terms_in}
pub use Rattle.mq_check.specs.FindingLines.{at_moment, count_text, finding_lines, last_lines, querier_object}
pub use Rattle.mq_check.specs.Numbered.{numbered_asked, numbered_entry, numbered_finding, numbered_sought_if, numbered_terms}
pub use Rattle.mq_check.specs.{Refused.group_in, Refused.judged, Refused.with_refused, Trails.AreLinked, Trails.AreNumbers, Trails.Reaches, Trails.TrailsValue}
pub use Rattle.mq_check.specs.Repeated.{is_left_out, reported, unless, with_finding, with_findings}
pub use Rattle.mq_check.specs.Schedules.{caused, due_after, followed, next_in, SchedulesValue, terms_or}
pub use Rattle.mq_check.specs.Slots.{AreBounded, AreMarked, AreNoneOf, entry_at, IsJudgedTo, wanted_moment, wanted_slot}
pub use Rattle.mq_check.specs.Telling.{counted_by, counted_kinds, counted_one, counted_times, FindingWriterState, reported_by, Tells}
pub use Rattle.mq_check.specs.declared.{asked.Asked.Asked, asked.Asked.TheVariants.AllGroups, asked.Asked.TheVariants.Source, basis.Basis.Basis}
pub use Rattle.mq_check.specs.declared.{check_terms.Additions.Additions, check_terms.CheckTerms.CheckTerms, repeated.LastDifferences.LastDifferences}
pub use Rattle.mq_check.specs.declared.entry.Entry.{Entry, TheVariants.Interval, TheVariants.Packet, TheVariants.Seen, TheVariants.Silence, TheVariants.Wanted}
pub use Rattle.mq_check.specs.declared.{entry.Need.TheVariants.Optional, entry.SVerdict.SVerdict, totals.FindingCounts.FindingCounts, totals.Totals.Totals}
pub use Rattle.mq_check.specs.declared.{finding.Finding.Finding, finding.Finding.TheVariants.PossiblyExtra, terms.Terms.Terms}
pub use Rattle.mq_check.specs.declared.{standing.Standing.Standing, waiting.Side.Side, waiting.Side.TheVariants.OfSeen, waiting.Side.TheVariants.OfWanted}
unfoldable pub use Rattle.mq_check.specs.{Check.taken, Check.ticked, Check.with_packet, Ending.ended_behind, Schedules.schedules_wanted, Schedules.without_next}
unfoldable pub use Rattle.mq_check.specs.{Checking.query_came, Checking.with_seen, FindingLines.last_lost, Waiting.with_entry, Waiting.with_partner}
