-- Names that the proofs of this crate import from libraries and from its definitions.
pub use Rattle.hex.specs.Hex.{encode_lower}
pub use Rattle.std.proofs.Common.{[], ap, append-nil, append_assoc, arith, Bool, codes, cond, drop, Err, false, filter, flat_map, get_or, IfOk, inl, inr}
pub use Rattle.std.proofs.Common.{is_err, length, List, map as list_map, None, Ok, Option, refl, Result, Some, subst, sym, take, take-append-drop, take_all}
pub use Rattle.std.proofs.Common.{true, unwrap_or, ℕ, ◌++◌, ◌+◌, ◌-◌, ◌<◌, ◌||◌, ◌∙◌, ◌∷◌, ◌≡◌, ◌≤◌}
pub use Rattle.std.{proofs.Math.Bool.or-false, specs.List.list_any}
pub use Rattle.std.proofs.lemmas.{Bool.Decides.nat_tests, Grind.flat_map-append, List.take_more, Result.err_from_is_err_and}
pub use Rattle.mq_count.specs.Streams.{has_failed, inner_of}
pub use Rattle.mq_held.{proofs.Sorted.key_of, specs.Groups.group_at, specs.Groups.Groups, specs.Groups.unheld}
pub use Rattle.mq_lines.proofs.Parts.{five_parts, four_parts}
pub use Rattle.mq_lines.specs.{Messages.message_in, Objects.items_from, Objects.truth_object, Text.line_of}
pub use Rattle.mq_link.{proofs.KeptGroups.absent_unheld, specs.Counters.Counters, specs.Link.LinkValue, specs.Sent.Outgoing}
pub use Rattle.mq_link.specs.{Configuration.Configuration, State.link_at, State.LinkState, Tick.next_of, Tick.tick_of, declared.answers.Received.Received}
pub use Rattle.mq_link.specs.{Forwarding.AreThose, Forwarding.changed_by_datagram, Forwarding.changed_by_tick, Receive.Envelope, Receive.receipt_of}
pub use Rattle.mq_pcap.specs.{Capture.most_bytes, Filling.InputState, Frame.Carried, Frame.carried_in, Frame.carried_of}
pub use Rattle.mq_sched.specs.{Election.is_querier, Schedule.ScheduledGroup}
pub use Rattle.mq_sets.{proofs.Ascents.IsAscending-map, specs.Ascending.IsAscending}
pub use Rattle.mq_table.specs.{Group.GroupState, Group.is_include, Stored.number_in, Stored.timers_in}
pub use Rattle.mq_table.specs.declared.{sources.Source.Source, timers.FilterMode.TheVariants.Include, timers.SourceTimer.SourceTimer}
pub use Rattle.mq_text.proofs.Passing.{both_passed, broken_among, broken_behind, broken_within, held_more, item_passed, nothing_passed, put_as, then_put}
pub use Rattle.mq_text.specs.Printing.{GrowsByBeginning, output_of, OutputState, Passes, Puts}
pub use Rattle.mq_text.specs.declared.printing.LineFault.{LineFault}
pub use Rattle.mq_walk.proofs.{Finished.failed_end, Finished.granted_end, Rooms.room_of_filled, Rooms.taken_at, WalkedOver.fault_or}
pub use Rattle.mq_walk.specs.{Datagrams.Datagram, Datagrams.datagram_of, declared.capture_fault.CaptureFault.CaptureFault, declared.walked.Walked.Walked}
pub use Rattle.mq_walk.specs.{Faults.is_failed_write, PlacedPackets.PlacedPacket, Ticks.ticked_within}
pub use Rattle.mq_wire.specs.{Family.Family, declared.message.Message.TheVariants.Query as AQuery, declared.message.WireFault.WireFault}
pub use Rattle.mq_replay.specs.{ChangeLines.change_start, ReplayLines.timer_text}
pub use Rattle.mq_replay.specs.Events.{change_events, Changes, end_events, event_in, if_asked, query_events, Receives, Skips}
pub use Rattle.mq_replay.specs.{Listing.IsEndedBy, Listing.place_in, Steps.begun_with, Steps.PutsReplayed, Steps.ReplayState, Steps.ReplaysTo}
pub use Rattle.mq_replay.specs.{NamedSources.is_named, NamedSources.name_by, NamedSources.named_by, QueryLines.ReceivesPrinting, declared.asked.Asked.Asked}
pub use Rattle.mq_replay.specs.{Putting.PutsListing, Putting.PutsPacket, ReplayObjects.state_end, ReplayObjects.state_start, ReplayObjects.timer_item}
pub use Rattle.mq_replay.specs.Report.{after_step, changed_at, Replayed, taken_or_skipped, those_among, ticked_before, with_changes}
unfoldable pub use Rattle.mq_replay.specs.Report.{ended_at, received_at, ticked_at, with_packet}
