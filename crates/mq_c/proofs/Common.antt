-- Names that the proofs of this crate import from libraries and from its definitions.
pub use base.Fml.{Fml}
pub use base.Logic.{emp}
pub use contract.Monad.{fact_i}
pub use denote.Follow.{follows}
pub use denote.Memory.{lone}
pub use denote.Param.{copied}
pub use denote.RattleType.{RattleType}
pub use denote.RawPtr.{block_ptr, Ptr}
pub use denote.Steps.{nothing}
pub use denote.Triple.Walked.{says}
pub use mir.Raw.{raw as bare}
pub use mir.Val.{Val, vptr}
pub use types.Kit.{ !, done, fjoin, fpack, fsplit, qed, rewrite, ‵, ◌$◌, ◌∵◌}
pub use types.Logic.{Logic, sem}
pub use Rattle.byteorder.specs.Endian.{big_bytes}
pub use Rattle.std.proofs.Common.{[], add-mul, ap, append-nil, append_assoc, arith, Bool, cond, drop, drop-drop, Err, false, flat_map, get_or, IfSome, is_ok}
pub use Rattle.std.proofs.Common.{is_some, leb, leb-false, length, length-append, length-drop, length-take-le, List, map as list_map, min, mul-le-mul_right}
pub use Rattle.std.proofs.Common.{None, not, Ok, Option, refl, Result, rules, set, Some, subst, suc, suc-mul, sum_by, sym, take, take-append-drop, take_all}
pub use Rattle.std.proofs.Common.{true, zero, ℕ, ◌&&◌, ◌*◌, ◌++◌, ◌+◌, ◌-◌, ◌/◌, ◌<◌, ◌^◌, ◌∙◌, ◌∷◌, ◌≡◌, ◌≤◌}
pub use Rattle.std.proofs.lemmas.{Grind.common_steps, List.drop_all, List.drop_min, List.length-map, List.Sums.sum_by-cons}
pub use Rattle.std.specs.Int.{from_be_bytes, w128}
pub use Rattle.std_alloc.specs.Box.Ownership.{box_owns}
pub use Rattle.mq_held.specs.Groups.{group_at}
pub use Rattle.mq_link.{proofs.Faultless.few_sources, specs.Workspace.WorkspaceState}
pub use Rattle.mq_link.specs.{Configuration.Configuration, Configuration.IsFaultless, Link.LinkValue, Receive.Envelope, Receive.read_of, Receive.receipt_of}
pub use Rattle.mq_link.specs.{Family.per_query, Family.v1_mutes_leave, Sent.Outgoing, Sent.outgoing, Sent.outgoing_of, Tick.moment_of, Tick.tick_of}
pub use Rattle.mq_link.specs.{Handing.named_in, Record.all_judged, Record.change_in, Record.is_muted, Record.met, Record.Seen, Record.Setting, Record.Statement}
pub use Rattle.mq_link.specs.State.{Groups, IsWellFormed, LinkState, one_if, sources_in, sources_of, unheld, with_group}
pub use Rattle.mq_sched.specs.Schedule.{ScheduledGroup, settled}
pub use Rattle.mq_sched.specs.Sending.{GeneralQuery, GroupQuery, messages_due, SentQuery, SourcesQuery}
pub use Rattle.mq_sets.specs.Ascending.{IsAscending}
pub use Rattle.mq_table.specs.{Group.group_deadline, OlderHosts.hosts_of, OlderHosts.translated_change, Stored.number_in, Stored.size_of, Stored.timers_in}
pub use Rattle.mq_table.specs.{Retransmissions.above, Sets.Set, Sets.◌∩◌, Table.GroupChange}
pub use Rattle.mq_table.specs.declared.{kind.Kind.Kind, sources.Source.Source, timers.SourceTimer.SourceTimer, timing.Timing.Timing}
pub use Rattle.mq_wire.specs.{Family.address_width, Family.Family, Family.Igmp, Family.Mld, PseudoHeader.pseudo_header}
pub use Rattle.mq_wire.specs.declared.{message.Message.Message, message.Message.TheVariants.OldReport, records.RecordView.RecordView}
pub use Rattle.mq_c.specs.{Changed.stored_octets, Changed.TellsChanged, Owning.no_freeing, Queries.Outbox, Queries.outbox_at, Queries.outbox_of, Queries.Puts}
pub use Rattle.mq_c.specs.{Igmp.group_with, Igmp.source_with, Making.asked_of, Milliseconds.deadline_or_none}
pub use Rattle.mq_c.specs.{LineRoom.LineStands, Rooms.asking_records, Rooms.most_asked, Rooms.query_head, Rooms.records_in_body, Rooms.sources_in_body}
pub use Rattle.mq_c.specs.Pages.{Entry, group_form, IsPage, ShowsGroup, source_form, SourceEntry, stored_form}
pub use Rattle.mq_c.specs.{Rows.igmp_row, Rows.igmp_workspace_row, Rows.mld_row, Rows.mld_workspace_row, declared.forms.Answer.Answer, declared.forms.Page.Page}
unfoldable pub use Rattle.mq_link.specs.Record.{stated}
