-- Names that the proofs of this crate import from libraries and from its definitions.
pub use borrow.Rule.Slice.PartMut.{mid_len, mid_of, post_of, put_mid, same_len_mid}
pub use Rattle.arrayvec.specs.ArrayVec.{array_vec_len, ArrayVec}
pub use Rattle.std.proofs.Common.{[], ◌++◌, ◌+◌, ◌-◌, ◌<◌, ◌^◌, ◌||◌, ◌∙◌, ◌∷◌, ◌≡◌, ◌≤◌, add-one, add_assoc, ap, append-nil, append_assoc, arith, Bool, drop}
pub use Rattle.std.proofs.Common.{Err, false, get_or, inl, inr, length, length-append, length-drop, List, lit<, min, None, Ok, Option, refl, Result, Some}
pub use Rattle.std.proofs.Common.{subst, suc, sym, take, true, zero, ℕ}
pub use Rattle.std.proofs.Math.Bool.{or-false, or-true}
pub use Rattle.std.proofs.Math.Nat.{div-eq_of_lt, one-le-pow, pow-le-pow_right}
pub use Rattle.std.proofs.Math.Seq.{drop-append_seam, drop-cons, drop-length, take-append-add}
pub use Rattle.std.proofs.lemmas.Bool.{eq-eqb, eqb-true, le-ltb, lt-ltb, ltb-false, ne_eqb}
pub use Rattle.std.proofs.lemmas.Bool.Decides.{nat_tests}
pub use Rattle.std.proofs.lemmas.Grind.{flat_map-append}
pub use Rattle.std.proofs.lemmas.List.{drop-replicate, length-map, length-map as mapped_long, length-set, length-take, length-take-le, map-append}
pub use Rattle.std.proofs.lemmas.List.{take-append-drop, take-append-le, take_all, take_at}
pub use Rattle.std.proofs.lemmas.Result.{err_from_is_err_and}
pub use Rattle.std.specs.List.{All, flat_map, list_any, refill}
pub use Rattle.std.specs.Prelude.{◌&&◌, ◌==◌, if◌then◌else◌, map, map as list_map, nat_lt, not, option_to_list, replicate, slice_get, slice_range, slice_set}
pub use Rattle.mq_count.specs.Streams.{counted_on, has_failed, inner_of}
pub use Rattle.mq_pcap.proofs.Filled.{Takes-nil, Takes-trans}
pub use Rattle.mq_pcap.proofs.Walk.{from_place}
pub use Rattle.mq_pcap.specs.Capture.{field}
pub use Rattle.mq_pcap.specs.Filling.{input_of, InputState, Takes}
pub use Rattle.mq_text.proofs.Passing.{both_passed, broken_behind, broken_within, held_more, nothing_passed, put_as, then_put}
pub use Rattle.mq_text.specs.Printing.{GrowsByBeginning, Passes, Prints, Puts}
pub use Rattle.mq_convert.specs.Blocks.{block_in, Captured, captured_of, seen_in}
pub use Rattle.mq_convert.specs.Choices.{is_chosen, is_chosen_packet, number_of}
pub use Rattle.mq_convert.specs.Contexts.{at_start, context_of, ContextState}
pub use Rattle.mq_convert.specs.Converting.{Converts, IsEndedBy, IsWritten}
pub use Rattle.mq_convert.specs.Dropped.{number_after, number_option}
unfoldable pub use Rattle.mq_convert.specs.Dropped.{with_dropped}
pub use Rattle.mq_convert.specs.Faults.{is_cut, is_failed_write}
pub use Rattle.mq_convert.specs.Files.{AreBlocks, endless, EndsBy, size_fault}
unfoldable pub use Rattle.mq_convert.specs.Files.{outer_fault}
pub use Rattle.mq_convert.specs.Filling.{FillsFrom, FillsSeen, PassesOver}
pub use Rattle.mq_convert.specs.Frames.{behind_tags, frame_of, Framed, framed, is_tag, tag_of, untagged}
unfoldable pub use Rattle.mq_convert.specs.Frames.{of_cooked, of_cooked_2}
pub use Rattle.mq_convert.specs.Interfaces.{filled_up, interface_in, options_of, options_within, with_options}
unfoldable pub use Rattle.mq_convert.specs.Interfaces.{name_of}
pub use Rattle.mq_convert.specs.Putting.{block_text, held_of, IsPut, PutsCapture, ReadsBlock, records_of}
pub use Rattle.mq_convert.specs.Reading.{IsBegun, NextBlock}
pub use Rattle.mq_convert.specs.Records.{converted, file_header, packets_of, record_with, unread_link, unread_links, written_of}
unfoldable pub use Rattle.mq_convert.specs.Records.{record_header, record_of}
pub use Rattle.mq_convert.specs.Repeats.{comes_again, frame_out, going_out, Gone, gone_after, gone_behind, is_again, is_short, left_out}
unfoldable pub use Rattle.mq_convert.specs.Repeats.{is_compared}
pub use Rattle.mq_convert.specs.Sieving.{gone_of, HasSieved, SieveState, Sifts, SiftsFrame}
pub use Rattle.mq_convert.specs.Sizes.{head_size, is_start, IsWhole, least_size, most_seen, size_in, size_of}
unfoldable pub use Rattle.mq_convert.specs.Sizes.{seen_of}
pub use Rattle.mq_convert.specs.Tallies.{counted, first_links, is_known, is_of, raised, Tallies, times, with_link}
pub use Rattle.mq_convert.specs.declared.choice.Choice.{Choice}
pub use Rattle.mq_convert.specs.declared.context.Interface.{Interface}
pub use Rattle.mq_convert.specs.declared.counts.ConvertCounts.{ConvertCounts}
pub use Rattle.mq_convert.specs.declared.fault.BlockFault.{BlockFault}
pub use Rattle.mq_convert.specs.declared.fault.ConvertFault.{ConvertFault}
pub use Rattle.mq_convert.specs.declared.unread.LinkCount.{LinkCount}
pub use Rattle.mq_convert.specs.declared.unread.Unread.{Unread}
