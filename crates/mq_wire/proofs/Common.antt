-- Names that the proofs of this crate import from libraries and from its definitions.
pub use Rattle.byteorder.specs.{Endian.big_bytes, Endian.big_from, Endian.big_number, Numbers.length-bytes_high_first}
pub use Rattle.std.proofs.Common.{[], add-zero, ap, append-nil, append_assoc, arith, div-add-mod', drop, drop-drop, Err, false, get_or-take, if◌then◌else◌, inl}
pub use Rattle.std.proofs.Common.{inr, length, length-append, length-drop, length-take-le, List, min, mod-eq_of_lt, mod-lt, mul-le-mul_left, mul-le-mul_right}
pub use Rattle.std.proofs.Common.{nat_le, nat_lt, ne_eqb, None, Ok, Option, option_map, pow-add, pow_pos, refl, replicate, Result, slice_index, Some, subst}
pub use Rattle.std.proofs.Common.{suc, sum, sym, take, take_all, true, zero, ℕ, ◌%◌, ◌*◌, ◌++◌, ◌+◌, ◌-◌, ◌/◌, ◌<◌, ◌==◌, ◌^◌, ◌↔◌, ◌∙◌, ◌∷◌, ◌≡◌, ◌≤◌, ◌⊎◌}
pub use Rattle.std.proofs.Math.Nat.{div-add-mod, pow-le-pow_right, sub-zero}
pub use Rattle.std.proofs.lemmas.{Bool.Decides.eqb_tells, Bool.Decides.leb_tells, Bool.Decides.nat_tests, Grind.common_steps}
pub use Rattle.std.proofs.lemmas.{List.drop_all, Nat.div_below, Nat.le-div, Nat.mod_below, Nat.mod_low, Nat.mul-le, Nat.shr_high, Result.err_from_is_err_and}
pub use Rattle.mq_wire.specs.Canon.{canon, covered_before, fields_bytes, first_bytes, mld_destination, with_checksum, without_checksum, Writes}
pub use Rattle.mq_wire.specs.Checksum.{checksum_behind, is_right, IsRight, ones_complement, sum_of_words, with_field}
pub use Rattle.mq_wire.specs.{Codes.composed_for, Codes.IsCodeFor, Codes.value8, Codes.value_of, Spelling.type_named, Spelling.type_of, Spelling.wrong_length}
pub use Rattle.mq_wire.specs.Family.{address_width, Family, group_end, group_place, Igmp, Mld}
pub use Rattle.mq_wire.specs.{Fields.addresses, Fields.cut_from, Fields.EndsAt, Fields.first_cut, Fields.number_at, declared.query.QuerierFields.QuerierFields}
pub use Rattle.mq_wire.specs.Numbered.{numbered_message, numbered_version}
pub use Rattle.mq_wire.specs.Queries.{current_query, current_response, FieldsAt, older_spans, query_of, query_spans, source_spans, suppress_of}
pub use Rattle.mq_wire.specs.Records.{auxiliary_length, record_at, record_count, record_end, record_source_count, record_spans, records_at, spans_of_records}
pub use Rattle.mq_wire.specs.Spelling.{cut_in, fault_within, first_of, group_of, HasLength, message_of, ReadsAs, ReadsQuery, ReadsWithin, spans_of, Spells}
pub use Rattle.mq_wire.specs.declared.message.Message.TheVariants.{Leave as ALeave, OldReport, Query as AQuery, Query as QueryMessage, Report as AReport}
pub use Rattle.mq_wire.specs.{declared.message.MessageType.MessageType, declared.message.WireFault.WireFault, declared.query.Query.Query as QueryOf}
pub use Rattle.mq_wire.specs.declared.message.MessageType.TheVariants.{Leave, OlderReport, Query, Query as QueryType, Report}
pub use Rattle.mq_wire.specs.declared.message.WireFault.TheVariants.{Checksum, QueryLength, Truncated, UnknownType}
pub use Rattle.mq_wire.specs.declared.query.QueryVersion.{QueryVersion, TheVariants.Current, TheVariants.Older}
unfoldable pub use Rattle.mq_wire.specs.{Codes.code_of, Spelling.fault_of}
