-- Names that the proofs of this crate import from libraries and from its definitions.
pub use Rattle.arrayvec.specs.ArrayVec.{array_vec_len}
pub use Rattle.std.proofs.Common.{[], ap, append-nil, append_assoc, arith, Bool, Bor, codes, decimal, drop, Err, false, flat_map, inl, inr, List, None, Ok}
pub use Rattle.std.proofs.Common.{Option, option_copied, refl, Result, Some, subst, sym, take, true, ℕ, ⊎_elim, ◌*◌, ◌++◌, ◌+◌, ◌||◌, ◌∙◌, ◌≡◌, ◌≤◌, ◌⊎◌}
pub use Rattle.std.proofs.{KnownBytes.Appends-kept, Math.Bool.or-false, Math.Bool.or-true, lemmas.Bool.Decides.nat_tests, lemmas.Result.err_from_is_err_and}
pub use Rattle.std.specs.Io.KnownBytes.{Keeps}
pub use Rattle.mq_check.specs.{Numbered.numbered_announced, declared.check_terms.CheckTerms.CheckTerms, declared.totals.Totals.Totals}
pub use Rattle.mq_command.specs.declared.{Protocol.Protocol, Protocol.TheVariants.Igmp, Protocol.TheVariants.Mld, replay.Settings.Settings}
pub use Rattle.mq_command.specs.declared.Request.{Request, TheVariants.Check, TheVariants.Convert, TheVariants.Message, TheVariants.Replay, TheVariants.Show}
pub use Rattle.mq_convert.specs.declared.choice.Choice.{Choice}
pub use Rattle.mq_lines.{proofs.Parts.four_parts, specs.Objects.comma_before, specs.Objects.items_from}
pub use Rattle.mq_link.specs.Configuration.{Configuration}
pub use Rattle.mq_pcap.specs.Filling.{InputState}
pub use Rattle.mq_text.specs.Printing.{output_of, OutputState}
pub use Rattle.mq_walk.specs.declared.capture_fault.CaptureFault.{CaptureFault}
pub use Rattle.mq_wire.specs.Family.{Family}
pub use Rattle.mquerier.specs.{Changes.BreaksOff, Changes.Input, Changes.input_by, Changes.Output, Changes.output_by, Taking.taken_line}
pub use Rattle.mquerier.specs.Failures.{check_line, count_field, link_item, link_text, others, status_of}
pub use Rattle.mquerier.specs.{Replays.asked_configuration, Replays.family_of, Replays.SpellsAddress, declared.failure.Failure.Failure}
pub use Rattle.mquerier.specs.Status.{Concludes, IsTold, Performs, PerformsCheck, PerformsConversion, request_line, Told}
pub use Rattle.mquerier.specs.{Working.ChecksAt, Working.IsConfigured, Working.IsUnwritten, Working.Works, declared.checking.CheckOptions.CheckOptions}
pub use Rattle.mquerier.specs.declared.failure.Failure.TheVariants.{Capture, Configuration as Unconfigured, Conversion, ConversionRead, Gap, Memory}
pub use Rattle.mquerier.specs.declared.failure.Failure.TheVariants.{NoAddresses, NotAnAddress, NotHex, UntilTooLarge, Waiting, Write}
