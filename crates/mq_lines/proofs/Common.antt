-- Names that the proofs of this crate import from libraries and from its definitions.
pub use Rattle.std.proofs.Common.{[], ap, append_assoc, arith, Bool, codes, false, List, refl, sym, ℕ, ◌++◌, ◌∙◌, ◌∷◌, ◌≡◌}
pub use Rattle.std.proofs.lemmas.{Bool.Decides.nat_tests, Result.err_from_is_err_and}
pub use Rattle.mq_text.proofs.Passing.{both_passed, broken_behind, broken_within, held_more, nothing_passed, then_put}
pub use Rattle.mq_text.specs.Printing.{Passes}
pub use Rattle.mq_wire.specs.{Family.Family, Family.Igmp, Family.Mld, Numbered.numbered_message, Numbered.numbered_query}
pub use Rattle.mq_lines.specs.{Messages.either, Messages.record_item, Messages.record_items, Messages.source_item, Messages.source_items, Objects.items_from}
