-- Names that the proofs of this crate import from libraries and from its definitions.
pub use Rattle.std.proofs.Common.{[], ap, Err, inl, inr, refl, rules, Some, ℕ, ◌++◌, ◌∷◌, ◌≡◌}
pub use Rattle.std.proofs.Math.Seq.{drop-nil}
pub use Rattle.mq_convert.specs.Converting.{Converts}
pub use Rattle.mq_replay.specs.Listing.{Shows}
pub use Rattle.mq_walk.specs.Reports.{Reports}
pub use Rattle.mq_page.specs.{Asked.configuration_asked, Calls.unread, TextRooms.passed_in, declared.page_fault.PageFault.TheVariants.Memory}
