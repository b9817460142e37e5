-- Names that the proofs of this crate import from libraries and from its definitions.
pub use Rattle.std.proofs.Common.{[], ap, append-nil, arith, get_or, length, length-append, List, max, min, None, Option, option_to_list, refl, Some, subst}
pub use Rattle.std.proofs.Common.{suc, sym, take, take_all, true, zero, ℕ, ◌++◌, ◌+◌, ◌-◌, ◌/◌, ◌<◌, ◌∙◌, ◌∷◌, ◌≡◌, ◌≤◌}
pub use Rattle.std.proofs.lemmas.List.{take_more, take_more_set}
pub use Rattle.mq_count.specs.{Spending.SpendingIsANumber, Spending.Spends, Timed.compared, Timed.compared_at, Timed.least, Timed.lies_ahead, Timed.moments_by}
