-- Names that the proofs of this crate import from libraries and from its definitions.
pub use Rattle.std.proofs.Common.{[], add-one, All, ap, append-nil, append_assoc, arith, Bool, cond, Contains, drop, drop-drop, drop-set-lt, drop_at, eq-eqb}
pub use Rattle.std.proofs.Common.{eqb-true, false, filter, filter_map, get_or, get_or-drop, get_or-set_other, get_or-set_same, get_or-take, HoldsAt}
pub use Rattle.std.proofs.Common.{if◌then◌else◌, inl, inr, insert, is_some, le-leb, le-ltb, length, length-append, length-drop, length-set, length-take, List}
pub use Rattle.std.proofs.Common.{lt-ltb, ltb, ltb-true, map, min, nat_cmp, None, Option, option_and_then, option_map, refl, remove, replicate, rules, set}
pub use Rattle.std.proofs.Common.{set-set, slice_index, slice_set, Some, subst, suc, sum, sum_by, sym, take, take-add, take-append-drop, take-take, take_all}
pub use Rattle.std.proofs.Common.{take_at, true, Vec, vec_capacity, zero, ℕ, ⊎_elim, ◌*◌, ◌++◌, ◌+◌, ◌-◌, ◌/◌, ◌<◌, ◌==◌, ◌^◌, ◌||◌, ◌∙◌, ◌∷◌, ◌≡◌, ◌≤◌}
pub use Rattle.std.proofs.{Math.Seq.drop-append-add, Math.Seq.map-set_same, lemmas.Grind.common_steps}
pub use Rattle.std.proofs.lemmas.Bool.{cases_eq, cases_lt, cond-false, cond-true, false≢true, lt-leb, Decides.eqb_tells, Decides.nat_tests}
pub use Rattle.std.proofs.lemmas.List.{drop-append-le, drop-map, drop_all, drop_more, get_or-append_right, get_or-map, get_or-replicate, get_or_append_left}
pub use Rattle.std.proofs.lemmas.List.{get_or_at, get_or_default, get_or_past, get_or_push, length-map, length-replicate, map-append, map-set, same_lists}
pub use Rattle.std.proofs.lemmas.List.{set-get_or, set_split, take-append-le, take-map, take-set, take-set-le, take_more, take_more_set, take_rest}
pub use Rattle.std.proofs.lemmas.List.{Concat.flat_map-append, Concat.flat_map-cons, Concat.get_or-flat_map, Concat.length-flat_map, Kept.AllPairs-cons}
pub use Rattle.std.proofs.lemmas.List.Edits.{get_or-insert_above, get_or-insert_at, get_or-insert_below, get_or-remove_below, insert-append_left}
pub use Rattle.std.proofs.lemmas.List.Edits.{insert-append_right, length-insert, length-remove, paste_all, remove-append_left, remove-append_right}
pub use Rattle.std.proofs.lemmas.List.Elements.{All-append, All-cons, All-drop, All-filter, All-head, All-map, All-nil, All-pop, All-push, All-set, All-tail}
pub use Rattle.std.proofs.lemmas.List.{Elements.All-take, Elements.All-weaker, Elements.at_read, Elements.filter_passes, Kept.AllPairs-filter}
pub use Rattle.std.proofs.lemmas.List.Folds.{Any-from_list_any, find-append, length-flat_map-take, list_any-append, list_any_at, list_any_none}
pub use Rattle.std.proofs.lemmas.List.{Folds.sum_by-replicate, Sums.sum_by-set, Sums.sum_by-take-le, Sums.sum_by_more, Sums.sum_by_more_le, Sums.sum_by_push}
pub use Rattle.std.proofs.lemmas.List.Sums.{count_by-le-length, get_or-le-sum_by, sum-map, sum_by-append, sum_by-cons, sum_by-insert, sum_by-le, sum_by-remove}
pub use Rattle.std.specs.{Cmp.ranked, List.AllWithin, List.cons_option, List.list_any, List.splice, Option.option_or, Ordering.eq_by_cmp}
pub use Rattle.std.specs.declared.cmp.Ordering.TheVariants.{Equal, Greater, Less}
pub use Rattle.mq_arena.specs.Vectors.{bytes_for, item_bytes}
pub use Rattle.mq_count.{proofs.Spent.Spends-join, proofs.Spent.Spends-join_within, proofs.Spent.Spends-none, proofs.Spent.Spends-within, specs.Spending.Spends}
pub use Rattle.mq_sets.specs.Ascending.{FoundHasNumber, FoundWhereMember, IsAscending, item_with, KnownBySet, MapsEachNumber, set_of}
pub use Rattle.mq_sets.specs.Merging.{comparisons_along, have_both_sides, merged_lists, number_of, paired}
pub use Rattle.mq_sets.specs.NumberedKeys.{above_least, AreFilled, first_key, have_to_join, IsSpotFor, IsTaken, IsWithout, items_by, joined, key_at, key_in}
pub use Rattle.mq_sets.specs.NumberedKeys.{moved_behind, moved_by_join, moved_by_joins, moved_by_remove, number_at, NumberedKey, NumberedKeysState, numbers_in}
pub use Rattle.mq_sets.specs.{NumberedKeys.PagesState, NumberedKeys.rank_of, NumberedKeys.small_pairs, declared.extents.Extent.Extent, declared.spots.Spot.Spot}
pub use Rattle.mq_sets.specs.Pools.{AreApart, cells_in, cells_of, cells_reserved, cells_said, IsApart, IsPlaced, IsStored, IsWithin, MovesArePaid, NamesRows}
pub use Rattle.mq_sets.specs.{Pools.PoolState, Pools.rows_of, Pools.size_at, Slots.AreSlots, Slots.IsCell, Slots.item_in, Slots.items_in, Slots.times}
pub use Rattle.mq_sets.specs.Search.{BitlenIsLeast, IsPlaceFor}
unfoldable pub use Rattle.mq_sets.specs.{NumberedKeys.moved_in_order, Search.bitlen}
