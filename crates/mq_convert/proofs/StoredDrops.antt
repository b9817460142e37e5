-- The packets that an interface dropped, in the context of a block.
use Rattle.mq_convert.proofs.Common.{◌≡◌, ℕ, List, length, Option, None, Some, ◌∙◌, sym, subst, slice_get, slice_set, refill, length-set, take_at, counted_on}
use Rattle.mq_convert.proofs.Common.{Interface, ContextState, with_dropped}

set_back : (xs : List Interface) (id : ℕ) (x : Interface) → refill (length xs) xs (slice_set xs id x) ≡ slice_set xs id x
set_back xs id x = take_at (slice_set xs id x) _ (length xs) (length-set xs id x)

-- the new context, by the interface stored there
abbrev stored : ContextState → (id more : ℕ) → Option Interface → ContextState
stored context id more None = context
stored context id more (Some interface) = record context {
  interfaces = slice_set context.interfaces id (record interface { dropped = counted_on interface.dropped more });
  dropped = counted_on context.dropped more;
}

-- an interface with another number of dropped packets was stored
pub dropped_stored : (context : ContextState) (id more dropped : ℕ) (interface new : Interface) (lent : List Interface)
    → slice_get context.interfaces id ≡ Some interface → new ≡ record interface { dropped = counted_on interface.dropped more }
    → dropped ≡ counted_on context.dropped more → lent ≡ context.interfaces
    → record context { interfaces = refill (length context.interfaces) context.interfaces (slice_set lent id new); dropped = dropped }
    ≡ with_dropped id more context
unfolding with_dropped
dropped_stored context id more dropped interface new lent found is count same =
    let P : Option Interface → Type 0 = λ at.
    record context { interfaces = refill (length context.interfaces) context.interfaces (slice_set lent id new); dropped = dropped }
    ≡ stored context id more at in
    subst P (sym found) (λ i. record context {
      interfaces = ((λ j. refill (length context.interfaces) context.interfaces (slice_set (same j) id (is j))) ∙ set_back context.interfaces id _) i;
      dropped = count i;
    })
