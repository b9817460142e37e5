use Rattle.mq_convert.proofs.Common.{◌≡◌, ◌≤◌, true, arith, length, err_from_is_err_and, is_start, most_seen}
use Rattle.mq_convert.proofs.NextBlocks.{endless_next, head_cut, head_there, size_faulty, body_failed, body_cut, whole_next}
use Rattle.mq_convert.proofs.next_block.next_block.Goals as goal
use Rattle.mq_convert.proofs.next_block.next_block.Goals.{else-count-eq0-via-then-count-eq0+else-not-is_start, else-count-eq0-via-else-count-eq0}

pub returns-then-number-ge-ENDLESS-clause-next : goal.returns-then-number-ge-ENDLESS-clause-next
returns-then-number-ge-ENDLESS-clause-next g c =
    let some : c.in_ok-count.count ≡ 0 → is_start c.args.kind ≡ true = λ none.
    elim c.else-count-eq0.branch [
      | else-count-eq0-via-then-count-eq0+else-not-is_start w ↦ grind (arith, w.is_start.ensures, w.if-not-is_start.false)
      | else-count-eq0-via-else-count-eq0 w ↦ absurd (w.if-count-eq0.false none)
    ] in
    let filled = rw c.head_size-head.ensures.size at c.in_ok-count.ensures.fills in
    rw c.faulty.ensures (endless_next _ _ _ _ _ _ _ some c.if-number-ge-ENDLESS.true filled)

pub returns-then-count-head-clause-next : goal.returns-then-count-head-clause-next
returns-then-count-head-clause-next g c =
    let some : c.in_ok-count.count ≡ 0 → is_start c.args.kind ≡ true = λ none.
    elim c.else-count-eq0.branch [
      | else-count-eq0-via-then-count-eq0+else-not-is_start w ↦ grind (arith, w.is_start.ensures, w.if-not-is_start.false)
      | else-count-eq0-via-else-count-eq0 w ↦ absurd (w.if-count-eq0.false none)
    ] in
    let filled = rw c.head_size-head.ensures.size at c.in_ok-count.ensures.fills in
    let short = rw c.head_size-head.ensures.size at c.if-count-head.true in
    rw c.faulty-then-count-head.ensures (head_cut _ _ _ _ _ _ _ some c.if-number-ge-ENDLESS.false short filled)

pub returns-in-Err-clause-next : goal.returns-in-Err-clause-next
returns-in-Err-clause-next g c =
    let filled = rw c.head_size-head.ensures.size at c.in_ok-count.ensures.fills in
    let whole = rw c.head_size-head.ensures.size at c.if-count-head.false in
    let says = rw c.head_size-head.ensures.size at c.in-Err.ensures.size in
    rw c.faulty-in-Err.ensures (size_faulty _ _ _ _ _ _ (head_there _ _ _ _ _ _ whole filled) c.if-number-ge-ENDLESS.false says c.in-Err.ensures.uncut)

pub returns-in_err-fill_seen-clause-next : goal.returns-in_err-fill_seen-clause-next
returns-in_err-fill_seen-clause-next g c =
    let p = err_from_is_err_and c.from_residual-in_err-fill_seen.result c.from_residual-in_err-fill_seen.ensures.1 in
    let filled = rw c.head_size-head.ensures.size at c.in_ok-count.ensures.fills in
    let whole = rw c.head_size-head.ensures.size at c.if-count-head.false in
    let says = rw c.head_size-head.ensures.size at c.in-Ok.ensures.size in
    let rest = rw c.head_size-head.ensures.size at c.in_err-fill_seen.ensures.fills in
    rw (p.1, p.2, c.in_err-fill_seen.ensures.fault) (body_failed _ _ _ _ _ _ _ _ _ (head_there _ _ _ _ _ _ whole filled) says rest)

pub returns-then-branch-size-clause-next : goal.returns-then-branch-size-clause-next
returns-then-branch-size-clause-next g c =
    let filled = rw c.head_size-head.ensures.size at c.in_ok-count.ensures.fills in
    let whole = rw c.head_size-head.ensures.size at c.if-count-head.false in
    let says = rw c.head_size-head.ensures.size at c.in-Ok.ensures.size in
    let rest = rw c.head_size-head.ensures.size at c.in_ok-fill_seen.ensures.fills in
    rw c.faulty-then-branch-size.ensures
    (body_cut _ _ _ _ _ _ _ _ _ (head_there _ _ _ _ _ _ whole filled) c.if-number-ge-ENDLESS.false says c.if-branch-size.true rest)

pub returns-clause-next : goal.returns-clause-next
returns-clause-next g c =
    let filled = rw c.head_size-head.ensures.size at c.in_ok-count.ensures.fills in
    let whole = rw c.head_size-head.ensures.size at c.if-count-head.false in
    let says = rw c.head_size-head.ensures.size at c.in-Ok.ensures.size in
    let rest = rw c.head_size-head.ensures.size at c.in_ok-fill_seen.ensures.fills in
    let same = c.in_ok-count.ensures.fills.size in
    let room : most_seen ≤ length c.fill.new.buffer = omega (arith, same, c.requires) in
    whole_next _ _ _ _ _ _ _ _ _ (head_there _ _ _ _ _ _ whole filled) c.if-number-ge-ENDLESS.false says c.if-branch-size.false room c.in-Ok.ensures.within rest
