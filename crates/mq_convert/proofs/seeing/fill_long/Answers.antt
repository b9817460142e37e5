use Rattle.mq_convert.proofs.Common.{arith, err_from_is_err_and}
use Rattle.mq_convert.proofs.Seen.{first_there, middle_cut, middle_failed, middle_there, last_failed, last_filled}
use Rattle.mq_convert.proofs.seeing.fill_long.Goals as goal

pub returns-in_err-passed-clause-fills : goal.returns-in_err-passed-clause-fills
returns-in_err-passed-clause-fills g c =
    let p = err_from_is_err_and c.from_residual-in_err-passed.result c.from_residual-in_err-passed.ensures.1 in
    let first = first_there _ _ _ _ _ _ _ c.if-first-lt-FIRST_SEEN.false c.in_ok-first.ensures.fills in
    rw (p.1, p.2) (middle_failed _ _ _ _ _ _ _ _ _ c.requires.long first c.in_err-passed.ensures.passes)

pub returns-then-passed-size-clause-fills : goal.returns-then-passed-size-clause-fills
returns-then-passed-size-clause-fills g c =
    let first = first_there _ _ _ _ _ _ _ c.if-first-lt-FIRST_SEEN.false c.in_ok-first.ensures.fills in
    middle_cut _ _ _ _ _ _ _ _ _ c.requires.long c.if-passed-size.true first c.in_ok-passed.ensures.passes

pub returns-in_err-last-clause-fills : goal.returns-in_err-last-clause-fills
returns-in_err-last-clause-fills g c =
    let p = err_from_is_err_and c.from_residual-in_err-last.result c.from_residual-in_err-last.ensures.1 in
    let first = first_there _ _ _ _ _ _ _ c.if-first-lt-FIRST_SEEN.false c.in_ok-first.ensures.fills in
    let passed = middle_there _ _ _ _ _ _ _ _ _ c.requires.long c.if-passed-size.false first c.in_ok-passed.ensures.passes in
    rw (p.1, p.2) (last_failed _ _ _ _ _ _ _ _ _ _ c.requires.long passed c.in_err-last.ensures.fills)

pub returns-clause-fills : goal.returns-clause-fills
returns-clause-fills g c =
    let head = c.requires.head in
    let room = c.requires.room in
    let first = first_there _ _ _ _ _ _ _ c.if-first-lt-FIRST_SEEN.false c.in_ok-first.ensures.fills in
    let passed = middle_there _ _ _ _ _ _ _ _ _ c.requires.long c.if-passed-size.false first c.in_ok-passed.ensures.passes in
    last_filled _ _ _ _ _ _ _ _ _ _ (omega (arith, head, room)) c.requires.long passed c.in_ok-last.ensures.fills
