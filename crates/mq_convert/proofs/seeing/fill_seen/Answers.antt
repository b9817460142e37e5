use Rattle.std.proofs.Common.{arith}
use Rattle.mq_convert.proofs.Seen.{short_filled}
use Rattle.mq_convert.proofs.seeing.fill_seen.Goals as goal

pub returns-then-size-le-MOST_SEEN-clause-fills : goal.returns-then-size-le-MOST_SEEN-clause-fills
returns-then-size-le-MOST_SEEN-clause-fills g c =
    let head = c.requires.head in
    let room = c.requires.room in
    short_filled _ _ _ _ _ _ _ _ (omega (arith, head, room)) c.if-size-le-MOST_SEEN.true c.fill.ensures.fills
