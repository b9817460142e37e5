use Rattle.mq_held.proofs.Common.{◌∙◌, sym, ap, DeadlinesState}
use Rattle.mq_held.proofs.StoredMoments.{remove-absent}
use Rattle.mq_held.proofs.group_edits.remove_moment.Goals as goal

pub returns-else-is_there-clause-moments : goal.returns-else-is_there-clause-moments
returns-else-is_there-clause-moments g c =
    let absent = c.requires.there ∙ c.if-is_there.false in
    ap (λ m. let s : DeadlinesState = record { moments = m; room = c.args.moments.now.room } in s)
    (sym (remove-absent c.args.moments.now.moments c.args.number absent))
