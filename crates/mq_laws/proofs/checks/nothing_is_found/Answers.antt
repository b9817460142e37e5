use Rattle.mq_laws.proofs.Common.{all_wanted_in}
use Rattle.mq_laws.proofs.Laws.{none_of_moved, seen_are_moved}
use Rattle.mq_laws.proofs.checks.nothing_is_found.Goals as goal

pub returns : goal.returns
returns c within timing flags end events ahead began order after on_time room are =
    none_of_moved within timing flags end events ahead began order after on_time room
    (seen_are_moved within (all_wanted_in within timing flags events) events are)
