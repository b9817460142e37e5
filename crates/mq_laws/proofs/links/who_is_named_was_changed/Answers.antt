use Rattle.mq_laws.proofs.Common.{sym, ◌∙◌, group_at, tick_of}
use Rattle.mq_sets.proofs.KnownBySet.{known_by_set}
use Rattle.mq_laws.proofs.{SpokenGroups.as_the_tick, SpokenGroups.as_the_tick_unread, TurnedSources.changes_where_turned, TurnedSources.changes_where_apart}
use Rattle.mq_laws.proofs.links.who_is_named_was_changed.Goals as goal

pub returns-clause-filter : goal.returns-clause-filter
returns-clause-filter c = changes_where_apart

pub returns-clause-sources : goal.returns-clause-sources
returns-clause-sources c = changes_where_turned

pub returns-clause-tick : goal.returns-clause-tick
returns-clause-tick c config now state group =
    changes_where_turned (group_at state.groups group).group (group_at (tick_of config now state).state.groups group).group

pub returns-clause-spoken_of : goal.returns-clause-spoken_of
returns-clause-spoken_of c = as_the_tick

pub returns-clause-unread : goal.returns-clause-unread
returns-clause-unread c = as_the_tick_unread

pub returns-clause-one_answer : goal.returns-clause-one_answer
returns-clause-one_answer c test a b of_a of_b =
    known_by_set (λ n. n) (λ n k same. same) a b of_a.ascending of_b.ascending (λ n. of_a.each n ∙ sym (of_b.each n))
