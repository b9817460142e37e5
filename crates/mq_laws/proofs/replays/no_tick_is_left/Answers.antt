use Rattle.mq_laws.proofs.TicksDone.{none_before}
use Rattle.mq_laws.proofs.replays.no_tick_is_left.Goals as goal

pub returns : goal.returns
returns c = none_before c.links_keep_form_and_limits.ensures.tick c.ticks_are_quiet_until_the_next_moment.ensures.later
