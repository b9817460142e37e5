use Rattle.mq_laws.proofs.Ordered.{KnownOfLinks, ahead_in_order, events_in_order}
use Rattle.mq_laws.proofs.checks.what_happens_comes_in_order.Goals as goal

known : goal.After-datagrams_leave_nothing_due → KnownOfLinks
known c = record {
  start = c.links_keep_form_and_limits.ensures.start;
  ticked = c.links_keep_form_and_limits.ensures.tick;
  received = c.links_keep_form_and_limits.ensures.datagram;
  later_tick = c.ticks_are_quiet_until_the_next_moment.ensures.later;
  later_datagram = c.datagrams_leave_nothing_due.ensures;
}

pub returns-clause-order : goal.returns-clause-order
returns-clause-order c k faultless = events_in_order (known c) k.config k.until k.form k.packets faultless

pub returns-clause-ahead : goal.returns-clause-ahead
returns-clause-ahead c k faultless = ahead_in_order (known c) k.config k.within k.until k.form k.packets faultless
