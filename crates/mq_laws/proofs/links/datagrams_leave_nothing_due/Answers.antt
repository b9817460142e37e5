use Rattle.mq_laws.proofs.DatagramsAhead.{later_after_datagram}
use Rattle.mq_laws.proofs.links.datagrams_leave_nothing_due.Goals as goal

pub returns : goal.returns
returns c = later_after_datagram
