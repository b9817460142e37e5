use Rattle.mq_laws.proofs.Common.{IsWellFormed-link_at, link_at}
use Rattle.mq_laws.proofs.Forms.{after_all, after_datagram, after_tick}
use Rattle.mq_laws.proofs.links.links_keep_form_and_limits.Goals as goal

pub returns-clause-start : goal.returns-clause-start
returns-clause-start c = IsWellFormed-link_at

pub returns-clause-tick : goal.returns-clause-tick
returns-clause-tick c = after_tick

pub returns-clause-datagram : goal.returns-clause-datagram
returns-clause-datagram c = after_datagram

pub returns-clause-run : goal.returns-clause-run
returns-clause-run c config start hs faultless run = after_all config (link_at config start) hs faultless (IsWellFormed-link_at config start faultless) run
