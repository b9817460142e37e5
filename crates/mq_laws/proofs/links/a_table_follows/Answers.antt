use Rattle.mq_laws.proofs.Common.{cond, ap, link_at, filter_at, nothing_of_any}
use Rattle.mq_laws.proofs.Following.{all_followed, at_start}
use Rattle.mq_laws.proofs.links.a_table_follows.Goals as goal

pub returns-clause-run : goal.returns-clause-run
returns-clause-run c config start happenings run = all_followed config (link_at config start) nothing_of_any happenings (at_start config start) run

pub returns-clause-answered : goal.returns-clause-answered
returns-clause-answered c config event before after addresses table group those =
    ap (λ b. cond b (filter_at after group) (table group)) (those.each group)
