use Rattle.mq_sets.proofs.Rules.{rules_keep_order, rules_act_at_each_number}
use Rattle.mq_sets.proofs.merging.rules_act_at_each_key.Goals as goal

pub returns-clause-ascending : goal.returns-clause-ascending
returns-clause-ascending g c =
    rules_keep_order g.L.Keyed.key_number g.R.Keyed.key_number g.T.Keyed.key_number

pub returns-clause-at_each_number : goal.returns-clause-at_each_number
returns-clause-at_each_number g c =
    rules_act_at_each_number g.L.Keyed.key_number g.R.Keyed.key_number g.T.Keyed.key_number
