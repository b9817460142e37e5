use Rattle.mq_sets.proofs.Found.{found_where_member, found_has_number, maps_each_number}
use Rattle.mq_sets.proofs.items.numbers_find_items.Goals as goal

pub returns-clause-member : goal.returns-clause-member
returns-clause-member g c = found_where_member g.T.Keyed.key_number

pub returns-clause-number : goal.returns-clause-number
returns-clause-number g c = found_has_number g.T.Keyed.key_number

pub returns-clause-mapped : goal.returns-clause-mapped
returns-clause-mapped g c = maps_each_number g.T.Keyed.key_number
