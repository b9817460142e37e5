use Rattle.mq_laws.proofs.Named.{verdict_names, limits_given, none_passed}
use Rattle.mq_laws.proofs.links.limits_are_named_in_their_order.Goals as goal

pub returns-clause-verdict : goal.returns-clause-verdict
returns-clause-verdict c = verdict_names

pub returns-clause-groups : goal.returns-clause-groups
returns-clause-groups c limits groups changed = (limits_given limits groups changed).groups

pub returns-clause-group_sources : goal.returns-clause-group_sources
returns-clause-group_sources c limits groups changed = (limits_given limits groups changed).group_sources

pub returns-clause-sources : goal.returns-clause-sources
returns-clause-sources c limits groups changed = (limits_given limits groups changed).sources

pub returns-clause-scheduled : goal.returns-clause-scheduled
returns-clause-scheduled c limits groups changed = (limits_given limits groups changed).scheduled

pub returns-clause-none : goal.returns-clause-none
returns-clause-none c = none_passed
