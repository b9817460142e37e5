use Rattle.mq_laws.proofs.Common.{IsWellFormed-older_report, IsWellFormed-group_lowered, IsWellFormed-sources_lowered}
use Rattle.mq_laws.proofs.groups.reports_and_queries_keep_form.Goals as goal

pub returns-clause-older_reported : goal.returns-clause-older_reported
returns-clause-older_reported c = IsWellFormed-older_report

pub returns-clause-group : goal.returns-clause-group
returns-clause-group c = IsWellFormed-group_lowered

pub returns-clause-sources : goal.returns-clause-sources
returns-clause-sources c = IsWellFormed-sources_lowered
