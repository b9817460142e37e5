use Rattle.mq_check.proofs.Common.{ap, FindingWriterState}
use Rattle.mq_count.specs.Streams.{has_failed}
use Rattle.mq_walk.proofs.{Finished.failed_end, Finished.granted_end, WrittenReports.finished}
use Rattle.mq_check.proofs.CheckedOver.{only_waits}
use Rattle.mq_check.proofs.checked_capture.check_on.Goals as goal

pub returns-clause-checks : goal.returns-clause-checks
returns-clause-checks g c =
    let puts = c.check_file-answer.ensures.puts in
    finished _ (only_waits _ c.args.check.now.steps.terms) _ _ _ _ _ _ _ _ _ _ (ap (λ (t : FindingWriterState). t.held) c.requires.told)
    (rw (← c.check.view_is) at puts) c.finish.ensures

pub returns-clause-failed : goal.returns-clause-failed
returns-clause-failed g c = failed_end _ _ _ _ _ _ (has_failed c.args.writer.now) c.finish.ensures c.check_file-answer.ensures.failed

pub returns-clause-no_memory : goal.returns-clause-no_memory
returns-clause-no_memory g c = granted_end _ _ _ _ _ _ c.finish.ensures c.check_file-answer.ensures.no_memory
