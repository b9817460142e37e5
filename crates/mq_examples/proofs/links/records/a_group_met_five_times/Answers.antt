use Rattle.mq_examples.proofs.Common.{refl}
use Rattle.mq_examples.proofs.Worked.{become_all}
use Rattle.mq_examples.proofs.links.records.a_group_met_five_times.Goals as goal

pub returns : goal.returns
returns c = record {
  with_another_between = become_all _ _ _ _ _ _ refl refl refl;
  with_others_that_stop = become_all _ _ _ _ _ _ refl refl refl;
  made_by_the_first = become_all _ _ _ _ _ _ refl refl refl;
  with_others_ignored = become_all _ _ _ _ _ _ refl refl refl;
  with_others_refused = become_all _ _ _ _ _ _ refl refl refl;
}
