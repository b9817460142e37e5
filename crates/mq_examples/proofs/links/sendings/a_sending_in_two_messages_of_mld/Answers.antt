use Rattle.mq_examples.proofs.Common.{ℕ, ◌+◌, true, refl, List, Mld, mld_limited, mld_from, link_local, a_group, a_source, sources_from, code_of}
use Rattle.mq_examples.proofs.{Alike.Ascend, AlikeLinks.Suits}
use Rattle.mq_examples.proofs.SeveralMessages.{ascend_from, at_0, at_1000, at_2000, at_3000, at_4000}
use Rattle.mq_examples.proofs.links.sendings.a_sending_in_two_messages_of_mld.Goals as goal

abbrev rest : List ℕ
rest = sources_from (a_source + 1) 89

ascend : Ascend (sources_from a_source 90)
ascend = ascend_from a_source 90

suits : Suits Mld (mld_limited 90).limits (mld_limited 90).own (mld_from (link_local 2) 1 true) a_group (sources_from a_source 90)
suits = record { ascend = ascend; taken = λ r. refl; allow = refl; block = refl; unscheduled = refl; scheduled = refl }

pub returns : goal.returns
unfolding code_of
returns c = record {
  begins = at_0 Mld _ _ _ refl;
  allowed = at_1000 Mld _ _ _ _ a_source rest suits;
  blocked = at_2000 Mld _ _ _ _ a_source rest _ _ _ suits refl refl refl;
  asked_again = at_3000 Mld _ _ _ a_source rest _ _ 3 _ ascend refl refl refl;
  gone = at_4000 Mld _ _ _ a_source rest 5 ascend refl;
}
