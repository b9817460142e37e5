use Rattle.mq_examples.proofs.Common.{ℕ, ◌+◌, refl, List, Igmp, the_group, limited, host, from, sources_from, code_of}
use Rattle.mq_examples.proofs.{Alike.Ascend, AlikeLinks.Suits}
use Rattle.mq_examples.proofs.SeveralMessages.{ascend_from, at_1000, at_2000, at_3000, at_4000}
use Rattle.mq_examples.proofs.links.sendings.a_sending_in_three_messages.Goals as goal

abbrev rest : List ℕ
rest = sources_from ((host 1) + 1) 1023

ascend : Ascend (sources_from (host 1) 1024)
ascend = ascend_from (host 1) 1024

suits : Suits Igmp (limited 1024 1024 16384 256).limits (limited 1024 1024 16384 256).own (from 1) the_group (sources_from (host 1) 1024)
suits = record { ascend = ascend; taken = λ r. refl; allow = refl; block = refl; unscheduled = refl; scheduled = refl }

pub returns : goal.returns
unfolding code_of
returns c = record {
  allowed = at_1000 Igmp _ _ _ _ (host 1) rest suits;
  blocked = at_2000 Igmp _ _ _ _ (host 1) rest _ _ _ suits refl refl refl;
  asked_again = at_3000 Igmp _ _ _ (host 1) rest _ _ 4 _ ascend refl refl refl;
  gone = at_4000 Igmp _ _ _ (host 1) rest 7 ascend refl;
}
