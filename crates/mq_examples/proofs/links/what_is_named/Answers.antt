use Rattle.mq_examples.proofs.Common.{ℕ, List, [], ◌∷◌, refl, Include, until, the_group, ListedLink, early, from, host, igmp, listed, octets, saying, fault_of}
use Rattle.mq_examples.proofs.Common.{read_of}
use Rattle.mq_examples.proofs.KnownChanges.{Reports, record_leaves, record_names, tick_names}
use Rattle.mq_examples.proofs.links.what_is_named.Goals as goal

-- the Reports that allow and block a source, and the group that is held between them
abbrev allowing : List ℕ
allowing = octets 20 0x2200e5f90000000105000001e80101010a000001

abbrev blocking : List ℕ
blocking = octets 20 0x2200e4f90000000106000001e80101010a000001

abbrev held : ListedLink
held = early 1000 ((the_group, listed Include ((host 1, until 261000) ∷ [])) ∷ [])

first : Reports igmp (from 1) allowing 1000 (early 0 []) the_group (saying the_group 5 (host 1 ∷ []))
unfolding read_of fault_of
first = record { read = refl; taken = refl; quiet = refl }

again : Reports igmp (from 1) allowing 1500 held the_group (saying the_group 5 (host 1 ∷ []))
unfolding read_of fault_of
again = record { read = refl; taken = refl; quiet = refl }

blocks : Reports igmp (from 1) blocking 2000 held the_group (saying the_group 6 (host 1 ∷ []))
unfolding read_of fault_of
blocks = record { read = refl; taken = refl; quiet = refl }

pub returns : goal.returns
returns c = record {
  joined = record_names igmp (from 1) allowing 1000 (early 0 []) the_group (saying the_group 5 (host 1 ∷ [])) (host 1) first refl;
  joined_again = record_leaves igmp (from 1) allowing 1500 held the_group (saying the_group 5 (host 1 ∷ [])) again refl;
  blocked = record_leaves igmp (from 1) blocking 2000 held the_group (saying the_group 6 (host 1 ∷ [])) blocks refl;
  gone = tick_names _ _ _ _ (host 1) refl;
  excluded = tick_names _ _ _ _ (host 1) refl;
}
