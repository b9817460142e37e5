-- Values that are judged before a round is done.
use Rattle.std.specs.Prelude.{Bool, Some, nat_lt}
use Rattle.mq_table.specs.declared.sources.Source.{Source}
use Rattle.mq_table.specs.Group.{retransmissions_of}
use Rattle.mq_link.specs.declared.statement.Verdict.{Verdict as StoredVerdict}
use Rattle.mq_link.specs.declared.statement.Verdict.TheVariants.{Applied, Denied, Ignored, Refused}
use Rattle.mq_link.specs.Counters.{Verdict, Applied as VerdictApplied, Denied as VerdictDenied, Ignored as VerdictIgnored, Refused as VerdictRefused}

-- a held source has a retransmission to go beside the next
abbrev pub item_has_more : {K : Type 0} → Source K → Bool
item_has_more x = nat_lt 1 (retransmissions_of (Some x.timer))

-- the verdict on a statement, as the definitions have it
abbrev pub verdict_of : StoredVerdict → Verdict
verdict_of Applied = VerdictApplied
verdict_of Ignored = VerdictIgnored
verdict_of Denied = VerdictDenied
verdict_of (Refused name) = VerdictRefused name
