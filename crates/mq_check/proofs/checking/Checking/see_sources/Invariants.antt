-- the sources so far, and then the rest, have the result of all
use Rattle.mq_check.proofs.Common.{◌≡◌, fold, list_map, Source, one_seen, numbered_terms, standing_in}
use Rattle.mq_check.proofs.checking.Checking.see_sources.Given as goal

abbrev pub invariant-loop-source : goal.invariant-loop-source
invariant-loop-source g l =
    let number = g.F.Address.Key.number in
    fold (one_seen l.seen.stamp (numbered_terms number l.seen.terms)
    (standing_in g.F.Family.FAMILY l.fn.link.state.groups l.fn.link.state.election.timing l.seen.stamp))
    l.fn.self (list_map (Source (number l.group)) l.fn.sources) ≡ fold (one_seen l.seen.stamp (numbered_terms number l.seen.terms)
    (standing_in g.F.Family.FAMILY l.fn.link.state.groups l.fn.link.state.election.timing l.seen.stamp))
    l.self (list_map (Source (number l.group)) l.source-iterator)
