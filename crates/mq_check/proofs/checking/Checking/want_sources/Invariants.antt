-- the sources so far, and then the rest, have the result of all
use Rattle.mq_check.proofs.Common.{◌≡◌, fold, list_map, Source, subject_wanted, numbered_terms}
use Rattle.mq_check.proofs.checking.Checking.want_sources.Given as goal

abbrev pub invariant-loop-source : goal.invariant-loop-source
invariant-loop-source g l =
    let number = g.F.Address.Key.number in
    fold (subject_wanted l.moment l.is_again (numbered_terms number l.terms)) l.fn.self (list_map (Source (number l.group)) l.fn.sources)
    ≡ fold (subject_wanted l.moment l.is_again (numbered_terms number l.terms)) l.self (list_map (Source (number l.group)) l.source-iterator)
