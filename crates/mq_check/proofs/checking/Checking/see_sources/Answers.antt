use Rattle.mq_check.proofs.Common.{ℕ, List, ap, sym, ◌∙◌, fold, list_map, Source, Standing, CheckingValue, one_seen, with_seen, numbered_terms, standing_in}
use Rattle.mq_check.proofs.checking.Checking.see_sources.Goals as goal

pub loop-source-init : goal.loop-source-init
loop-source-init g c =
    let number = g.F.Address.Key.number in
    ap (λ (xs : List ℕ). fold (one_seen c.args.seen.stamp (numbered_terms number c.args.seen.terms)
    (standing_in g.F.Family.FAMILY c.args.link.now.state.groups c.args.link.now.state.election.timing c.args.seen.stamp)) c.args.self.now
    (list_map (Source (number c.args.group)) xs)) (sym c.into_iter-source-iterator.ensures.into_iter_gives)

pub loop-source-preserved : goal.loop-source-preserved
loop-source-preserved g c =
    let number = g.F.Address.Key.number in
    let rest = list_map (Source (number c.args.group)) c.next.new.self in
    let asked = Source (number c.args.group) (number c.in-Some.source) in
    c.loop-source.invariant ∙ ap (λ (xs : List ℕ). fold (one_seen c.args.seen.stamp (numbered_terms number c.args.seen.terms)
    (standing_in g.F.Family.FAMILY c.args.link.now.state.groups c.args.link.now.state.election.timing c.args.seen.stamp)) c.loop-source.self
    (list_map (Source (number c.args.group)) xs)) c.in-Some.ensures.steps ∙ ap (λ (v : CheckingValue). fold
    (one_seen c.args.seen.stamp (numbered_terms number c.args.seen.terms)
    (standing_in g.F.Family.FAMILY c.args.link.now.state.groups c.args.link.now.state.election.timing c.args.seen.stamp)) v rest)
    (ap (λ (s : Standing). with_seen c.args.seen.stamp (numbered_terms number c.args.seen.terms) s c.loop-source.self asked)
    (sym c.standing_in-standing.ensures)
    ∙ ap (λ (m : ℕ). with_seen m (numbered_terms number c.args.seen.terms) c.standing_in-standing.result c.loop-source.self asked)
    (sym c.moment.ensures.same) ∙ sym c.see.ensures)
