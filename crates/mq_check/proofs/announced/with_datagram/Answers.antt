use Rattle.mq_check.proofs.Common.{ℕ, Option, ap, ◌∙◌, Query, numbered_sought_if}
use Rattle.mq_check.specs.Announced.{with_query}
use Rattle.mq_check.proofs.announced.with_datagram.Goals as goal

pub returns-in-Some : goal.returns-in-Some
returns-in-Some g c =
    c.with_query.ensures ∙ (λ i. with_query g.F.Family.FAMILY c.args.stamp (c.source.ensures i) (c.in-Some.ensures i)
    (numbered_sought_if g.F.Address.Key.number c.args.sought))

pub returns-in-None : goal.returns-in-None
returns-in-None g c =
    let source = (g.F.Family.envelope_of c.args.datagram.envelope).source in
    let sought = numbered_sought_if g.F.Address.Key.number c.args.sought in
    ap (λ (q : Option (Query ℕ)). with_query g.F.Family.FAMILY c.args.stamp source q sought) c.in-None.ensures
