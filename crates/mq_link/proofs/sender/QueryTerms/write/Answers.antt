use Rattle.mq_link.proofs.Common.{◌≡◌, length, ap, arith, canon, numbered_query, Terms, outgoing_on, fields_sent, common_steps}
use Rattle.mq_sched.specs.Sink.{query_of}
use Rattle.mq_link.proofs.Lengths.{within_longest}
use Rattle.mq_link.proofs.sender.QueryTerms.write.Goals as goal

pub unreachable-requires : goal.unreachable-requires
unreachable-requires g c =
    let family = g.F.Family.FAMILY in
    let terms : Terms = c.args.self.now in
    let query = query_of g.F.Address.Key.number c.args.query in
    let fits = within_longest family terms query c.requires.fits in
    let short = c.in-Err.ensures in
    let same_own : g.F.Address.Key.number c.self.inside.own ≡ terms.own = ap (λ (t : Terms). t.own) c.self.view_is in
    let same_fields : numbered_query g.F.Address.Key.number c.fields-fields.result ≡ fields_sent terms.timing query =
    c.fields-fields.ensures
    in
    let same : canon family (g.F.Address.Key.number c.self.inside.own) (numbered_query g.F.Address.Key.number c.fields-fields.result)
    ≡ (outgoing_on family terms query).bytes = λ i. canon family (same_own i) (same_fields i) in
    let long = ap length same in
    omega (arith, short.0, short.1, long, fits, c.requires.length)

pub returns-clause-bytes : goal.returns-clause-bytes
returns-clause-bytes g c = grind (arith, common_steps)
