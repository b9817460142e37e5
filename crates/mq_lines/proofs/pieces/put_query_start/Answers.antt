use Rattle.mq_lines.proofs.Common.{codes, numbered_query, either}
use Rattle.mq_lines.{specs.Messages.subject, specs.Messages.version_start, specs.Text.query_version, proofs.Parts.three_parts}
use Rattle.mq_lines.proofs.pieces.put_query_start.Goals as goal

pub returns : goal.returns
returns g c =
    let query = numbered_query g.K.Key.number c.args.query.now in
    let family = g.K.LineKey.family in
    rw (c.put_version_start.ensures, c.put_subject.ensures.text, c.version_of.ensures, c.put_either.ensures.text)
    (three_parts c.args.buffer.now.items (either c.args.json (codes "{\"type\":\"query\",\"version\":") (codes "query v"))
    (subject c.args.json family (query_version family query.version) query.group) (version_start c.args.json family query.response query.version))
