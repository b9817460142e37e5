use Rattle.mq_lines.proofs.Unescaped.{plain_address}
use Rattle.mq_lines.proofs.object_pieces.put_address_object.Goals as goal

pub returns-clause-plain : goal.returns-clause-plain
returns-clause-plain g c = plain_address g.K.LineKey.family (g.K.Key.number c.args.address)
