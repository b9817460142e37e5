use Rattle.std.proofs.{Common.rules, lemmas.Slice.overwrites}
use Rattle.mq_wire.proofs.mld.pseudo_header.Goals as goal

pub returns : goal.returns
returns c = search (rules, overwrites)
