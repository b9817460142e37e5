use Rattle.mq_text.proofs.Pairs.{pair_at}
use Rattle.mq_text.proofs.text.pair.Goals as goal

pub returns : goal.returns
returns c = pair_at c.args.number c.requires
