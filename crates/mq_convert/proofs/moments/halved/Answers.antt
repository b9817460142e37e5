use Rattle.mq_convert.proofs.Common.{arith, ◌<◌, ◌^◌, one-le-pow}
use Rattle.std.proofs.Math.Pow.{pow-lt}
use Rattle.mq_convert.proofs.moments.halved.Goals as goal

pub pow-requires : goal.pow-requires
pow-requires c = let fits : 2 ^ c.args.power < 2 ^ 128 = pow-lt c.requires in rw c.from.ensures fits

pub returns-clause-some : goal.returns-clause-some
returns-clause-some c = let some = one-le-pow c.args.power 2 (omega arith) in rw (c.pow.ensures, c.from.ensures) some
