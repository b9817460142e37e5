use Rattle.mq_link.proofs.Common.{arith, common_steps}
use Rattle.mq_link.proofs.sender.fits_one.Goals as goal

pub returns-in-Sources : goal.returns-in-Sources
returns-in-Sources g c = grind (arith, common_steps)
