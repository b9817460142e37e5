use Rattle.mq_laws.proofs.WrittenQueries.{values_stay}
use Rattle.mq_laws.proofs.messages.values_of_codes_stay.Goals as goal

pub returns : goal.returns
returns c = values_stay
