use Rattle.mq_laws.proofs.Ascending.{messages_ascend}
use Rattle.mq_laws.proofs.schedules.a_round_is_in_order.Goals as goal

pub returns : goal.returns
returns c r = messages_ascend r.per_query r.timing r.now r.address r.before
