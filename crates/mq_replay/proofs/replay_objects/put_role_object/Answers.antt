use Rattle.mq_replay.proofs.Common.{codes, truth_object, four_parts}
use Rattle.mq_replay.specs.ReplayObjects.{event_start}
use Rattle.mq_replay.proofs.replay_objects.put_role_object.Goals as goal

pub returns : goal.returns
returns c =
    rw (c.put-2.ensures.text, c.put_truth.ensures.text, c.put.ensures.text, c.put_event.ensures.text)
    (four_parts c.args.buffer.now.items (event_start c.args.moment (codes "end")) (codes ",\"querier\":") (truth_object c.args.is_querier)
    (codes "}\n"))
