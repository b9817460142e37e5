use Rattle.mq_replay.proofs.Common.{codes, five_parts}
use Rattle.mq_replay.specs.ReplayObjects.{number_field, sender_start}
use Rattle.mq_replay.proofs.replay_objects.put_receipt_object.Goals as goal

pub returns-in-Taken : goal.returns-in-Taken
returns-in-Taken g c =
    rw (
      c.in-Taken.is,
      c.put.ensures.text,
      c.put_number-in-Taken-2.ensures.text,
      c.from-in-Taken-2.ensures,
      c.put_number-in-Taken.ensures.text,
      c.from-in-Taken.ensures,
      c.put_number.ensures.text,
      c.from.ensures,
      c.put_sender.ensures.text,
    ) (five_parts c.args.buffer.now.items (sender_start g.K.LineKey.family c.args.moment (codes "receive") c.args.number (g.K.Key.number c.args.source))
    (number_field (codes ",\"applied\":") c.in-Taken.applied) (number_field (codes ",\"ignored\":") c.in-Taken.ignored)
    (number_field (codes ",\"refused\":") c.in-Taken.refused) (codes "}\n"))
