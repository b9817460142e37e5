use Rattle.mq_replay.proofs.Common.{codes, carried_of, four_parts}
use Rattle.mq_replay.specs.{ReplayLines.skipped_text, ReplayObjects.packet_start}
use Rattle.mq_replay.proofs.replay_objects.put_skip_object.Goals as goal

pub returns : goal.returns
returns c =
    rw (c.put-2.ensures.text, c.put_skipped.ensures.text, c.put.ensures.text, c.put_packet.ensures.text)
    (four_parts c.args.buffer.now.items (packet_start c.args.moment (codes "skip") c.args.number) (codes ",\"skipped\":\"")
    (skipped_text (carried_of c.args.inner.now)) (codes "\"}\n"))
