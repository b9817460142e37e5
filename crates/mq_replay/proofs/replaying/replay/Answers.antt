use Rattle.mq_replay.proofs.Common.{◌≡◌, ap, sym, subst, ◌∙◌, or-false, has_failed, LinkValue, link_at, most_bytes, failed_end, granted_end, room_of_filled}
use Rattle.mq_replay.proofs.Common.{taken_at}
use Rattle.mq_arena.proofs.Takes.{both}
use Rattle.mq_walk.proofs.{Finished.counted_end, Finished.counted_write, Rooms.memory_so, WrittenReports.finished, WrittenReports.nothing_reported}
use Rattle.mq_replay.proofs.ReplayedOver.{only_waits}
use Rattle.mq_replay.proofs.replaying.replay.Goals as goal

pub returns-in_default-clause-replays : goal.returns-in_default-clause-replays
returns-in_default-clause-replays g c = nothing_reported _ _ _

pub returns-in_default-new_in-clause-replays : goal.returns-in_default-new_in-clause-replays
returns-in_default-new_in-clause-replays g c = nothing_reported _ _ _

pub returns-clause-replays : goal.returns-clause-replays
returns-clause-replays g c =
    let config = ap (λ (l : LinkValue). l.config) c.new.ensures.link ∙ ap (λ (l : LinkValue). l.config) c.in-Ok-new_in.ensures.link in
    rw (c.counters_of.ensures, ← config, ← c.new.ensures.asked)
    (finished _ (only_waits _) _ _ _ _ _ _ _ _ _ _ c.new.ensures.empty c.put_replay-put.ensures.puts (counted_end _ _ _ _ _ _ _ c.finish-answer.ensures))

pub put_replay-put-requires-clause-in_range : goal.put_replay-put-requires-clause-in_range
put_replay-put-requires-clause-in_range g c = rw c.new.ensures.asked c.requires

pub returns-in_default-clause-failed : goal.returns-in_default-clause-failed
returns-in_default-clause-failed g c = sym (or-false _)

pub returns-in_default-new_in-clause-failed : goal.returns-in_default-new_in-clause-failed
returns-in_default-new_in-clause-failed g c = sym (or-false _)

pub returns-clause-failed : goal.returns-clause-failed
returns-clause-failed g c =
    rw (c.counters_of.ensures, counted_write _ c.finish-answer.result)
    (failed_end _ _ _ _ _ _ (has_failed c.args.writer.now) c.finish-answer.ensures c.put_replay-put.ensures.failed)

pub returns-clause-memory : goal.returns-clause-memory
returns-clause-memory g c refused =
    absurd (granted_end _ _ _ _ _ _ c.finish-answer.ensures c.put_replay-put.ensures.no_memory
    (memory_so _ c.finish-answer.result (sym c.counters_of.ensures ∙ refused)))

pub put_replay-put-requires-clause-room : goal.put_replay-put-requires-clause-room
put_replay-put-requires-clause-room g c = room_of_filled most_bytes _ _ c.as_mut_slice.ensures.value c.in-Ok.ensures.items

pub put_replay-put-requires-clause-starts : goal.put_replay-put-requires-clause-starts
put_replay-put-requires-clause-starts g c =
    let is = c.in-Ok-new_in.ensures.link in
    let starts = ap (λ (l : LinkValue). l.state) is ∙ (λ i. link_at (sym (ap (λ (l : LinkValue). l.config) is) i) (c.first_moment.ensures i)) in
    subst (λ (l : LinkValue). l.state ≡ link_at l.config 0) (sym c.new.ensures.link) starts

pub returns-in_default-new_in-clause-takes : goal.returns-in_default-new_in-clause-takes
returns-in_default-new_in-clause-takes g c = both c.in-Ok.ensures.memory c.in_default-new_in.ensures.memory

pub returns-clause-takes : goal.returns-clause-takes
returns-clause-takes g c =
    taken_at _ (λ refused. granted_end _ _ _ _ _ _ c.finish-answer.ensures c.put_replay-put.ensures.no_memory
    (memory_so _ c.finish-answer.result (sym c.counters_of.ensures ∙ refused))) (both c.in-Ok.ensures.memory c.in-Ok-new_in.ensures.memory)
