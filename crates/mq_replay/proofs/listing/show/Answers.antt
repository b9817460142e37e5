use Rattle.mq_replay.proofs.Common.{has_failed, most_bytes, failed_end, granted_end, room_of_filled, taken_at}
use Rattle.mq_replay.proofs.Shown.{nothing_shown, shown}
use Rattle.mq_replay.proofs.listing.show.Goals as goal

pub returns-in_default-clause-shows : goal.returns-in_default-clause-shows
returns-in_default-clause-shows g c = nothing_shown c.args.json _ _

pub put_listing-answer-requires : goal.put_listing-answer-requires
put_listing-answer-requires g c = room_of_filled most_bytes _ _ c.as_mut_slice.ensures.value c.in-Ok.ensures.items

pub returns-clause-shows : goal.returns-clause-shows
returns-clause-shows g c = shown c.args.json _ _ _ _ _ _ _ _ _ _ c.new.ensures c.put_listing-answer.ensures.puts c.finish.ensures

pub returns-clause-failed : goal.returns-clause-failed
returns-clause-failed g c = failed_end _ _ _ _ _ _ (has_failed c.args.writer.now) c.finish.ensures c.put_listing-answer.ensures.failed

pub returns-clause-memory : goal.returns-clause-memory
returns-clause-memory g c refused = absurd (granted_end _ _ _ _ _ _ c.finish.ensures c.put_listing-answer.ensures.no_memory refused)

pub returns-clause-takes : goal.returns-clause-takes
returns-clause-takes g c = taken_at _ (granted_end _ _ _ _ _ _ c.finish.ensures c.put_listing-answer.ensures.no_memory) c.in-Ok.ensures.memory
