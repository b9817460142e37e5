use Rattle.mq_replay.proofs.Common.{[], ◌++◌, true, list_map, err_from_is_err_and, Source, both_passed, broken_behind, broken_within, held_more, items_from}
use Rattle.mq_replay.proofs.Common.{state_end, state_start, timer_item}
use Rattle.mq_replay.proofs.ReplayTexts.{timers-entries}
use Rattle.mq_replay.proofs.state_object.put_state_object.Goals as goal

pub returns-in_err-make_room-clause-text : goal.returns-in_err-make_room-clause-text
returns-in_err-make_room-clause-text g c =
    let p = err_from_is_err_and c.from_residual.result c.from_residual.ensures.1 in
    rw p.1 (broken_within _ _ _ [] _ c.in_err-make_room.ensures.text)

pub returns-in_err-put_timer_items-clause-text : goal.returns-in_err-put_timer_items-clause-text
returns-in_err-put_timer_items-clause-text g c =
    let p = err_from_is_err_and c.from_residual-in_err-put_timer_items.result c.from_residual-in_err-put_timer_items.ensures.1 in
    let group = c.args.group in
    let number = g.K.Key.number in
    let start = state_start g.K.LineKey.family c.args.moment c.args.name.now (number group.address) group.mode in
    let items = items_from (timer_item g.K.LineKey.family) true (list_map (λ (x : Source _). (number x.address, x.timer)) group.sources.now) in
    let end = state_end group.v1 group.v2 in
    let begun = held_more _ _ _ _ _ [] start c.in_ok-make_room.ensures.text c.put_state_start.ensures.text in
    rw (p.1, timers-entries number group.sources.now c.requires.ascending)
    (broken_behind _ _ _ _ _ start (items ++ end) begun (broken_within _ _ _ items end c.in_err-put_timer_items.ensures.text))

pub returns-in_err-make_room-2-clause-text : goal.returns-in_err-make_room-2-clause-text
returns-in_err-make_room-2-clause-text g c =
    let p = err_from_is_err_and c.from_residual-in_err-make_room-2.result c.from_residual-in_err-make_room-2.ensures.1 in
    let group = c.args.group in
    let number = g.K.Key.number in
    let start = state_start g.K.LineKey.family c.args.moment c.args.name.now (number group.address) group.mode in
    let items = items_from (timer_item g.K.LineKey.family) true (list_map (λ (x : Source _). (number x.address, x.timer)) group.sources.now) in
    let end = state_end group.v1 group.v2 in
    let begun = held_more _ _ _ _ _ [] start c.in_ok-make_room.ensures.text c.put_state_start.ensures.text in
    let last = broken_within _ _ _ [] end c.in_err-make_room-2.ensures.text in
    rw (p.1, timers-entries number group.sources.now c.requires.ascending)
    (broken_behind _ _ _ _ _ start (items ++ end) begun (broken_behind _ _ _ _ _ items end c.in_ok-put_timer_items.ensures.text last))

pub returns-clause-text : goal.returns-clause-text
returns-clause-text g c =
    let group = c.args.group in
    let number = g.K.Key.number in
    let start = state_start g.K.LineKey.family c.args.moment c.args.name.now (number group.address) group.mode in
    let items = items_from (timer_item g.K.LineKey.family) true (list_map (λ (x : Source _). (number x.address, x.timer)) group.sources.now) in
    let end = state_end group.v1 group.v2 in
    let begun = held_more _ _ _ _ _ [] start c.in_ok-make_room.ensures.text c.put_state_start.ensures.text in
    let last = held_more _ _ _ _ _ [] end c.in_ok-make_room-2.ensures.text c.put_state_end.ensures in
    rw (timers-entries number group.sources.now c.requires.ascending)
    (both_passed _ _ _ _ _ _ start (items ++ end) begun (both_passed _ _ _ _ _ _ items end c.in_ok-put_timer_items.ensures.text last))
