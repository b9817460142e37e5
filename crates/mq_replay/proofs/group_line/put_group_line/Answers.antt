use Rattle.mq_replay.proofs.Common.{[], ◌++◌, List, ℕ, flat_map, err_from_is_err_and, Source, both_passed, broken_behind, broken_within, held_more, line_of}
use Rattle.mq_replay.proofs.Common.{timer_text}
use Rattle.mq_replay.{specs.ReplayLines.group_start, specs.ReplayLines.older_hosts_text, proofs.ReplayTexts.timers-row}
use Rattle.mq_replay.proofs.group_line.put_group_line.Goals as goal

pub returns-in_err-make_room-clause-text : goal.returns-in_err-make_room-clause-text
returns-in_err-make_room-clause-text g c =
    let p = err_from_is_err_and c.from_residual.result c.from_residual.ensures.1 in
    rw p.1 (broken_within _ _ _ [] _ c.in_err-make_room.ensures.text)

pub returns-in_err-put_timers-clause-text : goal.returns-in_err-put_timers-clause-text
returns-in_err-put_timers-clause-text g c =
    let p = err_from_is_err_and c.from_residual-in_err-put_timers.result c.from_residual-in_err-put_timers.ensures.1 in
    let group = c.args.group in
    let start = group_start g.K.LineKey.family (g.K.Key.number group.address) group.mode in
    let row : Source _ → List ℕ = λ x. timer_text g.K.LineKey.family (g.K.Key.number x.address) x.timer in
    let timers = flat_map row group.sources.now in
    let hosts = line_of (older_hosts_text group.v1 group.v2) in
    let begun = held_more _ _ _ _ _ [] start c.in_ok-make_room.ensures.text c.put_group_start.ensures in
    rw (p.1, timers-row g.K.Key.number g.K.LineKey.family group.sources.now c.requires.ascending)
    (broken_behind _ _ _ _ _ start (timers ++ hosts) begun (broken_within _ _ _ timers hosts c.in_err-put_timers.ensures.text))

pub returns-in_err-make_room-2-clause-text : goal.returns-in_err-make_room-2-clause-text
returns-in_err-make_room-2-clause-text g c =
    let p = err_from_is_err_and c.from_residual-in_err-make_room-2.result c.from_residual-in_err-make_room-2.ensures.1 in
    let group = c.args.group in
    let start = group_start g.K.LineKey.family (g.K.Key.number group.address) group.mode in
    let row : Source _ → List ℕ = λ x. timer_text g.K.LineKey.family (g.K.Key.number x.address) x.timer in
    let timers = flat_map row group.sources.now in
    let hosts = line_of (older_hosts_text group.v1 group.v2) in
    let begun = held_more _ _ _ _ _ [] start c.in_ok-make_room.ensures.text c.put_group_start.ensures in
    let last = broken_within _ _ _ [] hosts c.in_err-make_room-2.ensures.text in
    rw (p.1, timers-row g.K.Key.number g.K.LineKey.family group.sources.now c.requires.ascending)
    (broken_behind _ _ _ _ _ start (timers ++ hosts) begun (broken_behind _ _ _ _ _ timers hosts c.in_ok-put_timers.ensures.text last))

pub returns-clause-text : goal.returns-clause-text
returns-clause-text g c =
    let group = c.args.group in
    let start = group_start g.K.LineKey.family (g.K.Key.number group.address) group.mode in
    let row : Source _ → List ℕ = λ x. timer_text g.K.LineKey.family (g.K.Key.number x.address) x.timer in
    let timers = flat_map row group.sources.now in
    let hosts = line_of (older_hosts_text group.v1 group.v2) in
    let begun = held_more _ _ _ _ _ [] start c.in_ok-make_room.ensures.text c.put_group_start.ensures in
    let last = held_more _ _ _ _ _ [] hosts c.in_ok-make_room-2.ensures.text c.put_older_hosts.ensures in
    rw (timers-row g.K.Key.number g.K.LineKey.family group.sources.now c.requires.ascending)
    (both_passed _ _ _ _ _ _ start (timers ++ hosts) begun (both_passed _ _ _ _ _ _ timers hosts c.in_ok-put_timers.ensures.text last))
