use Rattle.mq_replay.proofs.Common.{[], ◌++◌, codes, flat_map, list_any, err_from_is_err_and, Source, is_include, broken_behind, broken_within, held_more}
use Rattle.mq_replay.proofs.Common.{put_as, then_put, change_start, is_named, name_by, named_by}
use Rattle.mq_replay.proofs.ChangeTexts.{line-row}
use Rattle.mq_replay.proofs.change_lines.put_change_line.Goals as goal

pub returns-in_err-make_room-clause-text : goal.returns-in_err-make_room-clause-text
returns-in_err-make_room-clause-text g c =
    let p = err_from_is_err_and c.from_residual.result c.from_residual.ensures.1 in
    rw p.1 (broken_within _ _ _ [] _ c.in_err-make_room.ensures.text)

pub returns-in_err-put_all_named-clause-text : goal.returns-in_err-put_all_named-clause-text
returns-in_err-put_all_named-clause-text g c =
    let p = err_from_is_err_and c.from_residual-in_err-put_all_named.result c.from_residual-in_err-put_all_named.ensures.1 in
    let number = g.K.Key.number in
    let family = g.K.LineKey.family in
    let mode = c.args.mode.now in
    let row = c.args.sources.now in
    let start = change_start family c.args.moment (number c.args.address) ++
    name_by (is_include mode) (list_any (λ (x : Source _). is_named mode x.timer) row) in
    let texts = flat_map (λ (x : Source _). named_by family mode (number x.address) x.timer) row in
    let begun = held_more _ _ _ _ _ [] start c.in_ok-make_room.ensures.text c.put_change_start.ensures in
    rw (p.1, ← line-row number family mode row c.requires.ascending c.args.moment (number c.args.address))
    (broken_behind _ _ _ _ _ start (texts ++ codes "\n") begun (broken_within _ _ _ texts (codes "\n") c.in_err-put_all_named.ensures.text))

pub returns-clause-text : goal.returns-clause-text
returns-clause-text g c =
    let number = g.K.Key.number in
    let family = g.K.LineKey.family in
    let mode = c.args.mode.now in
    let row = c.args.sources.now in
    let start = change_start family c.args.moment (number c.args.address) ++
    name_by (is_include mode) (list_any (λ (x : Source _). is_named mode x.timer) row) in
    let texts = flat_map (λ (x : Source _). named_by family mode (number x.address) x.timer) row in
    let begun = held_more _ _ _ _ _ [] start c.in_ok-make_room.ensures.text c.put_change_start.ensures in
    put_as _ _ _ _ _ _ c.put_end.result (line-row number family mode row c.requires.ascending c.args.moment (number c.args.address))
    (then_put _ _ _ _ _ _ start (texts ++ codes "\n") c.put_end.result begun
    (then_put _ _ _ _ _ _ texts (codes "\n") c.put_end.result c.in_ok-put_all_named.ensures.text c.put_end.ensures.text))
