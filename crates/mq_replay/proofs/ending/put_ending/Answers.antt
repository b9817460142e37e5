use Rattle.mq_replay.proofs.Common.{◌≡◌, ◌+◌, ap, ◌∙◌, err_from_is_err_and}
use Rattle.mq_replay.proofs.EndLines.{end_ticks_broken, end_role_broken, end_groups_broken, all_put, all_answered, if_ok}
use Rattle.mq_replay.proofs.ending.put_ending.Goals as goal

pub returns-in_err-put_ticks-clause-text : goal.returns-in_err-put_ticks-clause-text
returns-in_err-put_ticks-clause-text g c =
    let p = err_from_is_err_and c.from_residual.result c.from_residual.ensures.1 in
    let limit : c.after.result ≡ c.args.end + 1 = c.after.ensures.later ∙ ap (λ n. c.args.end + n) c.from_ms.ensures in
    rw p.1 (end_ticks_broken _ _ _ _ c.args.end _ _ _ _ _ limit c.in_err-put_ticks.ensures.puts)

pub returns-in_err-put_role-clause-text : goal.returns-in_err-put_role-clause-text
returns-in_err-put_role-clause-text g c =
    let p = err_from_is_err_and c.from_residual-in_err-put_role.result c.from_residual-in_err-put_role.ensures.1 in
    let limit : c.after.result ≡ c.args.end + 1 = c.after.ensures.later ∙ ap (λ n. c.args.end + n) c.from_ms.ensures in
    rw p.1 (end_role_broken _ _ _ _ _ _ c.args.end _ _ _ _ _ _ _ limit c.config.ensures c.is_faultless.ensures.family c.is_querier-is_querier.ensures
    c.in_ok-put_ticks.ensures.puts c.in_err-put_role.ensures.text)

pub returns-in_err-put_groups-clause-text : goal.returns-in_err-put_groups-clause-text
returns-in_err-put_groups-clause-text g c =
    let p = err_from_is_err_and c.from_residual-in_err-put_groups.result c.from_residual-in_err-put_groups.ensures.1 in
    let limit : c.after.result ≡ c.args.end + 1 = c.after.ensures.later ∙ ap (λ n. c.args.end + n) c.from_ms.ensures in
    rw p.1 (end_groups_broken _ _ _ _ _ _ c.args.end _ _ _ _ _ _ _ _ _ limit c.config.ensures c.is_faultless.ensures.family c.is_querier-is_querier.ensures
    c.in_ok-put_ticks.ensures.puts c.in_ok-put_role.ensures.text c.in_err-put_groups.ensures.text)

pub returns-clause-text : goal.returns-clause-text
returns-clause-text g c =
    let limit : c.after.result ≡ c.args.end + 1 = c.after.ensures.later ∙ ap (λ n. c.args.end + n) c.from_ms.ensures in
    all_put _ _ _ _ _ _ c.args.end _ _ _ _ _ _ _ _ _ _ _ _ _ _ limit c.config.ensures c.is_faultless.ensures.family c.is_querier-is_querier.ensures
    c.counts.ensures c.in_ok-put_ticks.ensures.puts c.in_ok-put_role.ensures.text c.in_ok-put_groups.ensures.text c.put_counts.ensures.text

pub returns-clause-answer : goal.returns-clause-answer
returns-clause-answer g c =
    let limit : c.after.result ≡ c.args.end + 1 = c.after.ensures.later ∙ ap (λ n. c.args.end + n) c.from_ms.ensures in
    if_ok c.put_counts.result _ (all_answered _ _ _ _ c.args.end _ _ _ _ _ limit c.in_ok-put_ticks.ensures.puts)
