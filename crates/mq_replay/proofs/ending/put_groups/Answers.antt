use Rattle.mq_replay.proofs.Common.{◌∙◌, refl, arith, nat_tests, err_from_is_err_and, or-false, nothing_passed}
use Rattle.mq_replay.proofs.EndLines.{group_passed, group_broken, groups_passed}
use Rattle.mq_replay.proofs.ending.put_groups.Goals as goal

pub loop-place-init : goal.loop-place-init
loop-place-init g c = record { put = nothing_passed _ _; same = refl }

pub loop-place-preserved : goal.loop-place-preserved
loop-place-preserved g c =
    let now = c.loop-place.invariant in
    let has = c.entry.ensures.place in
    record {
      put = group_passed _ _ _ _ _ _ _ _ _ _ _ _ _ _ _ g.met.F.CapturedFamily.same_family (grind (arith, nat_tests)) has
          (c.entry.ensures.group _ has) now.put c.in_ok-put_group.ensures.text;
      same = c.in_ok-put_group.ensures.failed ∙ or-false _ ∙ now.same;
    }

pub returns-in_err-put_group-clause-text : goal.returns-in_err-put_group-clause-text
returns-in_err-put_group-clause-text g c =
    let p = err_from_is_err_and c.from_residual.result c.from_residual.ensures.1 in
    let now = c.loop-place.invariant in
    let has = c.entry.ensures.place in
    rw p.1 (group_broken _ _ _ _ _ _ _ _ _ _ _ _ _ _ g.met.F.CapturedFamily.same_family (grind (arith, nat_tests)) has
    (c.entry.ensures.group _ has) now.put c.in_err-put_group.ensures.text)

pub returns-clause-text : goal.returns-clause-text
returns-clause-text g c = groups_passed _ _ _ _ c.loop-place.place _ _ _ _ (grind (arith, nat_tests)) c.loop-place.invariant.put
