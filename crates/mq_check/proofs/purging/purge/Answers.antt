use Rattle.mq_check.proofs.Common.{ℕ, List, [], ◌++◌, refl, ap, sym, ◌∙◌, append_assoc, append-nil, arith, err_from_is_err_and, Finding}
use Rattle.mq_check.proofs.Tellings.{none_told, then_told, told_broken, broken_as, tells_as}
use Rattle.mq_check.proofs.purging.purge.Goals as goal

pub loop-entry-init : goal.loop-entry-init
loop-entry-init g c = record { found = ([], refl, none_told _ _ _ _); rest = refl }

pub loop-entry-preserved : goal.loop-entry-preserved
loop-entry-preserved g c =
    let now = c.loop-entry.invariant in
    let first = c.in-Some.ensures.some in
    record {
      found = (
        _,
        now.found.1 ∙ ap (λ (xs : List (Finding ℕ)). now.found.0 ++ xs)
            (first.told c.args.excuses.now.within c.args.excuses.now.changed c.args.excuses.now.refused.now) ∙ sym (append_assoc now.found.0 _ _),
        then_told _ _ _ _ _ _ _ _ _ _ _ now.found.2 c.in_ok-tell.ensures,
      );
      rest = now.rest ∙ first.purged;
    }

pub loop-entry-smaller : goal.loop-entry-smaller
loop-entry-smaller g c = omega (arith, c.in-Some.ensures.some.fewer)

pub returns-in_err-tell-clause-tells : goal.returns-in_err-tell-clause-tells
returns-in_err-tell-clause-tells g c =
    let p = err_from_is_err_and c.from_residual.result c.from_residual.ensures.1 in
    let now = c.loop-entry.invariant in
    let first = c.in-Some.ensures.some in
    rw p.1 (broken_as _ _ _ _ _ _ _ _ (tells_as _ _ _ _ _ _ _ _ (sym (now.found.1 ∙ ap (λ (xs : List (Finding ℕ)). now.found.0 ++ xs)
    (first.told c.args.excuses.now.within c.args.excuses.now.changed c.args.excuses.now.refused.now) ∙ sym (append_assoc now.found.0 _ _)))
    (told_broken _ _ _ _ _ _ _ _ (then_told _ _ _ _ _ _ _ _ _ _ _ now.found.2 c.in_err-tell.ensures))))

pub returns-clause-purged : goal.returns-clause-purged
returns-clause-purged g c =
    let now = c.loop-entry.invariant in
    c.in_default.ensures.none ∙ sym c.in_default.ensures.none_over.purged ∙ sym now.rest

pub returns-clause-tells : goal.returns-clause-tells
returns-clause-tells g c =
    let now = c.loop-entry.invariant in
    tells_as _ _ _ _ _ _ _ _ (sym (now.found.1 ∙ ap (λ (xs : List (Finding ℕ)). now.found.0 ++ xs)
    (c.in_default.ensures.none_over.told c.args.excuses.now.within c.args.excuses.now.changed c.args.excuses.now.refused.now) ∙
    append-nil now.found.0)) now.found.2
