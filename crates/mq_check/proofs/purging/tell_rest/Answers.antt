use Rattle.mq_check.proofs.Common.{ℕ, ◌+◌, Bool, List, [], ◌++◌, length, refl, ap, sym, ◌∙◌, append_assoc, append-nil, arith, flat_map, nat_le}
use Rattle.mq_check.proofs.Common.{err_from_is_err_and, Entry, Finding, found_of_last, excused_if, numbered_entry, judged}
use Rattle.mq_check.proofs.Tellings.{none_told, then_told, told_broken, broken_as, tells_as}
use Rattle.mq_check.proofs.purging.tell_rest.Goals as goal

pub loop-entry-init : goal.loop-entry-init
loop-entry-init g c = ([], refl, none_told _ _ _ _)

pub loop-entry-preserved : goal.loop-entry-preserved
loop-entry-preserved g c =
    let now = c.loop-entry.invariant in
    let first = ap (λ (es : List (Entry ℕ)). flat_map (found_of_last c.args.excuses.now.within c.args.end c.args.excuses.now.changed
    c.args.excuses.now.refused.now) es) c.in-Some.ensures.some in
    let last = numbered_entry g.F.Address.Key.number c.in-Some.entry in
    let one = tells_as _ _ _ _ _ _ _ _ (ap (judged c.args.excuses.now.within c.args.excuses.now.changed c.args.excuses.now.refused.now)
    (c.excused_if.ensures ∙
    ap (λ (b : Bool). excused_if b last) (c.is_near-may_come.ensures ∙ ap (λ (m : ℕ). nat_le c.args.end (m + c.args.excuses.now.within)) c.moment.ensures)))
    c.in_ok-tell.ensures in
    (_, now.1 ∙ ap (λ (xs : List (Finding ℕ)). now.0 ++ xs) first ∙ sym (append_assoc now.0 _ _), then_told _ _ _ _ _ _ _ _ _ _ _ now.2 one)

pub loop-entry-smaller : goal.loop-entry-smaller
loop-entry-smaller g c = let fewer = ap length c.in-Some.ensures.some in omega (arith, fewer)

pub returns-in_err-tell : goal.returns-in_err-tell
returns-in_err-tell g c =
    let p = err_from_is_err_and c.from_residual.result c.from_residual.ensures.1 in
    let now = c.loop-entry.invariant in
    let first = ap (λ (es : List (Entry ℕ)). flat_map (found_of_last c.args.excuses.now.within c.args.end c.args.excuses.now.changed
    c.args.excuses.now.refused.now) es) c.in-Some.ensures.some in
    let last = numbered_entry g.F.Address.Key.number c.in-Some.entry in
    let one = tells_as _ _ _ _ _ _ _ _ (ap (judged c.args.excuses.now.within c.args.excuses.now.changed c.args.excuses.now.refused.now)
    (c.excused_if.ensures ∙
    ap (λ (b : Bool). excused_if b last) (c.is_near-may_come.ensures ∙ ap (λ (m : ℕ). nat_le c.args.end (m + c.args.excuses.now.within)) c.moment.ensures)))
    c.in_err-tell.ensures in
    rw p.1 (broken_as _ _ _ _ _ _ _ _ (tells_as _ _ _ _ _ _ _ _ (sym (now.1 ∙ ap (λ (xs : List (Finding ℕ)). now.0 ++ xs) first ∙ sym (append_assoc now.0 _ _)))
    (told_broken _ _ _ _ _ _ _ _ (then_told _ _ _ _ _ _ _ _ _ _ _ now.2 one))))

pub returns : goal.returns
returns g c =
    let now = c.loop-entry.invariant in
    let none = ap (λ (es : List (Entry ℕ)). flat_map (found_of_last c.args.excuses.now.within c.args.end c.args.excuses.now.changed
    c.args.excuses.now.refused.now) es) c.in_default.ensures.none in
    tells_as _ _ _ _ _ _ _ _ (sym (now.1 ∙ ap (λ (xs : List (Finding ℕ)). now.0 ++ xs) none ∙ append-nil now.0)) now.2
