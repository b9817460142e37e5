use Rattle.std.proofs.Common.{ℕ, ◌-◌, ◌≤◌, ◌≡◌, ◌++◌, length, length-drop, take, drop, Option, Some, sym, ap, ◌∙◌, arith, append_assoc}
use Rattle.mq_held.proofs.Common.{flat_map, option_to_list, length-take, take_all, take-append-drop, flat_map-append, Spends-none, Spends-within, deadline_of}
use Rattle.mq_held.proofs.Common.{Source, earliest_of, timer_moments, false≢true, common_steps}
use Rattle.mq_count.specs.Timed.{least, moments_by}
use Rattle.mq_count.proofs.TimedMoments.{moments-few}
use Rattle.std.specs.Prelude.{is_some, not}
use Rattle.mq_held.proofs.earliest.earliest_with_row.Given.{Over}
use Rattle.mq_held.proofs.earliest.earliest_with_row.Goals as goal
use Rattle.mq_held.proofs.earliest.earliest_with_row.Goals.{then-loop-start-test+else-place-row, else-loop-start-test}

-- the moments are the first one found and those of the later sources
moments_so : (g : Over) (c : goal.After-earliest_with g) → option_to_list c.args.first ++ flat_map timer_moments c.args.row.now
    ≡ option_to_list (Some c.in-Some.start) ++ flat_map timer_moments (drop c.loop-start.place c.args.row.now)
moments_so g c =
    let row = c.args.row.now in
    let place = c.loop-start.place in
    let behind = drop place row in
    let first = option_to_list c.args.first in
    let start = sym c.loop-start.invariant.start ∙ ap option_to_list c.in-Some.is in
    let parts = ap (flat_map timer_moments) (sym (take-append-drop place row)) ∙ flat_map-append timer_moments (take place row) behind in
    ap (λ ms. first ++ ms) parts
    ∙ sym (append_assoc first (flat_map timer_moments (take place row)) (flat_map timer_moments behind))
    ∙ ap (λ ms. ms ++ flat_map timer_moments behind) start

-- all of these are looked at
rest_so : (g : Over) (c : goal.After-earliest_with g) → take (length c.args.row.now - c.loop-start.place) (drop c.loop-start.place c.args.row.now)
    ≡ drop c.loop-start.place c.args.row.now
rest_so g c =
    let few = length-drop c.loop-start.place c.args.row.now in
    take_all (length c.args.row.now - c.loop-start.place) (drop c.loop-start.place c.args.row.now) (omega (arith, few))

pub returns-in-Some-clause-earliest : goal.returns-in-Some-clause-earliest
returns-in-Some-clause-earliest g c =
    let moment_of : Source g.row.K.Denot → Option ℕ = λ x. deadline_of (Some x.timer) in
    ap Some (c.earliest_with.ensures.answer ∙ ap (λ xs. least c.in-Some.start (moments_by moment_of xs)) (rest_so g c)) ∙ sym (ap earliest_of (moments_so g c))

pub returns-in-Some-clause-spent : goal.returns-in-Some-clause-spent
returns-in-Some-clause-spent g c =
    let row = c.args.row.now in
    let moment_of : Source g.row.K.Denot → Option ℕ = λ x. deadline_of (Some x.timer) in
    let behind = take (length row - c.loop-start.place) (drop c.loop-start.place row) in
    let few = moments-few moment_of behind in
    let parts = length-take (length row - c.loop-start.place) (drop c.loop-start.place row) in
    Spends-within 0 (length row) c.earliest_with.ensures.spent (omega arith) (omega (arith, few, parts))

pub returns-in-Some-clause-compared : goal.returns-in-Some-clause-compared
returns-in-Some-clause-compared g c =
    let moment_of : Source g.row.K.Denot → Option ℕ = λ x. deadline_of (Some x.timer) in
    let spent = rw (rest_so g c) at c.earliest_with.ensures.spent in
    let count : length (option_to_list c.args.first ++ flat_map timer_moments c.args.row.now) - 1
    ≡ length (moments_by moment_of (drop c.loop-start.place c.args.row.now)) = ap (λ ms. length ms - 1) (moments_so g c) ∙ omega arith in
    Spends-within _ _ spent (omega (arith, count)) (omega (arith, count))

pub returns-in-None-clause-compared : goal.returns-in-None-clause-compared
returns-in-None-clause-compared g c =
    let past : length c.args.row.now ≤ c.loop-start.place = elim c.loop-start-test.branch [
      | then-loop-start-test+else-place-row w ↦ omega (arith, w.if-place-row.false)
      | else-loop-start-test w ↦ absurd (false≢true (sym (sym c.is_none.ensures ∙ ap is_some c.in-None.is) ∙ ap not w.loop-start-test.false))
    ] in
    let all = take_all c.loop-start.place c.args.row.now past in
    let none = ap (λ row. length (option_to_list c.args.first ++ flat_map timer_moments row)) (sym all) ∙ ap length (sym c.loop-start.invariant.start)
    ∙ ap (λ o. length (option_to_list o)) c.in-None.is in
    let fewer : length (option_to_list c.args.first ++ flat_map timer_moments c.args.row.now) - 1 ≡ 0 = omega (arith, none) in
    rw fewer (Spends-none c.args.m.now)

pub loop-start-preserved : goal.loop-start-preserved
loop-start-preserved g c = grind (arith, common_steps)
