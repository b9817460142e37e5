use Rattle.mq_table.proofs.Common.{◌≡◌, ◌+◌, ◌<◌, ◌≤◌, min, false, refl, Option, List, Some, length, length-drop, get_or, take, drop, sym, ap, subst, ◌∙◌, ◌||◌}
use Rattle.mq_table.proofs.Common.{arith, length-set, AllWithin, list_any, take_all, lies_ahead, Spends-join_within, compared-here, compared-past, Source}
use Rattle.mq_table.proofs.Common.{deadline_of, running_among, runs_out, source_left, source_with, common_steps, is_some}
use Rattle.mq_table.proofs.EndedRuns.{run_stays, ended_leaves, behind_run, run_made, run_rest, running_among-more, running_among-run, any_out-run, any_out-more}
use Rattle.mq_table.proofs.MadeLists.{passed_some, passed_none, rest_after_some, rest_after_none}
use Rattle.mq_table.proofs.expiry.leave_sources.Goals as goal
use Rattle.mq_table.proofs.expiry.leave_sources.Goals.{in-Some, in_default}

pub loop-place-preserved-then-place-len : goal.loop-place-preserved-then-place-len
loop-place-preserved-then-place-len g c =
    let rule : Source g.row.K.Denot → Option (Source g.row.K.Denot) = source_left c.args.mode.now c.args.now in
    let initial = c.args.sources.now.items in
    let xs = c.loop-place.sources.items in
    let moved = c.move_run.new.sources.items in
    let place = c.loop-place.place in
    let left = c.loop-place.left in
    let run = c.count_ahead-run.result in
    let held = c.index.result.now in
    let so_far = c.loop-place.invariant in
    let row : c.rest_of.result.now ≡ drop place xs = c.rest_of.ensures ∙ ap (drop place) c.as_slice.ensures.value in
    let few = c.count_ahead-run.ensures.within in
    let long = ap length row in
    let within : run ≤ length (drop place xs) = omega (arith, few, long) in
    let stay = run_stays c.args.mode.now c.args.now c.rest_of.result.now (drop place xs) run row c.count_ahead-run.ensures.ahead in
    let rest_long = length-drop place xs in
    let moved_long = c.move_run.ensures.len ∙ so_far.len in
    let end = c.if-place-len.true in
    let now_long = c.len-in-loop-place.ensures in
    let inside : place + run < length initial = omega (arith, end, now_long, moved_long) in
    let made = run_made rule initial xs moved left place run so_far.made so_far.rest within stay c.move_run.ensures.moved c.move_run.ensures.rest in
    let rest = run_rest rule initial xs moved left place run so_far.made so_far.rest within stay c.move_run.ensures.moved c.move_run.ensures.rest in
    let next = subst (λ (xs : List (Source g.row.K.Denot)). AllWithin (λ x. lies_ahead c.args.now (deadline_of (Some x.timer)) ≡ false) xs run
    (min (run + 1) (length xs))) row c.count_ahead-run.ensures.next in
    let is_held = c.index.ensures ∙ behind_run xs moved place run held c.move_run.ensures.rest in
    let past = subst (λ (x : Source g.row.K.Denot). lies_ahead c.args.now (deadline_of (Some x.timer)) ≡ false) (sym is_held)
    (next run held (omega arith) (omega (arith, inside, rest_long, so_far.len))) in
    let ended = ended_leaves c.args.mode.now c.args.now held past in
    let behind : left + run ≤ place + run = omega (arith, so_far.behind) in
    let of_run = running_among-run c.args.now place run initial c.rest_of.result.now (row ∙ so_far.rest) few c.count_ahead-run.ensures.ahead in
    let here = is_held ∙ ap (λ ys. get_or ys run held) (sym row) in
    let one = compared-here (λ x. deadline_of (Some x.timer)) c.rest_of.result.now run held (omega (arith, long, inside, rest_long, so_far.len)) here in
    let more = running_among-more initial (place + run) held inside (is_held ∙ ap (λ ys. get_or ys run held) so_far.rest ∙
    sym (behind_run initial initial place run held refl)) in
    let ran_out = any_out-more c.args.now (place + run) initial held inside (is_held ∙ ap (λ ys. get_or ys run held) so_far.rest ∙
    sym (behind_run initial initial place run held refl)) past ∙ ap (λ b. b || is_some (deadline_of (Some held.timer)))
    (any_out-run c.args.now place run initial c.rest_of.result.now (row ∙ so_far.rest) few c.count_ahead-run.ensures.ahead ∙ sym so_far.ran_out) in
    let is_out = ap (λ b. c.loop-place.ran_out || b) (c.is_some-ran_out.ensures ∙ ap is_some c.deadline.ensures) in
    let spent = Spends-join_within (running_among (take (place + run + 1) initial))
    (running_among (take (place + run + 1) initial)) so_far.spent c.count_ahead-run.ensures.spent (omega (arith, of_run, one, more))
    (omega (arith, of_run, one, more)) in
    elim c.match-timer_at_zero.branch [
      | in-Some w ↦
          let y : Source g.row.K.Denot = record { address = held.address; timer = w.in-Some.timer } in
          let is = ended ∙ ap (source_with held.address) (sym c.timer_at_zero.ensures ∙ w.in-Some.is) in
          rw (w.sources-is, w.left-is) (record {
            behind = omega (arith, behind);
            within = omega (arith, inside);
            len = length-set moved (left + run) y ∙ moved_long;
            made = passed_some rule initial moved (left + run) (place + run) held behind inside moved_long made rest c.index.ensures y is;
            ran_out = is_out ∙ sym ran_out;
            rest = rest_after_some rule initial moved (left + run) (place + run) held behind inside moved_long made rest c.index.ensures y;
            capacity = c.move_run.ensures.capacity ∙ so_far.capacity;
            spent = spent;
          })
      | in_default w ↦
          let is = ended ∙ ap (source_with held.address) (sym c.timer_at_zero.ensures ∙ w.in_default.is) in
          rw (w.sources-is, w.left-is) (record {
            behind = omega (arith, behind);
            within = omega (arith, inside);
            len = moved_long;
            made = passed_none rule initial moved (left + run) (place + run) held behind inside moved_long made rest c.index.ensures is;
            ran_out = is_out ∙ sym ran_out;
            rest = rest_after_none rule initial moved (left + run) (place + run) held behind inside moved_long made rest c.index.ensures;
            capacity = c.move_run.ensures.capacity ∙ so_far.capacity;
            spent = spent;
          })
    ]

pub loop-place-preserved : goal.loop-place-preserved
loop-place-preserved g c =
    let rule : Source g.row.K.Denot → Option (Source g.row.K.Denot) = source_left c.args.mode.now c.args.now in
    let initial = c.args.sources.now.items in
    let xs = c.loop-place.sources.items in
    let place = c.loop-place.place in
    let run = c.count_ahead-run.result in
    let so_far = c.loop-place.invariant in
    let row : c.rest_of.result.now ≡ drop place xs = c.rest_of.ensures ∙ ap (drop place) c.as_slice.ensures.value in
    let few = c.count_ahead-run.ensures.within in
    let long = ap length row in
    let within : run ≤ length (drop place xs) = omega (arith, few, long) in
    let stay = run_stays c.args.mode.now c.args.now c.rest_of.result.now (drop place xs) run row c.count_ahead-run.ensures.ahead in
    let rest_long = length-drop place xs in
    let moved_long = c.move_run.ensures.len in
    let end = c.if-place-len.false in
    let now_long = c.len-in-loop-place.ensures in
    let of_run = running_among-run c.args.now place run initial c.rest_of.result.now (row ∙ so_far.rest) few c.count_ahead-run.ensures.ahead in
    let none = compared-past (λ x. deadline_of (Some x.timer)) c.rest_of.result.now run
    (omega (arith, long, rest_long, moved_long, end, now_long, so_far.within, so_far.len)) in
    record {
      behind = omega (arith, so_far.behind);
      within = omega (arith, within, rest_long, so_far.len, so_far.within);
      len = moved_long ∙ so_far.len;
      made = run_made rule initial xs c.move_run.new.sources.items c.loop-place.left place run so_far.made so_far.rest within stay
          c.move_run.ensures.moved c.move_run.ensures.rest;
      ran_out = so_far.ran_out ∙ sym (any_out-run c.args.now place run initial c.rest_of.result.now (row ∙ so_far.rest) few c.count_ahead-run.ensures.ahead);
      rest = run_rest rule initial xs c.move_run.new.sources.items c.loop-place.left place run so_far.made so_far.rest within stay
          c.move_run.ensures.moved c.move_run.ensures.rest;
      capacity = c.move_run.ensures.capacity ∙ so_far.capacity;
      spent = Spends-join_within (running_among (take (place + run) initial))
          (running_among (take (place + run) initial)) so_far.spent c.count_ahead-run.ensures.spent (omega (arith, of_run, none)) (omega (arith, of_run, none));
    }

pub returns-clause-ran_out : goal.returns-clause-ran_out
returns-clause-ran_out g c =
    let so_far = c.loop-place.invariant in
    let end = c.loop-place-test.false in
    let now_long = c.len.ensures in
    so_far.ran_out ∙ ap (list_any (runs_out c.args.now)) (take_all c.loop-place.place c.args.sources.now.items (omega (arith, end, now_long, so_far.len)))

pub move_run-requires-clause-within : goal.move_run-requires-clause-within
move_run-requires-clause-within g c = grind (arith, common_steps)

pub returns-clause-items : goal.returns-clause-items
returns-clause-items g c = grind (arith, common_steps)

pub returns-clause-spent : goal.returns-clause-spent
returns-clause-spent g c = grind (arith, common_steps)
