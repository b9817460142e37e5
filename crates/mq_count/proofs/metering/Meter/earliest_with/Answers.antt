use Rattle.mq_count.proofs.Common.{◌≡◌, ◌-◌, ◌++◌, [], ◌∷◌, take, length, length-append, append-nil, ap, sym, subst, ◌∙◌, arith, option_to_list, take_all}
use Rattle.mq_count.proofs.Common.{Spends, least, moments_by}
use Rattle.mq_count.proofs.TimedMoments.{moments-more, least-more}
use Rattle.mq_count.proofs.metering.Meter.earliest_with.Goals as goal
use Rattle.mq_count.proofs.metering.Meter.earliest_with.Goals.{in-Some+then-ms, in-Some+else-ms, in-None}

pub overflow_add-without : goal.overflow_add-without
overflow_add-without g c = let long = c.well_formed.1.1.0.0 in omega (arith, c.loop-x.invariant.without, c.loop-x-test.true, long)

pub loop-x-preserved : goal.loop-x-preserved
loop-x-preserved g c =
    let f = g.T.Timed.moment_of in
    let so_far = moments_by f (take c.loop-x.x-index c.args.items.now) in
    let more = moments-more f c.args.items.now c.loop-x.x-index c.x-item.result c.loop-x-test.true c.x-item.is in
    let i = c.loop-x.invariant in
    elim c.match-moment.branch [
      | in-Some+then-ms w ↦
          let all = more ∙ ap (λ o. so_far ++ option_to_list o) (sym c.moment.ensures ∙ w.in-Some.is) in
          let count = ap length all ∙ length-append so_far (w.in-Some.moment ∷ []) in
          let least_is = ap (least c.args.first) all ∙ least-more c.args.first w.in-Some.moment so_far in
          let e = i.earliest in
          let n = i.without in
          record {
            earliest = omega (arith, least_is, e, w.earliest-is, w.if-ms.true, w.ms.ensures, w.ms-in-Some.ensures);
            without = omega (arith, count, n, w.without-is);
            meter = i.meter;
          }
      | in-Some+else-ms w ↦
          let all = more ∙ ap (λ o. so_far ++ option_to_list o) (sym c.moment.ensures ∙ w.in-Some.is) in
          let count = ap length all ∙ length-append so_far (w.in-Some.moment ∷ []) in
          let least_is = ap (least c.args.first) all ∙ least-more c.args.first w.in-Some.moment so_far in
          let e = i.earliest in
          let n = i.without in
          record {
            earliest = omega (arith, least_is, e, w.earliest-is, w.if-ms.false, w.ms.ensures, w.ms-in-Some.ensures);
            without = omega (arith, count, n, w.without-is);
            meter = i.meter;
          }
      | in-None w ↦
          let all = more ∙ ap (λ o. so_far ++ option_to_list o) (sym c.moment.ensures ∙ w.in-None.is) ∙ append-nil so_far in
          let count = ap length all in
          let n = i.without in
          record {
            earliest = w.earliest-is ∙ i.earliest ∙ ap (least c.args.first) (sym all);
            without = omega (arith, count, n, w.without-is);
            meter = i.meter;
          }
    ]

pub returns-clause-answer : goal.returns-clause-answer
returns-clause-answer g c =
    let all = take_all c.loop-x.x-index c.args.items.now c.loop-x-test.false in
    c.loop-x.invariant.earliest ∙ ap (λ xs. least c.args.first (moments_by g.T.Timed.moment_of xs)) all

pub returns-clause-spent : goal.returns-clause-spent
returns-clause-spent g c =
    let all = take_all c.loop-x.x-index c.args.items.now c.loop-x-test.false in
    let same = ap (λ xs. length (moments_by g.T.Timed.moment_of xs)) all in
    let few = ap length all in
    let counted = c.loop-x.invariant.without in
    let count : length c.args.items.now - c.loop-x.without ≡ length (moments_by g.T.Timed.moment_of c.args.items.now) =
    omega (arith, same, counted, few, c.loop-x-test.false) in
    subst (λ n. Spends n n c.args.self.now c.count_comparisons.new.self) count c.count_comparisons.ensures
