use Rattle.mq_table.proofs.Common.{◌<◌, get_or, ap, arith, ranked, number_in, common_steps}
use Rattle.std.specs.declared.cmp.Ordering.TheVariants.{Greater}
use Rattle.mq_table.proofs.Runs.{above_place}
use Rattle.mq_table.proofs.merged_runs.find_ahead.Goals as goal

pub returns-in-Greater-clause-absent : goal.returns-in-Greater-clause-absent
returns-in-Greater-clause-absent g c =
    let number = number_in g.K.Key.number in
    let at : g.K.Key.number c.args.name < number (get_or c.args.sources.now c.loop-place.place c.index-sources-place.result) =
    ranked (number (get_or c.args.sources.now c.loop-place.place c.index-sources-place.result))
    (g.K.Key.number c.args.name) Greater c.in-Greater.ensures.answer in
    record {
      within = omega arith;
      below = c.loop-place.invariant.below;
      above = above_place number c.args.sources.now (g.K.Key.number c.args.name) c.loop-place.place c.index-sources-place.result c.requires.ascending
          c.loop-place-test.true c.index-sources-place.is (omega (arith, at, ap number c.index-sources-place.is));
    }

pub loop-place-preserved : goal.loop-place-preserved
loop-place-preserved g c = grind (arith, common_steps)
