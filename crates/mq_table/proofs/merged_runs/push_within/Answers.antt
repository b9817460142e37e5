use Rattle.mq_table.proofs.Common.{length, arith, LooksByHalves, Spends-within, bitlen-few, common_steps}
use Rattle.mq_table.proofs.merged_runs.push_within.Goals as goal

pub returns-then-named-eq1-clause-compares : goal.returns-then-named-eq1-clause-compares
returns-then-named-eq1-clause-compares g c =
    let one = c.if-named-eq1.true in
    let few = bitlen-few (length c.args.held.now) in
    Spends-within _ _ c.push_around.ensures.compares (omega (arith, one)) (omega (arith, one, few))

pub returns-then-not-leaves_alone-clause-by_halves : goal.returns-then-not-leaves_alone-clause-by_halves
unfolding LooksByHalves
returns-then-not-leaves_alone-clause-by_halves g c one kept =
    let told = c.leaves_alone.ensures.told in
    let other = c.if-not-leaves_alone.true in
    absurd cc

pub returns-then-named-eq1-clause-by_halves : goal.returns-then-named-eq1-clause-by_halves
unfolding LooksByHalves
returns-then-named-eq1-clause-by_halves g c one kept = Spends-within _ _ c.push_around.ensures.compares (omega arith) (omega arith)

pub returns-else-named-eq1-clause-by_halves : goal.returns-else-named-eq1-clause-by_halves
unfolding LooksByHalves
returns-else-named-eq1-clause-by_halves g c one kept = absurd (c.if-named-eq1.false one)

pub returns-then-named-eq1-clause-sources : goal.returns-then-named-eq1-clause-sources
returns-then-named-eq1-clause-sources g c = grind (arith, common_steps)

pub returns-then-named-eq1-clause-turned : goal.returns-then-named-eq1-clause-turned
returns-then-named-eq1-clause-turned g c = grind (arith, common_steps)

pub returns-then-named-eq1-clause-asked : goal.returns-then-named-eq1-clause-asked
returns-then-named-eq1-clause-asked g c = grind (arith, common_steps)
