use Rattle.mq_link.proofs.Common.{ℕ, List, [], ◌∷◌, ◌++◌, ap, ◌∙◌, sym, refl, arith, eqb, list_any, sources_lowered}
use Rattle.mq_link.proofs.LoweredSoFar.{none_lowered, one_lowered, all_lowered}
use Rattle.mq_link.proofs.query_heard.lower_sources.Goals as goal

pub loop-source-init : goal.loop-source-init
loop-source-init g c = (
  [],
  record {
    parts = sym c.iter-source-items.ensures ∙ sym c.into_iter-source-iterator.ensures.into_iter_gives;
    state = none_lowered c.args.timing.now c.args.now c.args.group.now.state;
    room = refl;
    spent = record { at_least = omega arith; at_most = grind arith };
  },
)

pub loop-source-preserved : goal.loop-source-preserved
loop-source-preserved g c =
    let so_far = c.loop-source.invariant in (
      so_far.0 ++ g.K.Key.number c.in-Some.source ∷ [],
      one_lowered _ _ _ _ _ _ _ _ _ _ _ _ so_far.0 so_far.1 c.in-Some.ensures.steps c.lower_source.ensures.state c.lower_source.ensures.room
          c.lower_source.ensures.spent,
    )

pub returns-clause-state : goal.returns-clause-state
returns-clause-state g c =
    let so_far = c.loop-source.invariant in
    so_far.1.state ∙ ap (λ (done : List ℕ). sources_lowered c.args.timing.now c.args.now (λ s. list_any (λ n. eqb n s) done) c.args.group.now.state)
    (all_lowered _ _ _ _ _ _ _ _ so_far.0 so_far.1 c.in-None.ensures.steps.0)
