use Rattle.mq_sets.proofs.Common.{◌<◌, ◌+◌, ◌-◌, ◌/◌, refl, arith, sym, ap, ◌∙◌, subst, length, nat_cmp, key_at, common_steps}
use Rattle.mq_sets.proofs.{KeysAt.key_at-read, Narrowing.IsNarrowed-to_above, Narrowing.IsNarrowed-to_below, Narrowing.spent_to_found}
use Rattle.mq_sets.proofs.firsts.search.Goals as goal

pub loop-low-preserved-in-Less : goal.loop-low-preserved-in-Less
loop-low-preserved-in-Less g c =
    let w : c.first.result < length c.args.keys.now = subst (λ n. n < length c.args.keys.now)
    (ap g.T.First.first_of (sym c.index-items-middle.is) ∙ sym c.first.ensures)
    (c.requires.within (c.loop-low.low + (c.loop-low.high - c.loop-low.low) / 2) c.index-items-middle.result (omega (arith, c.loop-low.invariant.within))) in
    let e = key_at-read g.K.Key.number c.args.keys.now c.first.result c.index-keys-first.result w c.index-keys-first.is ∙
    ap (key_at g.K.Key.number c.args.keys.now) c.first.ensures in
    IsNarrowed-to_above (λ x. key_at g.K.Key.number c.args.keys.now (g.T.First.first_of x)) c.args.items.now _ _ _ c.requires.ascending
    (omega (arith, c.loop-low.invariant.within)) c.index-items-middle.is c.loop-low.invariant c.loop-low-test.true refl
    (c.in-Less.ensures.answer ∙ ap (λ k. nat_cmp k (g.K.Key.number c.args.key)) e) c.order.ensures.spent

pub loop-low-preserved : goal.loop-low-preserved
loop-low-preserved g c =
    let w : c.first.result < length c.args.keys.now = subst (λ n. n < length c.args.keys.now)
    (ap g.T.First.first_of (sym c.index-items-middle.is) ∙ sym c.first.ensures)
    (c.requires.within (c.loop-low.low + (c.loop-low.high - c.loop-low.low) / 2) c.index-items-middle.result (omega (arith, c.loop-low.invariant.within))) in
    let e = key_at-read g.K.Key.number c.args.keys.now c.first.result c.index-keys-first.result w c.index-keys-first.is ∙
    ap (key_at g.K.Key.number c.args.keys.now) c.first.ensures in
    IsNarrowed-to_below (λ x. key_at g.K.Key.number c.args.keys.now (g.T.First.first_of x)) c.args.items.now _ _ _ c.requires.ascending
    (omega (arith, c.loop-low.invariant.within)) c.index-items-middle.is c.loop-low.invariant c.loop-low-test.true refl
    (c.in-Greater.ensures.answer ∙ ap (λ k. nat_cmp k (g.K.Key.number c.args.key)) e) c.order.ensures.spent

pub returns-in-Equal-clause-spent : goal.returns-in-Equal-clause-spent
returns-in-Equal-clause-spent g c =
    spent_to_found (λ x. key_at g.K.Key.number c.args.keys.now (g.T.First.first_of x)) c.args.items.now _ c.loop-low.invariant c.loop-low-test.true
    c.order.ensures.spent

pub returns-in-Equal-clause-found : goal.returns-in-Equal-clause-found
returns-in-Equal-clause-found g c = grind (arith, common_steps)
