use Rattle.mq_held.proofs.Common.{◌≡◌, ◌<◌, get_or, sym, ap, ◌∙◌, arith, ranked, Less, Equal, Greater, Spends-join_within, Spends-within, number_in}
use Rattle.std.specs.Result.{is_ok}
use Rattle.mq_held.proofs.NamedWalks.{IsWalked-first, IsWalked-met, IsWalked-passed, first-absent, some_item, walked-absent, walked-behind}
use Rattle.std.proofs.lemmas.Grind.{common_steps}
use Rattle.mq_held.proofs.several_in_place.has_each.Goals as goal
use Rattle.mq_held.proofs.several_in_place.has_each.Goals.{in-Less, in-Equal}

pub returns-then-place-row-clause-all : goal.returns-then-place-row-clause-all
returns-then-place-row-clause-all g c =
    sym (walked-behind (number_in g.K.Key.number) g.K.Key.number c.args.row.now c.args.named.now c.requires.ascending c.requires.named
    c.loop-next.place c.loop-next.next c.loop-next.invariant.walked c.if-place-row.true c.loop-next-test.true)

pub returns-in-Greater-clause-all : goal.returns-in-Greater-clause-all
returns-in-Greater-clause-all g c =
    let number = number_in g.K.Key.number in
    let row = c.args.row.now in
    let x = c.index-row-place.result in
    let k = c.index-named-next.result in
    let at : g.K.Key.number k < number (get_or row c.loop-next.place x) = ranked (number (get_or row c.loop-next.place x))
    (g.K.Key.number k) Greater c.in-Greater.ensures.answer in
    sym (walked-absent number g.K.Key.number row c.args.named.now c.requires.ascending c.requires.named c.loop-next.place c.loop-next.next k
    c.loop-next.invariant.walked c.index-named-next.is c.loop-next-test.true x c.index-row-place.is (omega arith)
    (omega (arith, at, ap number c.index-row-place.is)))

pub loop-next-preserved : goal.loop-next-preserved
loop-next-preserved g c =
    let number = number_in g.K.Key.number in
    let row = c.args.row.now in
    let x = c.index-row-place.result in
    let k = c.index-named-next.result in
    let same = ap number c.index-row-place.is in
    elim c.match-order.branch [
      | in-Less w ↦
          let at : number (get_or row c.loop-next.place x) < g.K.Key.number k = ranked (number (get_or row c.loop-next.place x))
          (g.K.Key.number k) Less w.in-Less.ensures.answer in
          rw w.next-is (record {
            walked = IsWalked-passed number g.K.Key.number row c.args.named.now c.requires.ascending c.requires.named c.loop-next.place
                c.loop-next.next k c.loop-next.invariant.walked c.index-named-next.is c.loop-next-test.true x c.index-row-place.is (omega arith)
                (omega (arith, at, same));
            spent = Spends-join_within _ _ c.loop-next.invariant.spent c.order.ensures.spent (omega arith) (omega arith);
          })
      | in-Equal w ↦
          let at : number (get_or row c.loop-next.place x) ≡ g.K.Key.number k = ranked (number (get_or row c.loop-next.place x))
          (g.K.Key.number k) Equal w.in-Equal.ensures.answer in
          rw w.next-is (record {
            walked = IsWalked-met number g.K.Key.number row c.args.named.now c.requires.ascending c.requires.named c.loop-next.place c.loop-next.next
                k c.loop-next.invariant.walked c.index-named-next.is c.loop-next-test.true x c.index-row-place.is (omega arith) (omega (arith, at, same));
            spent = Spends-join_within _ _ c.loop-next.invariant.spent c.order.ensures.spent (omega arith) (omega arith);
          })
    ]

pub returns-in_default-clause-all : goal.returns-in_default-clause-all
returns-in_default-clause-all g c =
    let number = number_in g.K.Key.number in
    sym (first-absent number g.K.Key.number c.args.row.now c.args.named.now c.index-named-0.result c.index-named-0.is c.requires.some
    (c.find.ensures.member ∙ ap is_ok c.in_default.is))

pub loop-next-init : goal.loop-next-init
loop-next-init g c =
    let number = number_in g.K.Key.number in
    let row = c.args.row.now in
    let inside = c.in-Ok.ensures.found_in in
    let x = some_item row (omega (arith, inside)) in
    record {
      walked = IsWalked-first number g.K.Key.number row c.args.named.now c.requires.ascending c.requires.named c.in-Ok.first x c.index-named-0.result
          c.index-named-0.is c.requires.some inside (c.in-Ok.ensures.found x);
      spent = Spends-within _ _ c.find.ensures.spent (omega (arith, inside)) (omega arith);
    }

pub returns-clause-all : goal.returns-clause-all
returns-clause-all g c = grind (arith, common_steps)
