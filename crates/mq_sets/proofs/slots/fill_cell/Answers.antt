use Rattle.mq_sets.proofs.Common.{arith, ◌∙◌, append-nil, IsCell, common_steps}
use Rattle.mq_sets.proofs.Cells.{All-last, AreSlots-filled, kept-filled, item-filled, AreSlots-appended, items_in-append}
use Rattle.mq_sets.proofs.slots.fill_cell.Goals as goal

pub returns-in-Some-clause-item : goal.returns-in-Some-clause-item
returns-in-Some-clause-item g c =
    let free_within = rw c.in-Some.ensures.items at c.requires.within in
    item-filled c.args.cells.now.items c.in-Some.cell c.args.item (All-last (IsCell c.args.cells.now.items) c.pop.new.self.items c.in-Some.cell free_within)

pub returns-in-Some-clause-used : goal.returns-in-Some-clause-used
returns-in-Some-clause-used g c order known =
    AreSlots-filled c.args.cells.now.items order c.pop.new.self.items c.args.item c.in-Some.cell (rw c.in-Some.ensures.items at known)

pub returns-in-Some-clause-kept : goal.returns-in-Some-clause-kept
returns-in-Some-clause-kept g c order known =
    kept-filled c.args.cells.now.items order c.pop.new.self.items c.args.item c.in-Some.cell (rw c.in-Some.ensures.items at known)

pub returns-in-None-clause-used : goal.returns-in-None-clause-used
returns-in-None-clause-used g c order known =
    let pushed = rw c.unwrap.ensures at c.push.ensures.items in
    let same = c.in-None.ensures.items ∙ append-nil c.pop.new.self.items in
    rw pushed (AreSlots-appended c.args.cells.now.items order c.pop.new.self.items c.args.item c.len-cell.result (omega arith) (rw same at known))

pub returns-in-None-clause-kept : goal.returns-in-None-clause-kept
returns-in-None-clause-kept g c order known =
    let pushed = rw c.unwrap.ensures at c.push.ensures.items in
    rw pushed (items_in-append c.args.cells.now.items order c.args.item known.within)

pub returns-in-None-clause-item : goal.returns-in-None-clause-item
returns-in-None-clause-item g c = grind (arith, common_steps)
