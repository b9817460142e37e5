use Rattle.mq_link.proofs.Common.{arith, Spends-within, bitlen-mono, few-running}
use Rattle.mq_link.proofs.{KeptGroups.spot_absent, KeptGroups.absent_unheld, PaidEdits.made_paid}
use Rattle.mq_link.proofs.storage.Storage.insert.Goals as goal

pub returns-clause-spent : goal.returns-clause-spent
returns-clause-spent g c = Spends-within _ _ c.insert.ensures.spent (omega arith) (omega (arith, bitlen-mono _ _ (few-running c.args.self.now.held.groups)))

pub returns-clause-moved : goal.returns-clause-moved
returns-clause-moved g c =
    let s = c.args.self.now.held in
    let numbered = c.lemma_is_numbered.ensures in
    let absent = spot_absent s _ _ c.requires.spot numbered.held in
    made_paid s (omega (arith, numbered.fits, c.requires.few)) numbered.filled numbered.few_pages c.insert.new.self _ c.insert.ensures.moved.0 c.args.spot
    (record { group = c.args.group.now.state; schedule = c.args.schedule }) _ _ numbered.fits (absent_unheld _ _ absent) c.requires.spot
    c.requires.fits c.insert.ensures.groups c.insert.ensures.room c.insert.ensures.source_room c.insert.ensures.moved.1 c.insert.ensures.moved.2
