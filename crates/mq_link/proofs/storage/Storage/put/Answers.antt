use Rattle.mq_link.proofs.Common.{◌+◌, ◌-◌, arith, Spends-within, key_in, bitlen-mono, group_at, one_if, running_in, few-running}
use Rattle.std.specs.FinMap as map
use Rattle.mq_link.proofs.{GroupNumbers.number_found, GrownGroups.one_at_most, PaidEdits.put_paid}
use Rattle.mq_link.proofs.storage.Storage.put.Goals as goal

pub returns-clause-spent : goal.returns-clause-spent
returns-clause-spent g c =
    let s = c.args.self.now.held in
    let has = number_found s c.args.number c.requires.number in
    let all = few-running s.groups in
    Spends-within _ _ (c.put.ensures.spent _ has) (omega arith)
    (omega (
      arith,
      bitlen-mono
          (running_in s.groups - one_if
          (Rattle.std.specs.Prelude.not (Rattle.mq_table.specs.Group.is_vacant (group_at s.groups (key_in s.order.items c.args.number)).group)))
          (map.len s.groups) (omega (arith, all)),
    ))

pub returns-clause-moved : goal.returns-clause-moved
returns-clause-moved g c =
    let s = c.args.self.now.held in
    let a = key_in s.order.items c.args.number in
    let has = number_found s c.args.number c.requires.number in
    let all = few-running s.groups in
    let one = one_at_most (Rattle.mq_table.specs.Group.is_vacant (group_at s.groups a).group) in
    let moved = c.put.ensures.moved _ has in
    let vacant = Rattle.mq_table.specs.Group.is_vacant (group_at s.groups a).group in
    put_paid s c.put.new.self a (Rattle.mq_table.specs.Stored.size_of c.args.group.now.state) (running_in s.groups + one_if vacant) moved.0
    (running_in s.groups - one_if (Rattle.std.specs.Prelude.not vacant)) (record { group = c.args.group.now.state; schedule = c.args.schedule }) _ _
    c.lemma_is_numbered.ensures.fits (c.requires.fits _ has) (omega arith) (omega (arith, one)) (c.put.ensures.groups _ has) c.put.ensures.order
    c.put.ensures.source_room moved.1 (omega (arith, all)) moved.2
