use Rattle.mq_wire.proofs.Common.{arith}
use Rattle.mq_wire.proofs.RecordLists.{first_is_whole, first_handed, others_whole, one_fewer}
use Rattle.mq_wire.proofs.records.RecordsIterator.next.Goals as goal

pub record_at-record-requires : goal.record_at-record-requires
record_at-record-requires g c =
    (first_is_whole g.K.WireKey.WIDTH c.self.inside.left c.self.inside.place c.self.inside.bytes.now (omega arith) c.self.invariant).0

pub invariant_of-self : goal.invariant_of-self
invariant_of-self g c =
    others_whole g.K.WireKey.WIDTH c.self.inside.left c.self.inside.place c.record_at-record.result.1 c.self.inside.bytes.now
    (omega arith) c.record_at-record.ensures.end c.self.invariant

pub returns-clause-steps : goal.returns-clause-steps
returns-clause-steps g c =
    first_handed g.K.WireKey.WIDTH c.self.inside.left c.self.inside.place c.record_at-record.result.1 c.self.inside.bytes.now c.args.self.now _
    (omega arith) c.self.view_is c.record_at-record.ensures.record c.record_at-record.ensures.end

pub returns-clause-goes : goal.returns-clause-goes
returns-clause-goes g c =
    record {
      on = λ finite. (tt, tt, one_fewer _ _ _ (returns-clause-steps g c));
      keeps = tt;
      rests = λ finite. tt;
    }
