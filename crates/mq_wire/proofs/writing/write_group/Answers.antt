use Rattle.mq_wire.proofs.Common.{◌≤◌, ◌++◌, length, drop, length-append, refl, ap, arith, big_bytes}
use Rattle.mq_wire.proofs.WrittenParts.{next_part}
use Rattle.mq_wire.proofs.writing.write_group.Goals as goal

pub returns-clause-text : goal.returns-clause-text
returns-clause-text g c =
    let head = c.args.head.now in
    let first = c.copy_from_slice.new.self ++ drop (length head) c.args.out.now in
    let long : length head ≤ length first =
    (let front = ap length c.copy_from_slice.ensures.after in
    let all = length-append c.copy_from_slice.new.self (drop (length head) c.args.out.now) in omega (arith, front, all)) in
    rw c.WIDTH.ensures
    (next_part (length head) g.K.WireKey.WIDTH head (big_bytes g.K.WireKey.WIDTH (g.K.Key.number c.args.group)) c.args.out.now first c.write.new.out
    refl long (rw c.copy_from_slice.ensures.after refl) c.write.ensures)
