use Rattle.mq_convert.proofs.Common.{subst, captured_of, Sifts}
use Rattle.mq_convert.proofs.Sieved.{counted_more, left_more}
use Rattle.mq_convert.proofs.converting.put_packet.Goals as goal

pub returns-then-leaves_out-clause-sieved : goal.returns-then-leaves_out-clause-sieved
returns-then-leaves_out-clause-sieved g c = λ asked packets has.
    let packet = captured_of c.args.block.now c.in-Some.packet in
    let sifts = subst (λ left. Sifts c.args.sieve.now c.leaves_out.new.self packet left) c.if-leaves_out.true c.leaves_out.ensures in
    rw c.in-Some.is (left_more asked packets c.args.sieve.now c.leaves_out.new.self packet has sifts)

pub returns-clause-sieved : goal.returns-clause-sieved
returns-clause-sieved g c = λ asked packets has.
    let packet = captured_of c.args.block.now c.in-Some.packet in
    let sifts = subst (λ left. Sifts c.args.sieve.now c.leaves_out.new.self packet left) c.if-leaves_out.false c.leaves_out.ensures in
    rw c.in-Some.is (counted_more asked packets c.args.sieve.now c.leaves_out.new.self c.add.new.self packet has sifts c.add.ensures.choice
    c.add.ensures.gone c.add.ensures.repeated (c.add.ensures.unread c.args.block.now))
