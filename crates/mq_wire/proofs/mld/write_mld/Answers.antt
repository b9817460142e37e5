use Rattle.mq_wire.proofs.Common.{List, ℕ, subst, Writes}
use Rattle.mq_wire.proofs.Written.{mld_written}
use Rattle.mq_wire.proofs.mld.write_mld.Goals as goal

pub returns : goal.returns
returns c =
    subst (λ (text : List ℕ). Writes text c.args.out.now c.write_query.new.out c.write_query.result)
    (mld_written c.args.source c.args.query.now c.in-Current.fields c.first_bytes-first.result c.pseudo_header-pseudo.result c.destination.result
    c.query_length-length.result c.in-Current.is c.first_bytes-first.ensures c.destination.ensures c.query_length-length.ensures c.pseudo_header-pseudo.ensures)
    c.write_query.ensures
