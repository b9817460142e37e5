use Rattle.mq_c.proofs.Common.{ℕ, true, length, subst, w128, from_be_bytes, Mld, pseudo_header, LineStands}
use Rattle.mq_c.proofs.mld.mq_mld_json.Goals as goal

pub returns : goal.returns
returns c =
    let stands : ℕ → ℕ → Type 0 = λ source destination.
    LineStands true Mld (pseudo_header source destination (length c.args.body.now)) c.args.body.now c.args.line.now
    c.put_mld_line.new.line c.put_mld_line.result in
    record {
      text = subst (λ (source : ℕ). stands source (from_be_bytes w128 c.args.destination.now)) c.from_octets-source.ensures
          (subst (λ (destination : ℕ). stands c.from_octets-source.result destination) c.from_octets-destination.ensures c.put_mld_line.ensures.text);
    }
