use Rattle.mq_c.proofs.Common.{◌≡◌, length, sym, ap, ◌∙◌, arith, length-map}
use Rattle.mq_c.proofs.ToldAddresses.{told_from}
use Rattle.mq_c.proofs.changed.put_changed.Goals as goal

pub returns : goal.returns
returns g c =
    let number = g.F.Address.Key.number in
    let addresses = c.changed-changed.result.now in
    let size : length addresses ≡ length c.args.workspace.now.changed = sym (length-map addresses number) ∙ ap length c.changed-changed.ensures.changed in
    record {
      addresses_are = told_from number g.F.CFamily.octets_with addresses c.args.workspace.now.changed c.args.first c.min-first.result c.args.out.now
          c.put_addresses.new.out
          c.changed-changed.ensures.changed c.min-first.ensures c.put_addresses.ensures;
      count_is = λ few. c.few.ensures (omega (arith, size)) ∙ size;
    }
