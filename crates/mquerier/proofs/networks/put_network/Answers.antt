use Rattle.mquerier.proofs.Common.{codes, decimal, comma_before, four_parts}
use Rattle.mquerier.specs.Failures.{vlan_text}
use Rattle.mquerier.proofs.networks.put_network.Goals as goal

pub returns-clause-text : goal.returns-clause-text
returns-clause-text c =
    let network = c.args.network.now in
    rw (c.put_vlan.ensures.text, c.put_decimal.ensures.text, c.put.ensures.text, c.put_comma.ensures.text)
    (four_parts c.args.lines.now.items (comma_before c.args.is_first) (codes " interface ") (decimal network.interface) (vlan_text network.vlan))
