use Rattle.mq_wire.proofs.Common.{◌∙◌, ◌≤◌, ◌+◌, length, group_end}
use Rattle.mq_wire.proofs.Queried.{current_read}
use Rattle.mq_wire.proofs.reading.query.Goals as goal

pub returns : goal.returns
returns g c =
    let long : group_end g.K.FamilyKey.FAMILY + 4 ≤ length c.args.bytes.now = rw c.if-is_older.false at c.in_ok-is_older.ensures in
    current_read g.K.Key.number g.K.FamilyKey.FAMILY c.args.bytes.now c.read-group.result g.K.WireKey.WIDTH c.GROUP.result c.GROUP_END.result
    c.current_response.result c.in_ok-fields.fields long g.met.K.FamilyKey.widths (c.GROUP.ensures ∙ g.met.K.FamilyKey.begins)
    (c.GROUP_END.ensures ∙ g.met.K.FamilyKey.ends) c.read-group.ensures c.current_response.ensures c.in_ok-fields.ensures
