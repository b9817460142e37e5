use Rattle.mq_link.proofs.Common.{◌≡◌, ◌+◌, ◌<◌, ◌≤◌, ◌∙◌, ap, sym, arith, length, list_any, list_any_at, take, take_all}
use Rattle.std.specs.FinMap as map
use Rattle.mq_held.specs.Listed.{entry_in}
use Rattle.mq_link.specs.Configuring.{is_barred}
use Rattle.mq_link.proofs.Reconfigured.{barred_more, entry_at}
use Rattle.mq_link.proofs.configuring.any_is_barred.Given.{Over}
use Rattle.mq_link.proofs.configuring.any_is_barred.Goals as goal
use Rattle.mq_link.proofs.configuring.any_is_barred.Goals.{After-is_barred}

-- one group more was looked at
barred_so : (g : Over) (c : After-is_barred g) →
    list_any (is_barred c.args.config.now) (take (c.loop-place.place + 1) (map.entries c.args.held.now.groups)) ≡ c.is_barred.result
barred_so g c =
    let address = g.F.Address.Key.number c.entry.result.address in
    let has = c.entry.ensures.rank in
    barred_more c.args.config.now c.args.held.now.groups address c.loop-place.place _ (omega (arith, c.loop-place-test.true, c.len-place-end.ensures))
    has (c.entry.ensures.group address has) c.loop-place.invariant ∙ sym c.is_barred.ensures

pub returns-then-is_barred : goal.returns-then-is_barred
returns-then-is_barred g c =
    let config = c.args.config.now in
    let groups = c.args.held.now.groups in
    let address = g.F.Address.Key.number c.entry.result.address in
    let has = c.entry.ensures.rank in
    let is = c.entry.ensures.group address has in
    let place = c.loop-place.place in
    let entry = entry_in g.F.Address.Key.number c.entry.result in
    let within : place < length (map.entries groups) = omega (arith, c.loop-place-test.true, c.len-place-end.ensures, map.len-entries groups) in
    sym (list_any_at (is_barred config) (map.entries groups) place entry within
    ((λ i. is_barred config (entry_at groups address place entry.1 has is entry i)) ∙ sym c.is_barred.ensures ∙ c.if-is_barred.true))

pub loop-place-preserved : goal.loop-place-preserved
loop-place-preserved g c = barred_so g c.before ∙ c.if-is_barred.false

pub returns : goal.returns
returns g c =
    let groups = c.args.held.now.groups in
    let few : length (map.entries groups) ≤ c.loop-place.place = omega (arith, c.loop-place-test.false, c.len-place-end.ensures, map.len-entries groups) in
    sym (ap (list_any (is_barred c.args.config.now)) (sym (take_all c.loop-place.place (map.entries groups) few)) ∙ c.loop-place.invariant)
