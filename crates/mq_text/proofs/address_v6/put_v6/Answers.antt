use Rattle.std.proofs.Common.{◌≡◌, ◌++◌, List, ℕ, length, ap, ◌∙◌, refl}
use Rattle.mq_text.{specs.AddressV6.groups_of, specs.AddressV6.longest_zeros, proofs.PutGroups.put_shortened}
use Rattle.mq_text.proofs.address_v6.put_v6.Goals as goal

pub returns-clause-text : goal.returns-clause-text
returns-clause-text c =
    let groups : c.groups-groups.result ≡ groups_of c.args.address = c.groups-groups.ensures in
    let run : c.longest_zeros-run.result ≡ longest_zeros c.groups-groups.result = c.longest_zeros-run.ensures.run in
    let eight : length c.groups-groups.result ≡ 8 = ap length groups in
    put_shortened c.args.text.now.items c.put_groups-2.new.text.items c.put.new.text.items c.put_groups-3.new.text.items c.groups-groups.result
    c.longest_zeros-run.result eight c.if-run-lt2.false c.put_groups-2.ensures.text c.put.ensures.text c.put_groups-3.ensures.text
    ∙ ap (λ (text : List ℕ). c.args.text.now.items ++ text) (rw (run, groups) refl)
