use Rattle.mq_replay.proofs.Common.{◌++◌, codes, refl, err_from_is_err_and}
use Rattle.mq_wire.specs.Family.{Igmp, Mld}
use Rattle.mq_lines.specs.Messages.{either}
use Rattle.mq_replay.{specs.Listing.headers_in, proofs.Packets.text_put, proofs.Packets.text_broken}
use Rattle.mq_replay.proofs.packet_text.put_said.Goals as goal

pub returns-in_err-put_igmp-in-Igmp-clause-line : goal.returns-in_err-put_igmp-in-Igmp-clause-line
returns-in_err-put_igmp-in-Igmp-clause-line g c =
    let p = err_from_is_err_and c.from_residual.result c.from_residual.ensures.1 in
    let it = c.in_err-put_igmp-in-Igmp.ensures.text in
    let headers = headers_in c.args.json Igmp c.in-Igmp.source c.in-Igmp.destination c.in-Igmp.ttl c.in-Igmp.alert in
    rw (p.1, c.in-Igmp.is) (record {
      said = headers ++ (it.text ++ either c.args.json (codes "}\n") (codes "\n"));
      is_said = (it.flag, it.text, it.is_text, refl);
      put = text_broken _ _ _ _ headers _ _ c.put_headers.ensures it.put;
    })

pub returns-in_ok-put_igmp-in-Igmp-clause-line : goal.returns-in_ok-put_igmp-in-Igmp-clause-line
returns-in_ok-put_igmp-in-Igmp-clause-line g c =
    let it = c.in_ok-put_igmp-in-Igmp.ensures.text in
    let headers = headers_in c.args.json Igmp c.in-Igmp.source c.in-Igmp.destination c.in-Igmp.ttl c.in-Igmp.alert in
    rw c.in-Igmp.is (record {
      said = headers ++ (it.text ++ either c.args.json (codes "}\n") (codes "\n"));
      is_said = (it.flag, it.text, it.is_text, refl);
      put = rw (← c.either-end.ensures.text) (text_put _ _ _ _ _ _ _ headers _ _ _ c.put_headers.ensures it.put.1 c.put_end.ensures.text);
    })

pub returns-in_err-put_mld-in-Mld-clause-line : goal.returns-in_err-put_mld-in-Mld-clause-line
returns-in_err-put_mld-in-Mld-clause-line g c =
    let p = err_from_is_err_and c.from_residual-in_err-put_mld-in-Mld.result c.from_residual-in_err-put_mld-in-Mld.ensures.1 in
    let it = c.in_err-put_mld-in-Mld.ensures.text in
    let headers = headers_in c.args.json Mld c.in-Mld.source c.in-Mld.destination c.in-Mld.hop_limit c.in-Mld.alert in
    rw (p.1, c.in-Mld.is) (record {
      said = headers ++ (it.text ++ either c.args.json (codes "}\n") (codes "\n"));
      is_said = (it.flag, it.text, it.is_text, refl);
      put = text_broken _ _ _ _ headers _ _ c.put_headers-in-Mld.ensures it.put;
    })

pub returns-in_ok-put_mld-in-Mld-clause-line : goal.returns-in_ok-put_mld-in-Mld-clause-line
returns-in_ok-put_mld-in-Mld-clause-line g c =
    let it = c.in_ok-put_mld-in-Mld.ensures.text in
    let headers = headers_in c.args.json Mld c.in-Mld.source c.in-Mld.destination c.in-Mld.hop_limit c.in-Mld.alert in
    rw c.in-Mld.is (record {
      said = headers ++ (it.text ++ either c.args.json (codes "}\n") (codes "\n"));
      is_said = (it.flag, it.text, it.is_text, refl);
      put = rw (← c.either-end.ensures.text) (text_put _ _ _ _ _ _ _ headers _ _ _ c.put_headers-in-Mld.ensures it.put.1 c.put_end-in-Mld.ensures.text);
    })
