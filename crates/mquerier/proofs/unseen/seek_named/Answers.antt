use Rattle.mquerier.proofs.Common.{arith, Igmp, Mld, input_by}
use Rattle.mquerier.proofs.Seen.{sought_for}
use Rattle.mquerier.proofs.unseen.seek_named.Goals as goal

pub returns-in-Some : goal.returns-in-Some
returns-in-Some g c =
    let first = input_by g.R.Read.remaining c.args.first.now c.seek_at.new.first in
    rw (c.in-Igmp.is) (sought_for Igmp c.args.querier.now c.in-Some.own c.args.settings.now c.args.until first c.seek_at.result c.in-Some.ensures
    c.seek_at.ensures)

pub returns-in-Some-read_v6 : goal.returns-in-Some-read_v6
returns-in-Some-read_v6 g c =
    let first = input_by g.R.Read.remaining c.args.first.now c.seek_at-in-Some-read_v6.new.first in
    rw (c.in-Mld.is) (sought_for Mld c.args.querier.now c.in-Some-read_v6.own c.args.settings.now c.args.until first c.seek_at-in-Some-read_v6.result
    c.in-Some-read_v6.ensures c.seek_at-in-Some-read_v6.ensures)

pub returns-in-None-read_v6 : goal.returns-in-None-read_v6
returns-in-None-read_v6 g c = rw (c.in-Mld.is) (λ e. c.in-None-read_v6.ensures, λ e. absurd (omega (arith, e)))
