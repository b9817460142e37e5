use Rattle.mq_link.proofs.Common.{◌≡◌, ◌<◌, ◌∙◌, ap, length, get_or, arith, counted_on, Counters, counted_at, refusal_number}
use Rattle.mq_link.proofs.CountedRows.{row_counted, refusal_positive}
use Rattle.mq_link.proofs.counts.Counts.count_refusal.Goals as goal

pub returns : goal.returns
returns c =
    let place = c.refusal_place-place.result in
    let row = c.self.inside.refused_by in
    let number = c.refusal_place-place.ensures.number in
    let within : place < length row = omega arith in
    let counted : c.saturating_add.result ≡ counted_on (get_or row place 0) 1 = omega arith in
    let written = row_counted refusal_number refusal_positive row place c.args.name c.saturating_add.result number within counted in
    let left = written ∙ ap (λ (counts : Counters). counted_at refusal_number c.args.name 1 counts.refused_by) c.self.view_is in
    λ i. record (c.self.view_is i) { refused_by = left i }
