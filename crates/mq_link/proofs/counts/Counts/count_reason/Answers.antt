use Rattle.mq_link.proofs.Common.{◌≡◌, ◌<◌, ◌∙◌, ap, length, get_or, arith, counted_on, Counters, counted_at, reason_number}
use Rattle.mq_link.proofs.CountedRows.{row_counted, reason_positive}
use Rattle.mq_link.proofs.counts.Counts.count_reason.Goals as goal

pub returns : goal.returns
returns c =
    let place = c.reason_place-place.result in
    let row = c.self.inside.dropped_by in
    let number = c.reason_place-place.ensures.number in
    let within : place < length row = omega arith in
    let counted : c.saturating_add.result ≡ counted_on (get_or row place 0) 1 = omega arith in
    let written = row_counted reason_number reason_positive row place c.args.reason c.saturating_add.result number within counted in
    let left = written ∙ ap (λ (counts : Counters). counted_at reason_number c.args.reason 1 counts.dropped_by) c.self.view_is in
    λ i. record (c.self.view_is i) { dropped_by = left i }
