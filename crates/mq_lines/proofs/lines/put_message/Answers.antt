use Rattle.mq_lines.proofs.Common.{ℕ, [], ◌++◌, ap, codes, ◌∙◌, err_from_is_err_and, either, record_items, source_items, numbered_query, numbered_message}
use Rattle.mq_lines.proofs.Common.{broken_behind, broken_within, held_more, then_put}
use Rattle.std.proofs.Common.{length}
use Rattle.mq_lines.specs.{Messages.message_in, Messages.query_start, Messages.query_end, Messages.report_start, Text.query_sources}
use Rattle.mq_lines.proofs.lines.put_message.Goals as goal

pub returns-in_err-make_room-clause-text : goal.returns-in_err-make_room-clause-text
returns-in_err-make_room-clause-text g c =
    let p = err_from_is_err_and c.from_residual.result c.from_residual.ensures.1 in
    rw p.1 (broken_within _ _ _ [] (message_in c.args.json g.K.LineKey.family (numbered_message g.K.Key.number c.args.message)) c.in_err-make_room.ensures.text)

pub returns-in_err-put_query_sources-in-Query-clause-text : goal.returns-in_err-put_query_sources-in-Query-clause-text
returns-in_err-put_query_sources-in-Query-clause-text g c =
    let p = err_from_is_err_and c.from_residual-in_err-put_query_sources-in-Query.result c.from_residual-in_err-put_query_sources-in-Query.ensures.1 in
    let query = numbered_query g.K.Key.number c.in-Query.query in
    let head = query_start c.args.json g.K.LineKey.family query in
    let sources = source_items c.args.json g.K.LineKey.family (query_sources query.version) in
    let begun = held_more _ _ _ _ _ [] head c.in_ok-make_room.ensures.text c.put_query_start.ensures in
    rw (p.1, c.in-Query.is) (broken_behind _ _ _ _ _ head (sources ++ query_end c.args.json query.version) begun
    (broken_within _ _ _ sources (query_end c.args.json query.version) c.in_err-put_query_sources-in-Query.ensures.text))

pub returns-in_ok-put_query_sources-in-Query-clause-text : goal.returns-in_ok-put_query_sources-in-Query-clause-text
returns-in_ok-put_query_sources-in-Query-clause-text g c =
    let query = numbered_query g.K.Key.number c.in-Query.query in
    let head = query_start c.args.json g.K.LineKey.family query in
    let sources = source_items c.args.json g.K.LineKey.family (query_sources query.version) in
    let begun = held_more _ _ _ _ _ [] head c.in_ok-make_room.ensures.text c.put_query_start.ensures in
    rw (c.in-Query.is, ← c.query_end-end.ensures.text) (then_put _ _ _ _ _ _ head _ _ begun
    (then_put _ _ _ _ _ _ sources _ _ c.in_ok-put_query_sources-in-Query.ensures.text c.put_end.ensures.text))

pub returns-in-OldReport-clause-text : goal.returns-in-OldReport-clause-text
returns-in-OldReport-clause-text g c =
    rw c.in-OldReport.is (held_more _ _ _ _ _ [] _ c.in_ok-make_room.ensures.text c.put_older_report.ensures)

pub returns-in-Leave-clause-text : goal.returns-in-Leave-clause-text
returns-in-Leave-clause-text g c =
    rw c.in-Leave.is (held_more _ _ _ _ _ [] _ c.in_ok-make_room.ensures.text c.put_leave.ensures)

pub returns-in_err-put_records-in-Report-clause-text : goal.returns-in_err-put_records-in-Report-clause-text
returns-in_err-put_records-in-Report-clause-text g c =
    let p = err_from_is_err_and c.from_residual-in_err-put_records-in-Report.result c.from_residual-in_err-put_records-in-Report.ensures.1 in
    let head = report_start c.args.json g.K.LineKey.family (length c.in-Report.records) in
    let records = record_items c.args.json g.K.LineKey.family c.in-Report.records in
    let begun = held_more _ _ _ _ _ [] head c.in_ok-make_room.ensures.text
    (c.put_report_start.ensures ∙ ap (λ (n : ℕ). c.make_room.new.buffer.items ++ report_start c.args.json g.K.LineKey.family n) c.len.ensures) in
    rw (p.1, c.in-Report.is) (broken_behind _ _ _ _ _ head (records ++ either c.args.json (codes "]}") []) begun
    (broken_within _ _ _ records (either c.args.json (codes "]}") []) c.in_err-put_records-in-Report.ensures.text))

pub returns-in_ok-put_records-in-Report-clause-text : goal.returns-in_ok-put_records-in-Report-clause-text
returns-in_ok-put_records-in-Report-clause-text g c =
    let head = report_start c.args.json g.K.LineKey.family (length c.in-Report.records) in
    let records = record_items c.args.json g.K.LineKey.family c.in-Report.records in
    let begun = held_more _ _ _ _ _ [] head c.in_ok-make_room.ensures.text
    (c.put_report_start.ensures ∙ ap (λ (n : ℕ). c.make_room.new.buffer.items ++ report_start c.args.json g.K.LineKey.family n) c.len.ensures) in
    rw (c.in-Report.is, ← c.either.ensures.text) (then_put _ _ _ _ _ _ head _ _ begun
    (then_put _ _ _ _ _ _ records _ _ c.in_ok-put_records-in-Report.ensures.text c.put_end-in-Report.ensures.text))
