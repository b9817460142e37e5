-- A finding that is left out, or whose line is put.
use Rattle.mq_check.proofs.Common.{ap, sym, ◌∙◌, numbered_finding, FindingWriterState, counted_one}
use Rattle.mq_check.proofs.Tellings.{one_left_out, one_told}
use Rattle.mq_check.proofs.finding_writer.FindingWriter.tell.Goals as goal

pub returns-then-is_left_out : goal.returns-then-is_left_out
returns-then-is_left_out g c = one_left_out _ _ _ _ _ _ (sym c.leaves_out-is_left_out.ensures ∙ c.if-is_left_out.true) c.note.ensures

pub returns : goal.returns
returns g c =
    let finding = numbered_finding g.F.Address.Key.number c.args.finding in
    let counts = c.count_one.ensures
    ∙ ap (λ (t : FindingWriterState). record t { count = counted_one finding t.count }) c.note.ensures in
    let it = c.put_line.ensures in
    one_told _ finding _ _ _ _ _ c.put_line.result (sym c.leaves_out-is_left_out.ensures ∙ c.if-is_left_out.false)
    counts it.additions it.last it.count it.text it.failed
