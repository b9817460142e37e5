use Rattle.std.proofs.{Common.◌∙◌, Common.arith, lemmas.List.length-take-le, lemmas.Result.err_from_is_err_and}
use Rattle.mq_pcap.proofs.Records.{record_read, data_cut, data_failed}
use Rattle.mq_pcap.proofs.record.read_record.Goals as goal

pub returns-in_err-fill-2 : goal.returns-in_err-fill-2
returns-in_err-fill-2 g c =
    let p = err_from_is_err_and c.from_residual-in_err-fill-2.result c.from_residual-in_err-fill-2.ensures.1 in
    let n = c.double_word-length.result in
    let size = c.fill-3.auto.buffer ∙ length-take-le n c.args.buffer.now (omega arith) in
    rw (p.1, p.2, c.in_err-fill-2.ensures.fault)
    (data_failed c.args.form c.args.number _ _ _ c.fill-2.new.buffer c.fill-3.new.buffer _ c.in_ok-count.count n _ c.fill-2.auto.buffer
    (omega arith) c.double_word-length.ensures (omega arith) size c.in_ok-count.ensures.fills c.in_err-fill-2.ensures.fills)

pub returns-then-branch-length : goal.returns-then-branch-length
returns-then-branch-length g c =
    let n = c.double_word-length.result in
    let size = c.fill-3.auto.buffer ∙ length-take-le n c.args.buffer.now (omega arith) in
    data_cut c.args.form c.args.number _ _ _ c.fill-2.new.buffer c.fill-3.new.buffer _ c.in_ok-count.count n _ (omega arith) c.fill-2.auto.buffer
    (omega arith) c.double_word-length.ensures (omega arith) size (omega arith) c.in_ok-count.ensures.fills c.in_ok-fill-2.ensures.fills

pub returns : goal.returns
returns g c =
    let n = c.double_word-length.result in
    let size = c.fill-3.auto.buffer ∙ length-take-le n c.args.buffer.now (omega arith) in
    record_read c.args.form c.args.number _ _ _ c.fill-2.new.buffer c.fill-3.new.buffer _ c.in_ok-count.count n _ _ (omega arith) c.fill-2.auto.buffer
    (omega arith) c.double_word-length.ensures _ size (omega arith) _
    (grind (arith, c.from.ensures, c.from-2.ensures, c.whole_ms.ensures, c.double_word-seconds.ensures, c.double_word-fraction.ensures))
    c.in_ok-count.ensures.fills c.in_ok-fill-2.ensures.fills
