use Rattle.mq_c.proofs.Common.{[], sym, ◌∙◌, Igmp}
use Rattle.mq_c.proofs.LentLines.{line_stands}
use Rattle.mq_c.proofs.lines.put_igmp_line.Goals as goal

pub returns : goal.returns
returns g c =
    let made = c.new-room.ensures in
    let told = c.igmp_line-printed.ensures in
    let room = c.igmp_line-printed.new.writer in
    rw (c.line-1.given.1.1 (sym (told.same_loan ∙ made.same_out)), c.without_end.ensures, c.written.ensures, c.requires.lent)
    (record {
      text = line_stands c.args.json Igmp [] c.args.body.now c.new-room.result room c.igmp_line-printed.result made.written made.full
          told.failed told.line;
    })
