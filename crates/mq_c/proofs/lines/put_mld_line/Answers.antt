use Rattle.mq_c.proofs.Common.{length, sym, ◌∙◌, Mld, pseudo_header}
use Rattle.mq_c.proofs.LentLines.{line_stands}
use Rattle.mq_c.proofs.lines.put_mld_line.Goals as goal

pub returns : goal.returns
returns g c =
    let made = c.new-room.ensures in
    let told = c.mld_line-printed.ensures in
    let room = c.mld_line-printed.new.writer in
    rw (c.line-1.given.1.1 (sym (told.same_loan ∙ made.same_out)), c.without_end.ensures, c.written.ensures, c.requires.lent)
    (record {
      text = line_stands c.args.json Mld (pseudo_header c.args.source c.args.destination (length c.args.body.now)) c.args.body.now c.new-room.result room
          c.mld_line-printed.result made.written made.full told.failed told.line;
    })
