use Rattle.mq_c.proofs.Common.{◌∙◌, sym, ap, drop, take, arith, drop-drop, take-append-drop, common_steps}
use Rattle.mq_c.proofs.line_room.LineRoomOutput.print.Goals as goal

pub invariant_of-self-clause-behind : goal.invariant_of-self-clause-behind
invariant_of-self-clause-behind g c =
    let at = c.args.self.now.written in
    let count = c.min-count.result in
    sym (drop-drop count at c.args.self.now.out.now) ∙ ap (drop count) c.args.self.now.behind ∙ drop-drop count at g.L.Lent.before

pub returns-then-count-text-clause-text : goal.returns-then-count-text-clause-text
returns-then-count-text-clause-text g c =
    let count = c.min-count.result in
    record {
      written = take count c.args.text.now;
      left = drop count c.args.text.now;
      parts = sym (take-append-drop count c.args.text.now);
      some_left = grind (arith, common_steps);
      grows = grind (arith, common_steps, c.overwrite.ensures);
    }
