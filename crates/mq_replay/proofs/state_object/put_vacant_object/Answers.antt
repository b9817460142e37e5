use Rattle.mq_replay.proofs.Common.{ℕ, List, [], ◌++◌, None, true, codes, append_assoc, ap, sym, ◌∙◌, arith, Include, SourceTimer, items_from, state_end}
use Rattle.mq_replay.proofs.Common.{state_start, timer_item}
use Rattle.mq_replay.proofs.ReplayTexts.{timers-entries}
use Rattle.mq_replay.proofs.state_object.put_vacant_object.Goals as goal

pub returns : goal.returns
returns g c =
    let held = c.args.buffer.now.items in
    let family = g.K.LineKey.family in
    let start = state_start family c.args.moment (codes "change") (g.K.Key.number c.args.address) Include in
    let none = timers-entries {K = ℕ} (λ n. n) [] (λ i j d before in_list. absurd (omega arith)) in
    rw (c.put_state_end.ensures, c.put_state_start.ensures.text) (append_assoc held start (state_end None None)
    ∙ ap (λ (es : List (ℕ × SourceTimer)). held ++ (start ++ (items_from (timer_item family) true es ++ state_end None None))) (sym none))
