use Rattle.mq_link.proofs.Common.{◌≡◌, cond, vec_len, sym, ap, ◌∙◌, arith, eqb-true, nil_from_length, set_of, ScheduledGroup, settled, after_change}
use Rattle.mq_link.proofs.Common.{group_asked, sources_asked, Scratch}
use Rattle.mq_link.proofs.RefreshedGroups.{unasked}
use Rattle.mq_link.proofs.storage.Scratch.ask.Goals as goal
use Rattle.mq_link.proofs.storage.Scratch.ask.Goals.{then-asks_group, else-asks_group}

-- the sources to ask for are none
pub returns-else-not-is_empty-clause-asked : goal.returns-else-not-is_empty-clause-asked
returns-else-not-is_empty-clause-asked g c =
    let timing = c.args.at.now.timing in
    let now = c.args.at.now.moment in
    let items = c.args.self.now.asked.items in
    let zero = eqb-true (vec_len c.if-asks_group.self.asked) 0 (sym c.is_empty.ensures ∙ c.if-not-is_empty.false) in
    let kept : vec_len c.if-asks_group.self.asked ≡ vec_len c.args.self.now.asked = elim c.if-asks_group.branch [
      | then-asks_group w ↦ ap (λ (s : Scratch _ _). vec_len s.asked) w.self-is
      | else-asks_group w ↦ ap (λ (s : Scratch _ _). vec_len s.asked) w.self-is
    ] in
    let none = nil_from_length items (omega (arith, zero, kept, c.args.self.now.asked.ok.0)) in
    let before : ScheduledGroup = record { group = c.args.self.now.group.state; schedule = settled c.args.self.now.group.state c.args.schedule.now } in
    let e : ScheduledGroup = record { group = c.if-asks_group.self.group.state; schedule = c.if-asks_group.schedule } in
    let e_is : e ≡ cond c.args.asks_group (group_asked timing now before) before = elim c.if-asks_group.branch [
      | then-asks_group w ↦
          (λ i. let e : ScheduledGroup = record { group = (w.self-is i).group.state; schedule = w.schedule-is i } in e)
          ∙ w.start_group.ensures.asked
          ∙ (λ i. group_asked timing now (record { group = c.args.self.now.group.state; schedule = c.settle.ensures i }))
          ∙ (λ i. cond (sym w.if-asks_group.true i) (group_asked timing now before) before)
      | else-asks_group w ↦
          (λ i. let e : ScheduledGroup = record { group = (w.self-is i).group.state; schedule = (w.schedule-is ∙ c.settle.ensures) i } in e)
          ∙ (λ i. cond (sym w.if-asks_group.false i) (group_asked timing now before) before)
    ] in
    sym (unasked timing now e)
    ∙ (λ i. sources_asked timing now (set_of g.K.Key.number (sym none i)) (e_is i))
    ∙ (λ i. after_change (sym c.if-not-at.false i) timing now
    (record { group = c.args.self.now.group.state; query = set_of g.K.Key.number items; query_group = c.args.asks_group }) c.args.schedule.now)
