use Rattle.mq_link.proofs.Common.{◌≡◌, ◌+◌, ◌-◌, cond, not, refl, sym, ap, ◌∙◌, arith, vacant, is_vacant, ScheduleState, ScheduledGroup, after_round, HeldState}
use Rattle.mq_link.proofs.Common.{Storage, limit_passed_by}
use Rattle.std.specs.FinMap as map
use Rattle.mq_held.specs.Groups.{schedules_of, one_if, schedules_in, sources_in}
use Rattle.mq_link.proofs.WithGroup.{enough_groups, enough_sources, enough_schedules, judged_by, as_number, any_timing}
use Rattle.mq_link.proofs.storage.Storage.refusal.Goals as goal
use Rattle.mq_link.proofs.storage.Storage.refusal.Goals.{then-is_vacant, else-is_vacant}

-- as many schedules as there are of this schedule
same_schedules : (had schedule : ScheduleState) → had ≡ schedule →
    (let stated : ScheduledGroup = record { group = vacant; schedule = had } in schedules_of stated)
    ≡ (let stated : ScheduledGroup = record { group = vacant; schedule = schedule } in schedules_of stated)
same_schedules had schedule is = ap (λ s. let stated : ScheduledGroup = record { group = vacant; schedule = s } in schedules_of stated) is

pub overflow_sub-groups : goal.overflow_sub-groups
overflow_sub-groups g c =
    let p = c.requires.change in
    let after : ScheduledGroup = record { group = c.args.after.now.state; schedule = c.args.change.now.schedule } in
    let enough = enough_groups c.args.self.now.held.groups p.0 any_timing c.args.now _ after c.args.change.now.is_held p.1.is_held refl in
    let had = c.from-2.ensures ∙ as_number c.args.change.now.is_held in
    let has = c.from.ensures ∙ as_number (not c.is_vacant-is_vacant.result) ∙ ap (λ b. one_if (not b)) c.is_vacant-is_vacant.ensures in
    let held : c.if-is_vacant.self.held ≡ c.args.self.now.held = elim c.if-is_vacant.branch [
      | then-is_vacant w ↦ ap (λ (s : Storage _ _). s.held) w.self-is
      | else-is_vacant w ↦ ap (λ (s : Storage _ _). s.held) w.self-is
    ] in
    omega (arith, enough, had, has, c.len.ensures, ap (λ (h : HeldState). map.len h.groups) held)

pub overflow_sub-sources : goal.overflow_sub-sources
overflow_sub-sources g c =
    let p = c.requires.change in
    let after : ScheduledGroup = record { group = c.args.after.now.state; schedule = c.args.change.now.schedule } in
    let enough = enough_sources c.args.self.now.held.groups p.0 any_timing c.args.now _ after c.args.change.now.is_held p.1.is_held refl in
    let had = p.1.sources in
    let held : c.if-is_vacant.self.held ≡ c.args.self.now.held = elim c.if-is_vacant.branch [
      | then-is_vacant w ↦ ap (λ (s : Storage _ _). s.held) w.self-is
      | else-is_vacant w ↦ ap (λ (s : Storage _ _). s.held) w.self-is
    ] in
    omega (arith, enough, had, c.sources.ensures, c.sources-2.ensures.len, ap (λ (h : HeldState). sources_in h.groups) held)

pub overflow_sub-scheduled : goal.overflow_sub-scheduled
overflow_sub-scheduled g c =
    let p = c.requires.change in
    let after : ScheduledGroup = record { group = c.args.after.now.state; schedule = c.args.change.now.schedule } in
    let enough = enough_schedules c.args.self.now.held.groups p.0 any_timing c.args.now _ after c.args.change.now.is_held p.1.is_held refl in
    let left : c.if-is_vacant.left ≡ cond (is_vacant after.group) 0 (schedules_of (after_round any_timing c.args.now after)) = elim c.if-is_vacant.branch [
      | then-is_vacant w ↦ w.left-is ∙ ap (λ b. cond b 0 (schedules_of (after_round any_timing c.args.now after)))
          (sym w.if-is_vacant.true ∙ c.is_vacant-is_vacant.ensures)
      | else-is_vacant w ↦ w.left-is ∙ w.schedules_after_round-left.ensures.left any_timing ∙
          ap (λ b. cond b 0 (schedules_of (after_round any_timing c.args.now after))) (sym w.if-is_vacant.false ∙ c.is_vacant-is_vacant.ensures)
    ] in
    let had = same_schedules _ _ p.1.schedule in
    let held : c.if-is_vacant.self.held ≡ c.args.self.now.held = elim c.if-is_vacant.branch [
      | then-is_vacant w ↦ ap (λ (s : Storage _ _). s.held) w.self-is
      | else-is_vacant w ↦ ap (λ (s : Storage _ _). s.held) w.self-is
    ] in
    omega (arith, enough, had, left, c.schedules.ensures, c.count_schedules.ensures, ap (λ (h : HeldState). schedules_in h.groups) held)

pub returns-clause-name : goal.returns-clause-name
returns-clause-name g c timing address is =
    let after : ScheduledGroup = record { group = c.args.after.now.state; schedule = c.args.change.now.schedule } in
    let had = c.from-2.ensures ∙ as_number c.args.change.now.is_held in
    let has = c.from.ensures ∙ as_number (not c.is_vacant-is_vacant.result) ∙ ap (λ b. one_if (not b)) c.is_vacant-is_vacant.ensures in
    let left : c.if-is_vacant.left ≡ cond (is_vacant after.group) 0 (schedules_of (after_round timing c.args.now after)) = elim c.if-is_vacant.branch [
      | then-is_vacant w ↦ w.left-is ∙ ap (λ b. cond b 0 (schedules_of (after_round timing c.args.now after)))
          (sym w.if-is_vacant.true ∙ c.is_vacant-is_vacant.ensures)
      | else-is_vacant w ↦ w.left-is ∙ w.schedules_after_round-left.ensures.left timing ∙
          ap (λ b. cond b 0 (schedules_of (after_round timing c.args.now after))) (sym w.if-is_vacant.false ∙ c.is_vacant-is_vacant.ensures)
    ] in
    let held : c.if-is_vacant.self.held ≡ c.args.self.now.held = elim c.if-is_vacant.branch [
      | then-is_vacant w ↦ ap (λ (s : Storage _ _). s.held) w.self-is
      | else-is_vacant w ↦ ap (λ (s : Storage _ _). s.held) w.self-is
    ] in
    let len = c.len.ensures ∙ ap (λ (h : HeldState). map.len h.groups) held in
    let sources = c.sources.ensures ∙ ap (λ (h : HeldState). sources_in h.groups) held in
    let schedules = c.schedules.ensures ∙ ap (λ (h : HeldState). schedules_in h.groups) held in
    c.limit_passed.ensures
    ∙ (λ i. limit_passed_by c.args.limits.now (len i + has i - had i) (c.sources-3.ensures.len i)
    (sources i + c.sources-2.ensures.len i - sym is.sources i) (schedules i + left i - (c.count_schedules.ensures ∙ sym (same_schedules _ _ is.schedule)) i))
    ∙ judged_by c.args.self.now.held.groups address timing c.args.now _ after c.args.change.now.is_held is.is_held refl c.args.limits.now
