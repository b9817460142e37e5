use Rattle.mq_link.proofs.Common.{◌≡◌, ◌||◌, is_some, ltb, sym, ap, ◌∙◌, arith, true≢false, is_due_at, ScheduledGroup, timers_in, QuerierContext}
use Rattle.mq_link.proofs.Common.{has_older_hosts, Configuration, schedules_in, common_steps}
use Rattle.mq_link.proofs.status.Status.number_blocked.Goals as goal
use Rattle.mq_link.proofs.status.Status.number_blocked.Goals.{then-is_due-via-then-is_due, then-is_due-via-else-is_due+then-has_older_hosts, then-is_some}
use Rattle.mq_link.proofs.status.Status.number_blocked.Goals.{else-is_some}

pub returns-then-is_due-clause-done : goal.returns-then-is_due-clause-done
returns-then-is_due-clause-done g c ok can =
    let number = g.F.Address.Key.number in
    let a = number c.args.lookup.address in
    let has = rw c.in-Ok.is at c.requires.lookup in
    let moment = ap (λ (f : QuerierContext). f.moment) c.in_force-at.ensures.in_force in
    let entry = c.entry_of-stored.ensures.group a has in
    elim c.then-is_due.branch [
      | then-is_due-via-then-is_due w ↦
          absurd (true≢false (sym (sym c.is_due.ensures.due ∙ w.if-is_due.true) ∙ (λ i. is_due_at (moment i) (entry i).schedule) ∙ can.quiet))
      | then-is_due-via-else-is_due+then-has_older_hosts w ↦
          absurd (true≢false (sym (sym (w.has_older_hosts.ensures.hosts (timers_in number c.entry_of-stored.result.sources.now)) ∙
          w.if-has_older_hosts.true) ∙ (λ i. has_older_hosts (entry i) (moment i)) ∙ can.unmuted))
    ]

pub returns-then-schedules-limits-clause-can : goal.returns-then-schedules-limits-clause-can
returns-then-schedules-limits-clause-can g c =
    let number = g.F.Address.Key.number in
    let a = number c.args.lookup.address in
    let has = rw c.in-Ok.is at c.requires.lookup in
    let moment = ap (λ (f : QuerierContext). f.moment) c.in_force-at.ensures.in_force in
    let entry = c.entry_of-stored.ensures.group a has in
    let limits : c.limits-limits.result ≡ c.args.self.now.config.limits = c.limits-limits.ensures ∙ ap (λ (k : Configuration). k.limits) c.config.ensures in
    let due = ap is_some c.sources_due.ensures ∙ ap (λ (e : ScheduledGroup). is_some e.schedule.sources_due) entry in
    record {
      held = c.lemma_is_numbered.ensures.of_one a c.in-Ok.number has;
      quiet = (λ i. is_due_at (sym moment i) (sym entry i).schedule) ∙ sym c.is_due.ensures.due ∙ c.if-is_due.false;
      unmuted = (λ i. has_older_hosts (sym entry i) (sym moment i)) ∙
          sym (c.has_older_hosts.ensures.hosts (timers_in number c.entry_of-stored.result.sources.now)) ∙ c.if-has_older_hosts.false;
      few = omega (arith, c.if-named-gt1.false);
      left = elim c.if-is_some.branch [
        | then-is_some w ↦ ap (λ b. b || ltb (schedules_in c.args.storage.now.held.groups) c.args.self.now.config.limits.scheduled)
            (sym due ∙ sym c.is_some.ensures ∙ w.if-is_some.true)
        | else-is_some w ↦
            let none = sym due ∙ sym c.is_some.ensures ∙ w.if-is_some.false in
            let same = sym w.schedules.ensures in
            let limits_are = sym limits in
            (λ i. none i || ltb (same i) (limits_are i).scheduled) ∙ sym w.value-is ∙ c.if-schedules-limits.true
      ];
    }

pub entry_of-stored-requires : goal.entry_of-stored-requires
entry_of-stored-requires g c = grind (arith, common_steps)
