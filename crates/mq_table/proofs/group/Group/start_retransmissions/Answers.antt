use Rattle.mq_table.proofs.Common.{◌≡◌, cond, ◌+◌, ◌&&◌, ◌∙◌, ap, sym, refl, list_any, set_of, IsAscending-map, is_ahead, deadline_of, lowered_to}
use Rattle.mq_table.proofs.Common.{source_if_asked, is_asked_above, number_in}
use Rattle.mq_table.{specs.Retransmissions.source_asked, proofs.SourceLists.len-timers_in, proofs.Rows.held_in_row, proofs.Rows.any_in_row}
use Rattle.mq_table.proofs.Rows.{replaced_state}
use Rattle.mq_table.proofs.group.Group.start_retransmissions.Goals as goal

pub ask_among-requires-clause-held : goal.ask_among-requires-clause-held
ask_among-requires-clause-held g c s asked =
    held_in_row g.K.Key.number c.self.inside.sources.items s (rw (← c.self.view_is) at (c.requires.held s asked))

pub invariant_of-self : goal.invariant_of-self
invariant_of-self g c =
    let made = source_if_asked g.K.Key.number c.after-limit.result c.last_member_count.result (set_of g.K.Key.number c.args.asked.now) in
    rw c.ask_among.ensures.items (IsAscending-map (number_in g.K.Key.number) made c.self.inside.sources.items c.self.invariant)

pub returns-clause-state : goal.returns-clause-state
returns-clause-state g c =
    let limit : c.after-limit.result ≡ lowered_to c.args.timing.now c.args.now = c.after-limit.ensures.later ∙
    ap (λ n. c.args.now + n) c.last_member_time.ensures in
    let asked = set_of g.K.Key.number c.args.asked.now in
    let after = replaced_state g.K.Key.number (λ s timer. cond (asked s) (source_asked c.after-limit.result c.last_member_count.result timer) timer)
    (source_if_asked g.K.Key.number c.after-limit.result c.last_member_count.result asked) (λ x. refl)
    c.self.inside.mode c.self.inside.v1 c.self.inside.v2 c.self.inside.sources.items c.ask_among.new.sources.items c.args.self.now.state
    (ap (λ s. s.state) c.self.view_is) c.ask_among.ensures.items in
    rw (← limit, ← c.last_member_count.ensures) after

pub returns-clause-some : goal.returns-clause-some
returns-clause-some g c =
    let limit : c.after-limit.result ≡ lowered_to c.args.timing.now c.args.now = c.after-limit.ensures.later ∙
    ap (λ n. c.args.now + n) c.last_member_time.ensures in
    let asked = set_of g.K.Key.number c.args.asked.now in
    rw (← c.self.view_is)
    (c.ask_among.ensures.some
    ∙ ap (λ n. list_any (is_asked_above g.K.Key.number n asked) c.self.inside.sources.items) limit
    ∙ sym (any_in_row g.K.Key.number (λ s timer. asked s && is_ahead (lowered_to c.args.timing.now c.args.now) (deadline_of timer))
    c.self.inside.sources.items c.self.invariant))

pub returns-clause-spent : goal.returns-clause-spent
returns-clause-spent g c =
    rw (← c.self.view_is, len-timers_in g.K.Key.number c.self.inside.sources.items c.self.invariant) c.ask_among.ensures.spent
