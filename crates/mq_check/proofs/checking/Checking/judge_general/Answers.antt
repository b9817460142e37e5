use Rattle.mq_check.proofs.Common.{ℕ, ◌-◌, ap, ◌∙◌, Some, AllGroups, Seen, wrong_interval, phase_behind, numbered_terms, with_entry}
use Rattle.mq_check.{specs.declared.entry.SeenVerdict.SeenVerdict, proofs.Entering.general_put}
use Rattle.mq_check.proofs.checking.Checking.judge_general.Goals as goal

pub returns : goal.returns
returns g c =
    let terms = numbered_terms g.F.Address.Key.number c.args.terms in
    let wanted = numbered_terms g.F.Address.Key.number c.args.wanted in
    let passed = c.wrong_interval-passed.ensures ∙ ap (λ (m : ℕ). wrong_interval c.args.within c.args.configured m c.self.inside.phase) c.ms.ensures in
    let behind = c.behind-self-inside.ensures ∙ ap (λ (m : ℕ). phase_behind c.args.within c.args.configured m c.self.inside.phase) c.ms-2.ensures in
    let from = c.near-from.ensures ∙ ap (λ (m : ℕ). m - c.self.inside.schedules.repeats.within) c.moment.ensures.same in
    let puts = c.put.ensures ∙
    ap (λ (v : SeenVerdict ℕ). with_entry (Seen c.moment-2.result AllGroups terms (Some wanted) v) c.join.new.self) c.as_wanted.ensures in
    general_put _ _ _ _ _ _ _ _ _ _ _ _ _ _ c.self.view_is c.moment-2.ensures.same from passed c.put_interval.ensures behind c.join.ensures.joined puts
