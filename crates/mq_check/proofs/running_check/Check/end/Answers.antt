use Rattle.mq_check.proofs.Common.{◌≡◌, ap, sym, ◌∙◌, err_from_is_err_and, Configuration, output_of, looked_ahead, CheckingValue, told_at_end, checked_in}
use Rattle.mq_check.proofs.Common.{silence_up_to}
use Rattle.mq_link.specs.Counters.{Counters}
use Rattle.mq_check.specs.Refused.{is_crowded}
use Rattle.mq_check.proofs.EndedChecks.{broken_ahead, broken_to_end, full_at_end, put_at_end, rests_on_end, unput_at_end}
use Rattle.mq_check.proofs.running_check.Check.end.Goals as goal

pub returns-in_err-purge_through-clause-rest : goal.returns-in_err-purge_through-clause-rest
returns-in_err-purge_through-clause-rest g c =
    let p = err_from_is_err_and c.from_residual.result c.from_residual.ensures.1 in
    let family = g.met.F.CapturedFamily.same_family ∙ sym c.is_faultless.ensures.family ∙ ap (λ (k : Configuration). k.family) c.config.ensures in
    rw (p.1, p.2) (broken_to_end c.args.self.now.link.config c.args.self.now.terms.within c.args.end c.args.number
    (checked_in c.args.self.now.link c.args.self.now.queries) g.F.Address.LineKey.family c.args.self.now.told c.purge_through.new.self.told
    (output_of g.W.Write.contents c.args.writer.now)
    (output_of g.W.Write.contents c.purge_through.new.writer) _ family c.in_err-purge_through.ensures.comes.tells)

pub returns-in_err-look_ahead-clause-rest : goal.returns-in_err-look_ahead-clause-rest
returns-in_err-look_ahead-clause-rest g c =
    let p = err_from_is_err_and c.from_residual-in_err-look_ahead.result c.from_residual-in_err-look_ahead.ensures.1 in
    let family = g.met.F.CapturedFamily.same_family ∙ sym c.is_faultless.ensures.family ∙ ap (λ (k : Configuration). k.family) c.config.ensures in
    let before = c.in_ok-purge_through.ensures in
    let at = checked_in c.purge_through.new.self.link c.purge_through.new.self.queries in
    let ahead : looked_ahead c.purge_through.new.self.link.config c.purge_through.new.self.terms.within c.args.end at
    ≡ looked_ahead c.args.self.now.link.config c.args.self.now.terms.within c.args.end at =
    λ i. looked_ahead (before.comes.same_config i) (before.terms i).within c.args.end at in
    rw (p.1, p.2) (broken_ahead c.args.self.now.link.config c.args.self.now.terms.within c.args.end c.args.number
    (checked_in c.args.self.now.link c.args.self.now.queries) at _ g.F.Address.LineKey.family c.args.self.now.told c.purge_through.new.self.told
    c.look_ahead.new.self.told (output_of g.W.Write.contents c.args.writer.now) (output_of g.W.Write.contents c.purge_through.new.writer)
    (output_of g.W.Write.contents c.look_ahead.new.writer) _ _ family before.comes.checked ahead before.comes.tells c.in_err-look_ahead.ensures.comes.tells)

pub returns-then-is_full-clause-rest : goal.returns-then-is_full-clause-rest
returns-then-is_full-clause-rest g c =
    let family = g.met.F.CapturedFamily.same_family ∙ sym c.is_faultless.ensures.family ∙ ap (λ (k : Configuration). k.family) c.config.ensures in
    let before = c.in_ok-purge_through.ensures in
    let at = checked_in c.purge_through.new.self.link c.purge_through.new.self.queries in
    let ahead : looked_ahead c.purge_through.new.self.link.config c.purge_through.new.self.terms.within c.args.end at
    ≡ looked_ahead c.args.self.now.link.config c.args.self.now.terms.within c.args.end at =
    λ i. looked_ahead (before.comes.same_config i) (before.terms i).within c.args.end at in
    let state = c.is_full.ensures ∙ ap (λ (s : CheckingValue). s.waiting.is_full) c.checking-3.ensures in
    full_at_end c.args.self.now.link.config c.args.self.now.terms.within c.args.end c.args.number
    (checked_in c.args.self.now.link c.args.self.now.queries) at (checked_in c.look_ahead.new.self.link c.look_ahead.new.self.queries) _
    g.F.Address.LineKey.family c.args.self.now.told c.purge_through.new.self.told c.look_ahead.new.self.told
    (output_of g.W.Write.contents c.args.writer.now) (output_of g.W.Write.contents c.purge_through.new.writer)
    (output_of g.W.Write.contents c.look_ahead.new.writer) family before.comes.checked ahead c.in_ok-look_ahead.ensures.comes.checked
    (sym state ∙ c.if-is_full.true) before.comes.tells c.in_ok-look_ahead.ensures.comes.tells

pub returns-in_err-totals-clause-rest : goal.returns-in_err-totals-clause-rest
returns-in_err-totals-clause-rest g c =
    let p = err_from_is_err_and c.from_residual-in_err-totals.result c.from_residual-in_err-totals.ensures.1 in
    let family = g.met.F.CapturedFamily.same_family ∙ sym c.is_faultless.ensures.family ∙ ap (λ (k : Configuration). k.family) c.config.ensures in
    let before = c.in_ok-purge_through.ensures in
    let after = c.in_ok-look_ahead.ensures in
    let at = checked_in c.purge_through.new.self.link c.purge_through.new.self.queries in
    let ahead : looked_ahead c.purge_through.new.self.link.config c.purge_through.new.self.terms.within c.args.end at
    ≡ looked_ahead c.args.self.now.link.config c.args.self.now.terms.within c.args.end at =
    λ i. looked_ahead (before.comes.same_config i) (before.terms i).within c.args.end at in
    let state = c.is_full.ensures ∙ ap (λ (s : CheckingValue). s.waiting.is_full) c.checking-3.ensures in
    let timing = c.timing-configured.ensures ∙ ap (λ (k : Configuration). k.timing) c.config-2.ensures in
    let passed = c.silence-passed.ensures ∙ (λ i. silence_up_to (before.terms i).within (timing i) c.args.end (c.checking.ensures i).phase) in
    let rests = rests_on_end _ _ _ _ _ _ _ c.with_refused-rests_on.ensures c.basis.ensures
    (c.refused-refused.ensures ∙ ap (λ (n : Counters). n.refused) c.counts.ensures)
    (c.is_crowded-is_crowded.ensures ∙ ap (λ (s : CheckingValue). is_crowded s.refused) c.checking-2.ensures) in
    let silence = silence_up_to c.args.self.now.terms.within c.args.self.now.link.config.timing c.args.end c.purge_through.new.self.queries.checking.phase in
    let last : told_at_end c.look_ahead.new.self.terms.within c.look_ahead.new.self.link.config.timing c.args.end c.silence-passed.result
    c.look_ahead.new.self.queries.checking
    ≡ told_at_end c.args.self.now.terms.within c.args.self.now.link.config.timing c.args.end silence c.look_ahead.new.self.queries.checking =
    λ i. told_at_end ((after.terms ∙ before.terms) i).within ((after.comes.same_config ∙ before.comes.same_config) i).timing c.args.end
    (passed i) c.look_ahead.new.self.queries.checking in
    rw (p.1, p.2) (unput_at_end c.args.self.now.link.config c.args.self.now.terms.within c.args.end c.args.number
    (checked_in c.args.self.now.link c.args.self.now.queries) at (checked_in c.look_ahead.new.self.link c.look_ahead.new.self.queries) _ _ _
    g.F.Address.LineKey.family c.args.self.now.told c.purge_through.new.self.told c.look_ahead.new.self.told
    (output_of g.W.Write.contents c.args.writer.now) (output_of g.W.Write.contents c.purge_through.new.writer)
    (output_of g.W.Write.contents c.look_ahead.new.writer) (output_of g.W.Write.contents c.tell_end.new.writer) family before.comes.checked ahead
    after.comes.checked rests last (sym state ∙ c.if-is_full.false) before.comes.tells after.comes.tells c.in_err-totals.ensures.text)

pub returns-clause-rest : goal.returns-clause-rest
returns-clause-rest g c =
    let family = g.met.F.CapturedFamily.same_family ∙ sym c.is_faultless.ensures.family ∙ ap (λ (k : Configuration). k.family) c.config.ensures in
    let before = c.in_ok-purge_through.ensures in
    let after = c.in_ok-look_ahead.ensures in
    let at = checked_in c.purge_through.new.self.link c.purge_through.new.self.queries in
    let ahead : looked_ahead c.purge_through.new.self.link.config c.purge_through.new.self.terms.within c.args.end at
    ≡ looked_ahead c.args.self.now.link.config c.args.self.now.terms.within c.args.end at =
    λ i. looked_ahead (before.comes.same_config i) (before.terms i).within c.args.end at in
    let state = c.is_full.ensures ∙ ap (λ (s : CheckingValue). s.waiting.is_full) c.checking-3.ensures in
    let timing = c.timing-configured.ensures ∙ ap (λ (k : Configuration). k.timing) c.config-2.ensures in
    let passed = c.silence-passed.ensures ∙ (λ i. silence_up_to (before.terms i).within (timing i) c.args.end (c.checking.ensures i).phase) in
    let rests = rests_on_end _ _ _ _ _ _ _ c.with_refused-rests_on.ensures c.basis.ensures
    (c.refused-refused.ensures ∙ ap (λ (n : Counters). n.refused) c.counts.ensures)
    (c.is_crowded-is_crowded.ensures ∙ ap (λ (s : CheckingValue). is_crowded s.refused) c.checking-2.ensures) in
    let silence = silence_up_to c.args.self.now.terms.within c.args.self.now.link.config.timing c.args.end c.purge_through.new.self.queries.checking.phase in
    let last : told_at_end c.look_ahead.new.self.terms.within c.look_ahead.new.self.link.config.timing c.args.end c.silence-passed.result
    c.look_ahead.new.self.queries.checking
    ≡ told_at_end c.args.self.now.terms.within c.args.self.now.link.config.timing c.args.end silence c.look_ahead.new.self.queries.checking =
    λ i. told_at_end ((after.terms ∙ before.terms) i).within ((after.comes.same_config ∙ before.comes.same_config) i).timing c.args.end
    (passed i) c.look_ahead.new.self.queries.checking in
    put_at_end c.args.self.now.link.config c.args.self.now.terms.within c.args.end c.args.number
    (checked_in c.args.self.now.link c.args.self.now.queries) at (checked_in c.look_ahead.new.self.link c.look_ahead.new.self.queries) _ _ _
    g.F.Address.LineKey.family c.args.self.now.told c.purge_through.new.self.told c.look_ahead.new.self.told c.tell_end.new.self.told
    (output_of g.W.Write.contents c.args.writer.now) (output_of g.W.Write.contents c.purge_through.new.writer)
    (output_of g.W.Write.contents c.look_ahead.new.writer) (output_of g.W.Write.contents c.tell_end.new.writer) c.in_ok-totals.totals family
    before.comes.checked ahead after.comes.checked rests last (sym state ∙ c.if-is_full.false) before.comes.tells after.comes.tells
    c.in_ok-totals.ensures.totals c.in_ok-totals.ensures.text
