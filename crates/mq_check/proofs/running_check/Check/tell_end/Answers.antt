use Rattle.mq_check.proofs.Common.{ℕ, ap, ◌∙◌, flat_map, err_from_is_err_and, Timing, Configuration, found_of_last, told_at_end, counted_behind, reported_by}
use Rattle.mq_check.{specs.Checking.silence_found, proofs.Tellings.tells_as, proofs.Tellings.then_told}
use Rattle.mq_check.proofs.EndedChecks.{all_broken, end_broken, end_passed, end_unpassed, totals_counted}
use Rattle.mq_check.proofs.running_check.Check.tell_end.Goals as goal

pub returns-in_err-tell_rest-clause-text : goal.returns-in_err-tell_rest-clause-text
returns-in_err-tell_rest-clause-text g c =
    let ends = ap (λ (m : ℕ). flat_map (found_of_last c.args.self.now.terms.within m c.args.self.now.queries.checking.changed
    c.args.self.now.queries.checking.refused) c.args.self.now.queries.checking.waiting.entries) c.moment.ensures.same in
    let p = err_from_is_err_and c.from_residual.result c.from_residual.ensures.1 in
    let found = told_at_end c.args.self.now.terms.within c.args.self.now.link.config.timing c.args.end c.args.passed c.args.self.now.queries.checking in
    let totals = counted_behind c.args.self.now.told.count c.args.self.now.queries.checking c.args.rests_on (reported_by c.args.self.now.told found) in
    rw p.1 (end_broken _ _ _ _ _ _ _ _ totals (tells_as _ _ _ _ _ _ _ _ ends c.in_err-tell_rest.ensures.tells))

pub returns-in_err-tell_silence-clause-text : goal.returns-in_err-tell_silence-clause-text
returns-in_err-tell_silence-clause-text g c =
    let ends = ap (λ (m : ℕ). flat_map (found_of_last c.args.self.now.terms.within m c.args.self.now.queries.checking.changed
    c.args.self.now.queries.checking.refused) c.args.self.now.queries.checking.waiting.entries) c.moment.ensures.same in
    let p = err_from_is_err_and c.from_residual-in_err-tell_silence.result c.from_residual-in_err-tell_silence.ensures.1 in
    let timing = c.timing-configured.ensures ∙ ap (λ (k : Configuration). k.timing) c.config.ensures in
    let silence = ap (λ (t : Timing). silence_found t c.args.end c.args.passed) timing in
    let found = told_at_end c.args.self.now.terms.within c.args.self.now.link.config.timing c.args.end c.args.passed c.args.self.now.queries.checking in
    let totals = counted_behind c.args.self.now.told.count c.args.self.now.queries.checking c.args.rests_on (reported_by c.args.self.now.told found) in
    rw p.1 (all_broken _ _ _ _ _ _ _ totals (then_told _ _ _ _ _ _ _ _ _ _ _ (tells_as _ _ _ _ _ _ _ _ ends c.in_ok-tell_rest.ensures.tells)
    (tells_as _ _ _ _ _ _ _ _ silence c.in_err-tell_silence.ensures)))

pub returns-in_err-tell_last-clause-text : goal.returns-in_err-tell_last-clause-text
returns-in_err-tell_last-clause-text g c =
    let ends = ap (λ (m : ℕ). flat_map (found_of_last c.args.self.now.terms.within m c.args.self.now.queries.checking.changed
    c.args.self.now.queries.checking.refused) c.args.self.now.queries.checking.waiting.entries) c.moment.ensures.same in
    let p = err_from_is_err_and c.from_residual-in_err-tell_last.result c.from_residual-in_err-tell_last.ensures.1 in
    let timing = c.timing-configured.ensures ∙ ap (λ (k : Configuration). k.timing) c.config.ensures in
    let silence = ap (λ (t : Timing). silence_found t c.args.end c.args.passed) timing in
    let told = then_told _ _ _ _ _ _ _ _ _ _ _ (tells_as _ _ _ _ _ _ _ _ ends c.in_ok-tell_rest.ensures.tells)
    (tells_as _ _ _ _ _ _ _ _ silence c.in_ok-tell_silence.ensures) in
    let found = told_at_end c.args.self.now.terms.within c.args.self.now.link.config.timing c.args.end c.args.passed c.args.self.now.queries.checking in
    let totals = totals_counted _ _ _ c.args.self.now.told.count _ _ c.args.self.now.queries.checking c.args.rests_on
    (reported_by c.args.self.now.told found) c.checking.ensures c.checking-2.ensures c.general-general_queries.ensures
    c.specific-other_queries.ensures (c.count-counts.ensures ∙ told.count) in
    rw p.1 (end_unpassed g.F.Address.LineKey.family found c.args.self.now.told _ _ _ _ _ _ _ told totals c.in_err-tell_last.ensures.text)

pub returns-clause-text : goal.returns-clause-text
returns-clause-text g c =
    let ends = ap (λ (m : ℕ). flat_map (found_of_last c.args.self.now.terms.within m c.args.self.now.queries.checking.changed
    c.args.self.now.queries.checking.refused) c.args.self.now.queries.checking.waiting.entries) c.moment.ensures.same in
    let timing = c.timing-configured.ensures ∙ ap (λ (k : Configuration). k.timing) c.config.ensures in
    let silence = ap (λ (t : Timing). silence_found t c.args.end c.args.passed) timing in
    let told = then_told _ _ _ _ _ _ _ _ _ _ _ (tells_as _ _ _ _ _ _ _ _ ends c.in_ok-tell_rest.ensures.tells)
    (tells_as _ _ _ _ _ _ _ _ silence c.in_ok-tell_silence.ensures) in
    let found = told_at_end c.args.self.now.terms.within c.args.self.now.link.config.timing c.args.end c.args.passed c.args.self.now.queries.checking in
    let totals = totals_counted _ _ _ c.args.self.now.told.count _ _ c.args.self.now.queries.checking c.args.rests_on
    (reported_by c.args.self.now.told found) c.checking.ensures c.checking-2.ensures c.general-general_queries.ensures
    c.specific-other_queries.ensures (c.count-counts.ensures ∙ told.count) in
    end_passed g.F.Address.LineKey.family found c.args.self.now.told _ _ _ _ _ _ _ _ told totals c.in_ok-tell_last.ensures.text

pub returns-clause-totals : goal.returns-clause-totals
returns-clause-totals g c =
    let ends = ap (λ (m : ℕ). flat_map (found_of_last c.args.self.now.terms.within m c.args.self.now.queries.checking.changed
    c.args.self.now.queries.checking.refused) c.args.self.now.queries.checking.waiting.entries) c.moment.ensures.same in
    let timing = c.timing-configured.ensures ∙ ap (λ (k : Configuration). k.timing) c.config.ensures in
    let silence = ap (λ (t : Timing). silence_found t c.args.end c.args.passed) timing in
    let told = then_told _ _ _ _ _ _ _ _ _ _ _ (tells_as _ _ _ _ _ _ _ _ ends c.in_ok-tell_rest.ensures.tells)
    (tells_as _ _ _ _ _ _ _ _ silence c.in_ok-tell_silence.ensures) in
    let found = told_at_end c.args.self.now.terms.within c.args.self.now.link.config.timing c.args.end c.args.passed c.args.self.now.queries.checking in
    totals_counted _ _ _ c.args.self.now.told.count _ _ c.args.self.now.queries.checking c.args.rests_on
    (reported_by c.args.self.now.told found) c.checking.ensures c.checking-2.ensures c.general-general_queries.ensures
    c.specific-other_queries.ensures (c.count-counts.ensures ∙ told.count)
