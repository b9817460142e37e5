use Rattle.mq_check.proofs.Common.{ℕ, List, ap, sym, ◌∙◌, fold, list_map, Source, CheckingValue, subject_wanted, numbered_terms}
use Rattle.mq_check.proofs.checking.Checking.want_sources.Goals as goal

pub loop-source-init : goal.loop-source-init
loop-source-init g c =
    let number = g.F.Address.Key.number in
    ap (λ (xs : List ℕ). fold (subject_wanted c.args.moment c.args.is_again (numbered_terms number c.args.terms)) c.args.self.now
    (list_map (Source (number c.args.group)) xs)) (sym c.into_iter-source-iterator.ensures.into_iter_gives)

pub loop-source-preserved : goal.loop-source-preserved
loop-source-preserved g c =
    let number = g.F.Address.Key.number in
    let rest = list_map (Source (number c.args.group)) c.next.new.self in
    c.loop-source.invariant
    ∙ ap (λ (xs : List ℕ). fold (subject_wanted c.args.moment c.args.is_again (numbered_terms number c.args.terms)) c.loop-source.self
    (list_map (Source (number c.args.group)) xs)) c.in-Some.ensures.steps
    ∙ ap (λ (v : CheckingValue). fold (subject_wanted c.args.moment c.args.is_again (numbered_terms number c.args.terms)) v rest) (sym c.want_subject.ensures)
