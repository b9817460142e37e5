-- The findings of pending entries, and then those of queries that were still to come.
use Rattle.mq_check.proofs.Common.{◌≡◌, ap, ◌∙◌, err_from_is_err_and, CheckingValue}
use Rattle.mq_check.{specs.Waiting.told, proofs.Tellings.broken_as, proofs.Tellings.tells_as, proofs.Tellings.then_told, proofs.Tellings.told_broken}
use Rattle.mq_check.proofs.checking.Checking.purge.Goals as goal

pub returns-in_err-purge-clause-tells : goal.returns-in_err-purge-clause-tells
returns-in_err-purge-clause-tells g c =
    let p = err_from_is_err_and c.from_residual.result c.from_residual.ensures.1 in
    let it = c.args.self.now in
    let pending = told it.schedules.repeats.keep c.args.within c.args.now it.changed it.refused it.waiting in
    let later = told it.schedules.repeats.within c.args.within c.args.now it.changed it.refused it.schedules.next in
    let keeps = c.keep.ensures ∙ ap (λ (v : CheckingValue). v.schedules.repeats.keep) c.self.view_is in
    let first : told c.keep.result c.from_ms.result c.args.now c.self.inside.changed c.self.inside.refused c.self.inside.waiting ≡ pending =
    λ i. told (keeps i) (c.from_ms.ensures i) c.args.now (c.self.view_is i).changed (c.self.view_is i).refused (c.self.view_is i).waiting in
    rw p.1 (broken_as _ _ _ _ _ _ _ _ (told_broken _ pending later _ _ _ _ _ (tells_as _ _ _ _ _ _ _ _ first c.in_err-purge.ensures.tells)))

pub returns-clause-tells : goal.returns-clause-tells
returns-clause-tells g c =
    let it = c.args.self.now in
    let pending = told it.schedules.repeats.keep c.args.within c.args.now it.changed it.refused it.waiting in
    let later = told it.schedules.repeats.within c.args.within c.args.now it.changed it.refused it.schedules.next in
    let keeps = c.keep.ensures ∙ ap (λ (v : CheckingValue). v.schedules.repeats.keep) c.self.view_is in
    let first : told c.keep.result c.from_ms.result c.args.now c.self.inside.changed c.self.inside.refused c.self.inside.waiting ≡ pending =
    λ i. told (keeps i) (c.from_ms.ensures i) c.args.now (c.self.view_is i).changed (c.self.view_is i).refused (c.self.view_is i).waiting in
    let second : told c.self.inside.schedules.repeats.within c.from_ms.result c.args.now c.self.inside.changed c.self.inside.refused
    c.self.inside.schedules.next ≡ later =
    λ i. told (c.self.view_is i).schedules.repeats.within (c.from_ms.ensures i) c.args.now (c.self.view_is i).changed (c.self.view_is i).refused
    (c.self.view_is i).schedules.next in
    then_told _ pending later _ _ _ _ _ _ _ _ (tells_as _ _ _ _ _ _ _ _ first c.in_ok-purge.ensures.tells)
    (tells_as _ _ _ _ _ _ _ _ second c.purge_next.ensures.tells)
