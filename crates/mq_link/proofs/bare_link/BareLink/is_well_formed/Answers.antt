use Rattle.mq_link.proofs.Common.{◌<◌, max, subst, arith, LinkValue, RouterValue, state_of, IsWellFormed, tick_of, next_of}
use Rattle.mq_link.proofs.{Faultless.timing_in_range, Later.later_after_tick, LinkStored.well_formed_at}
use Rattle.mq_link.proofs.bare_link.BareLink.is_well_formed.Goals as goal

pub returns-clause-formed : goal.returns-clause-formed
returns-clause-formed g c =
    let sure = c.lemma_is_stored.ensures in
    subst (λ (v : LinkValue). IsWellFormed v.config v.state) c.self.view_is (well_formed_at c.self.inside.router sure.sound sure.timing)

pub returns-clause-later : goal.returns-clause-later
returns-clause-later g c now =
    let router : RouterValue = c.self.inside.router in
    let sure = c.lemma_is_stored.ensures in
    let formed = well_formed_at router sure.sound sure.timing in
    let later = later_after_tick router.at.config (max router.at.now now) (state_of router) (timing_in_range router.at.config sure.faultless) formed in
    subst (λ (v : LinkValue). now < next_of (tick_of v.config now v.state).state) c.self.view_is (omega (arith, later))
