use Rattle.mq_link.proofs.Common.{◌≡◌, ◌+◌, ◌<◌, ◌≤◌, ◌^◌, subst, AreInRange, IsFaultless, IsWithinRoom, RouterValue, AreSound, sources_in}
use Rattle.std.specs.FinMap as map
use Rattle.mq_link.proofs.PaidEdits.{put_by_few}
use Rattle.mq_link.proofs.router.Router.lemma_is_stored.Goals as goal

pub returns : goal.returns
returns g c =
    let sure = c.lemma_is_sound.ensures in
    record {
      put_by = subst (λ (r : RouterValue). r.put_by ≤ sources_in r.groups + map.len r.groups) c.self.view_is (put_by_few c.self.inside.storage.held);
      sound = subst (λ (r : RouterValue). AreSound r.at r.groups) c.self.view_is c.self.invariant.sound;
      faultless = subst (λ (r : RouterValue). IsFaultless r.at.config) c.self.view_is sure.faultless;
      within = subst (λ (r : RouterValue). IsWithinRoom r.at.config) c.self.view_is sure.within;
      family = subst (λ (r : RouterValue). r.at.config.family ≡ g.F.Family.FAMILY) c.self.view_is sure.family;
      timing = subst (λ (r : RouterValue). AreInRange r.at.election.timing) c.self.view_is sure.timing;
      positive = subst (λ (r : RouterValue). 0 < r.at.election.timing.robustness) c.self.view_is sure.positive;
      in_range = subst (λ (r : RouterValue). r.at.now ≤ 2 ^ 53) c.self.view_is sure.in_range;
    }
