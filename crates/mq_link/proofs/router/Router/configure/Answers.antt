use Rattle.mq_link.proofs.Common.{◌≡◌, ◌∙◌, ap, sym, subst, Configuration, IsStored, RouterValue, Setting}
use Rattle.mq_link.specs.Configuring.{are_barred, exceeds_room}
use Rattle.mq_link.proofs.Reconfigured.{sound_configured, within_room}
use Rattle.mq_link.proofs.router.Router.configure.Goals as goal

pub invariant_of-self : goal.invariant_of-self
invariant_of-self g c =
    let parts = c.self.inside in
    let asked = c.args.config in
    let was = c.self.invariant in
    let family = subst (λ (r : RouterValue). asked.family ≡ r.at.config.family) (sym c.self.view_is)
    (c.is_faultless.ensures.family ∙ sym c.lemma_is_stored.ensures.family) in
    let groups = ap (λ (r : RouterValue). r.groups) c.self.view_is ∙ sym c.held.ensures in
    let none = (λ i. are_barred asked (groups i)) ∙ sym c.are_barred.ensures ∙ c.if-are_barred.false in
    let room = ap (λ (r : RouterValue). r.at.config.room) c.self.view_is ∙ sym (c.room.ensures ∙ ap (λ (k : Configuration). k.room) c.config.ensures) in
    let limits = sym c.limits.ensures in
    let fits = (λ i. exceeds_room (room i) (limits i)) ∙ sym c.exceeds_room.ensures ∙ c.if-exceeds_room.false in
    let stored : IsStored (record parts.status { config = _; election = _ }) parts.storage = record {
      sound = sound_configured parts.status asked parts.storage.held.groups family none was.sound;
      within = within_room parts.status.config asked fits was.within;
      group_room = was.group_room;
      source_room = was.source_room;
    } in
    subst (λ (s : Setting). IsStored s parts.storage) (sym c.configure.ensures) stored
