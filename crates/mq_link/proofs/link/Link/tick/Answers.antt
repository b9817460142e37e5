use Rattle.mq_link.proofs.Common.{sym, ap, ◌∙◌, subst, Configuration, HasTicked, LinkValue, WorkspaceState, suffices}
use Rattle.mq_link.proofs.link.Link.tick.Goals as goal

pub invariant_of-self : goal.invariant_of-self
invariant_of-self g c =
    let config = c.tick_in.ensures.config in
    let workspace = c.tick_in.ensures.workspace in (
      (λ i. suffices (config i).room (workspace i)) ∙ c.self.invariant.0,
      ap (λ (w : WorkspaceState). w.groups) workspace ∙ c.self.invariant.1 ∙ sym (ap (λ (k : Configuration). k.room.groups) config),
    )

pub tick_in-requires-clause-enough : goal.tick_in-requires-clause-enough
tick_in-requires-clause-enough g c = c.self.invariant.0

pub returns-clause-ticks : goal.returns-clause-ticks
returns-clause-ticks g c =
    let takes = g.O.QueryOutlet.takes in
    let before : LinkValue = record c.self.inside.bare { changed = c.self.inside.workspace.changed } in
    let left : LinkValue = record c.tick_in.new.self { changed = c.tick_in.new.workspace.changed } in
    let did = c.tick_in.ensures.ticks in
    let there : HasTicked takes c.args.now before left c.args.outlet.now c.tick_in.new.outlet =
    record { messages = did.messages; answers = did.answers; ticks = did.ticks; handed = did.handed } in
    subst (λ v. HasTicked takes c.args.now v left c.args.outlet.now c.tick_in.new.outlet) c.self.view_is there
