use Rattle.mq_link.proofs.Common.{sym, ap, ◌∙◌, subst, Configuration, HasReceived, LinkValue, WorkspaceState, suffices}
use Rattle.mq_link.proofs.link.Link.receive.Goals as goal

pub invariant_of-self : goal.invariant_of-self
invariant_of-self g c =
    let config = c.receive_in.ensures.config in
    let workspace = c.receive_in.ensures.workspace in (
      (λ i. suffices (config i).room (workspace i)) ∙ c.self.invariant.0,
      ap (λ (w : WorkspaceState). w.groups) workspace ∙ c.self.invariant.1 ∙ sym (ap (λ (k : Configuration). k.room.groups) config),
    )

pub receive_in-requires-clause-enough : goal.receive_in-requires-clause-enough
receive_in-requires-clause-enough g c = c.self.invariant.0

pub returns-clause-receives : goal.returns-clause-receives
returns-clause-receives g c =
    let takes = g.O.QueryOutlet.takes in
    let around = g.F.Family.envelope_of c.args.envelope.now in
    let before : LinkValue = record c.self.inside.bare { changed = c.self.inside.workspace.changed } in
    let left : LinkValue = record c.receive_in.new.self { changed = c.receive_in.new.workspace.changed } in
    let did = c.receive_in.ensures.receives in
    let there : HasReceived takes around c.args.body.now c.args.now c.receive_in.result before left c.args.outlet.now c.receive_in.new.outlet =
    record { messages = did.messages; answers = did.answers; receives = did.receives; handed = did.handed } in
    subst (λ v. HasReceived takes around c.args.body.now c.args.now c.receive_in.result v left c.args.outlet.now c.receive_in.new.outlet) c.self.view_is there
