use Rattle.mq_link.proofs.Common.{[], sym, ap, ◌∙◌, Limits, LinkValue, WorkspaceState, suffices}
use Rattle.mq_arena.proofs.Takes.{both, refused}
use Rattle.mq_link.proofs.Rooms.{suffices_own}
use Rattle.mq_link.proofs.link.Link.new_in.Goals as goal

pub invariant_of-result : goal.invariant_of-result
invariant_of-result g c =
    let limits = c.room.ensures in
    let config = ap (λ (l : LinkValue). l.config.room) c.in_ok-new_in.ensures.link in (
      (λ i. suffices (config i) (c.in_ok-workspace.ensures.workspace i)) ∙
          (λ i. suffices c.args.config.room (record { groups = (limits i).groups; group_sources = (limits i).group_sources; changed = [] })) ∙
          suffices_own c.args.config.room [],
      ap (λ (w : WorkspaceState). w.groups) c.in_ok-workspace.ensures.workspace ∙ ap (λ (l : Limits). l.groups) limits ∙
          sym (ap (λ (l : Limits). l.groups) config),
    )

pub returns-in_err-new_in-clause-memory : goal.returns-in_err-new_in-clause-memory
returns-in_err-new_in-clause-memory g c =
    let taken = both c.in_ok-workspace.ensures.memory c.in_err-new_in.ensures.memory in
    refused c.from_residual-in_err-new_in.result c.from_residual-in_err-new_in.ensures.0 (rw (c.room.ensures) at taken)

pub returns-clause-memory : goal.returns-clause-memory
returns-clause-memory g c = rw (c.room.ensures) at (both c.in_ok-workspace.ensures.memory c.in_ok-new_in.ensures.memory)
