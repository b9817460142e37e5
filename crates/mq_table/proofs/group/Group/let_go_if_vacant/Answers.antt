use Rattle.mq_table.proofs.Common.{◌≡◌, true, None, ◌∙◌, ap, sym, cond, GroupState, vacant, is_vacant, StoredGroup}
use Rattle.mq_table.proofs.SourceLists.{vacant_if}
use Rattle.mq_table.proofs.group.Group.let_go_if_vacant.Goals as goal

pub returns-then-is_vacant-clause-state : goal.returns-then-is_vacant-clause-state
returns-then-is_vacant-clause-state g c =
    let vacant_before : is_vacant c.args.self.now.state ≡ true = sym c.is_vacant.ensures ∙ c.if-is_vacant.true in
    ap (λ (s : StoredGroup). let r : GroupState = record { mode = s.state.mode; sources = s.state.sources; v1 = None; v2 = None } in r) c.self.view_is
    ∙ vacant_if c.args.self.now.state vacant_before ∙ ap (λ b. cond b vacant c.args.self.now.state) (sym vacant_before)
