use Rattle.mq_link.proofs.Common.{◌≡◌, ◌*◌, ◌≤◌, length, refl, sym, subst, arith, le-max_left, le-max_right, Spends-within, own_sources, QueryVersion, Older}
use Rattle.mq_link.proofs.Common.{Current, source_count, numbered_version, AreThose, taken_in, WorkspaceState, with_changed}
use Rattle.std.specs.FinMap as map
use Rattle.mq_link.proofs.{Faultless.few_groups, ListedGroups.those_alone, Moved.paid_within, MovedRecords.report_moves_within, RecordCosts.report_within}
use Rattle.mq_link.proofs.{RecordCosts.statement_within}
use Rattle.mq_link.proofs.router.Router.take_message.Goals as goal

pub returns-in-Query-clause-receipt : goal.returns-in-Query-clause-receipt
unfolding taken_in
returns-in-Query-clause-receipt g c =
    let source = c.source-source.ensures in
    rw (c.in-Query.is, ← source) (record { step = record { leaves = c.hear.ensures.leaves; sent = refl }; answer_is = refl })

pub returns-in-OldReport-clause-receipt : goal.returns-in-OldReport-clause-receipt
unfolding taken_in
returns-in-OldReport-clause-receipt g c = rw c.in-OldReport.is c.take_statement.ensures.receipt

pub returns-in-Leave-clause-receipt : goal.returns-in-Leave-clause-receipt
unfolding taken_in
returns-in-Leave-clause-receipt g c = rw c.in-Leave.is c.take_statement-in-Leave.ensures.receipt

pub returns-in-Report-clause-receipt : goal.returns-in-Report-clause-receipt
unfolding taken_in
returns-in-Report-clause-receipt g c = rw c.in-Report.is c.take_records.ensures.receipt

pub returns-in-OldReport-clause-spent : goal.returns-in-OldReport-clause-spent
returns-in-OldReport-clause-spent g c =
    let before = c.args.self.now in
    let few : map.len before.groups ≤ 65535 =
    omega (arith, c.lemma_is_stored.ensures.sound.within.group_count, few_groups before.at.config c.lemma_is_stored.ensures.faultless) in
    rw c.in-OldReport.is (statement_within before.groups (g.F.Address.Key.number c.in-OldReport.group) _ _ _ _ few c.take_statement.ensures.spent)

pub returns-in-Leave-clause-spent : goal.returns-in-Leave-clause-spent
returns-in-Leave-clause-spent g c =
    let before = c.args.self.now in
    let few : map.len before.groups ≤ 65535 =
    omega (arith, c.lemma_is_stored.ensures.sound.within.group_count, few_groups before.at.config c.lemma_is_stored.ensures.faultless) in
    rw c.in-Leave.is (statement_within before.groups (g.F.Address.Key.number c.in-Leave.group) _ _ _ _ few c.take_statement-in-Leave.ensures.spent)

pub returns-in-Report-clause-spent : goal.returns-in-Report-clause-spent
returns-in-Report-clause-spent g c =
    let most = le-max_right (20 * map.len c.args.self.now.groups) (length c.args.work.now.changed) in
    rw c.in-Report.is (Spends-within _ _ c.take_records.ensures.spent (omega arith) (omega (arith, report_within c.in-Report.records, most)))

-- a query names as many sources, whatever its addresses are
as_many_named : {K : Type 0} (version : QueryVersion K) → source_count (numbered_version version) ≡ source_count version
as_many_named (Older version) = refl
as_many_named (Current fields) = refl

pub returns-in-Query-clause-spent : goal.returns-in-Query-clause-spent
returns-in-Query-clause-spent g c =
    let most = le-max_left (20 * map.len c.args.self.now.groups) (length c.args.work.now.changed) in
    let named = as_many_named c.in-Query.query.version in
    rw c.in-Query.is (Spends-within _ _ c.hear.ensures.spent (omega arith) (omega (arith, most, named)))

pub returns-in-Query-clause-workspace : goal.returns-in-Query-clause-workspace
returns-in-Query-clause-workspace g c = λ i. with_changed (c.hear.ensures.workspace i) c.hear.new.work.changed

pub returns-in-Query-clause-changed : goal.returns-in-Query-clause-changed
returns-in-Query-clause-changed g c by_tick those =
    rw c.in-Query.is (those_alone (subst (λ (w : WorkspaceState). AreThose by_tick w.changed) (sym c.hear.ensures.workspace) those))

pub returns-in-OldReport-clause-changed : goal.returns-in-OldReport-clause-changed
returns-in-OldReport-clause-changed g c by_tick those = rw c.in-OldReport.is (c.take_statement.ensures.changed by_tick those)

pub returns-in-Leave-clause-changed : goal.returns-in-Leave-clause-changed
returns-in-Leave-clause-changed g c by_tick those = rw c.in-Leave.is (c.take_statement-in-Leave.ensures.changed by_tick those)

pub returns-in-Report-clause-changed : goal.returns-in-Report-clause-changed
returns-in-Report-clause-changed g c by_tick those = rw c.in-Report.is (c.take_records.ensures.changed by_tick those)

pub returns-in-Query-clause-moved : goal.returns-in-Query-clause-moved
returns-in-Query-clause-moved g c = rw c.in-Query.is (paid_within _ c.hear.ensures.moved (omega arith))

pub returns-in-OldReport-clause-moved : goal.returns-in-OldReport-clause-moved
returns-in-OldReport-clause-moved g c =
    let own = own_sources c.args.self.now.groups (g.F.Address.Key.number c.in-OldReport.group) in
    rw c.in-OldReport.is (paid_within _ c.take_statement.ensures.moved (omega (arith, own)))

pub returns-in-Leave-clause-moved : goal.returns-in-Leave-clause-moved
returns-in-Leave-clause-moved g c =
    let own = own_sources c.args.self.now.groups (g.F.Address.Key.number c.in-Leave.group) in
    rw c.in-Leave.is (paid_within _ c.take_statement-in-Leave.ensures.moved (omega (arith, own)))

pub returns-in-Report-clause-moved : goal.returns-in-Report-clause-moved
returns-in-Report-clause-moved g c =
    rw c.in-Report.is (paid_within _ c.take_records.ensures.moved (omega (arith, report_moves_within c.in-Report.records)))
